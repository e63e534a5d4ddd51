-- The worked examples hold: tables are reached record by record, and the rest is computed. Assumes nothing.
use Rattle.std.proofs.Common.{ℕ, zero, suc, ◌-◌, ◌<◌, ◌&&◌, T, List, [], ◌∷◌, get_or, take, Some, None, Option, refl, inl, inr, arith}
use Rattle.std.specs.List.{AllByRecursion}
use Rattle.kinds.specs.Rows.{Row, zeros}
use Rattle.graph.specs.Schedules.{Schedule, Record, Feasible}
use Rattle.graph.specs.Legs.{End, Low, High, Step, Ring}
use Rattle.graph.specs.Tables.{Cells, no_bounds, range_low, range_high, updated, Refused, EndsWithin}
use Rattle.graph.specs.Examples.{up, down, one, pair, there, plain, plain_high, guarded, guarded_high, HasTable, Times, cells_by, IsRight}
use Rattle.graph.specs.Examples.{has_range, refuses, takes}
use Rattle.graph.specs.Examples.{opened, once_committed, twice_committed, four, four_committed, round, WorkedExamplesHold}
use Rattle.graph.proofs.Tables.{no_records_have_a_table}
use Rattle.graph.proofs.Rings.{no_schedule_exactly_when_a_ring}
use Rattle.graph.proofs.Computed.{both, is_pin, is_pin_from, is_on_pins, on_pins_from, all_on_pins_from, is_forward, forward_from}
use Rattle.graph.proofs.Computed.{is_taken, taken_from, same_cells_from, table_more, final_from}

infixr 4 ◌&◌
-- one fact more
abbrev ◌&◌ : {A B : Type 0} → A → B → A × B
a & b = (a, b)

-- the schedule with these times
abbrev timed : (k : ℕ) → List (Row k) → Schedule k
timed k ts v = get_or ts (v - 1) (zeros k)

-- the step over an end of record p
abbrev over : (k p : ℕ) → End → ℕ → ℕ → Row k → Step k
over k p e u v w = record { number = p; end = e; leg = record { from = u; to = v; length = w } }

-- the table of no records
blank : (k n : ℕ) → HasTable k n [] (no_bounds k)
blank k n = record { on_pins = tt; table = no_records_have_a_table k n (no_bounds k) (λ u v p q. refl) }

-- the cells of the opened sheet, its first record
abbrev opened_first : Cells 1
opened_first =
    cells_by 1
    ((there (up 0) ∷ there (up 3) ∷ None ∷ [])
    ∷ (there (up 5) ∷ there (up 0) ∷ None ∷ [])
    ∷ (None ∷ None ∷ there (up 0) ∷ []) ∷ [])

-- they are its table
opened_first_table : HasTable 1 3 (take 1 opened) opened_first
opened_first_table = table_more 1 3 [] (no_bounds 1) (plain 1 2 (down 3) (up 5)) opened_first (blank 1 3) tt

-- the cells of the opened sheet, its first two records
abbrev opened_second : Cells 1
opened_second =
    cells_by 1
    ((there (up 0) ∷ there (up 3) ∷ there (up 5) ∷ [])
    ∷ (there (up 5) ∷ there (up 0) ∷ there (up 2) ∷ [])
    ∷ (there (up 6) ∷ there (up 1) ∷ there (up 0) ∷ []) ∷ [])

-- they are its table
opened_second_table : HasTable 1 3 (take 2 opened) opened_second
opened_second_table = table_more 1 3 (take 1 opened) opened_first (plain 2 3 (down 2) (up 1)) opened_second opened_first_table tt

-- the cells of the opened sheet
abbrev opened_all : Cells 1
opened_all =
    cells_by 1
    ((there (up 0) ∷ there (up 2) ∷ there (up 1) ∷ [])
    ∷ (there (up 5) ∷ there (up 0) ∷ there (up 2) ∷ [])
    ∷ (there (up 6) ∷ there (up 1) ∷ there (up 0) ∷ []) ∷ [])

-- they are its table
opened_all_table : HasTable 1 3 opened opened_all
opened_all_table = table_more 1 3 (take 2 opened) opened_second (plain 3 1 (down 9) (up 1)) opened_all opened_second_table tt

-- the cells of the opened sheet after one commit
abbrev after_one : Cells 1
after_one =
    cells_by 1
    ((there (up 0) ∷ there (down 3) ∷ there (down 4) ∷ [])
    ∷ (there (up 5) ∷ there (up 0) ∷ there (up 1) ∷ [])
    ∷ (there (up 4) ∷ there (up 1) ∷ there (up 0) ∷ []) ∷ [])

-- they are its table
after_one_table : HasTable 1 3 once_committed after_one
after_one_table = table_more 1 3 opened opened_all (plain 1 3 (up 4) (up 4)) after_one opened_all_table tt

-- the cells of the opened sheet after two commits
abbrev after_two : Cells 1
after_two =
    cells_by 1
    ((there (up 0) ∷ there (down 5) ∷ there (down 4) ∷ [])
    ∷ (there (up 5) ∷ there (up 0) ∷ there (up 1) ∷ [])
    ∷ (there (up 4) ∷ there (down 1) ∷ there (up 0) ∷ []) ∷ [])

-- they are its table
after_two_table : HasTable 1 3 twice_committed after_two
after_two_table = table_more 1 3 once_committed after_one (plain 1 2 (up 5) (up 9)) after_two after_one_table tt

-- the cells of the sheet of four pins, its first record
abbrev four_first : Cells 1
four_first =
    cells_by 1
    ((there (up 0) ∷ there (up 1) ∷ None ∷ None ∷ [])
    ∷ (there (up 4) ∷ there (up 0) ∷ None ∷ None ∷ [])
    ∷ (None ∷ None ∷ there (up 0) ∷ None ∷ [])
    ∷ (None ∷ None ∷ None ∷ there (up 0) ∷ []) ∷ [])

-- they are its table
four_first_table : HasTable 1 4 (take 1 four) four_first
four_first_table = table_more 1 4 [] (no_bounds 1) (plain 1 2 (down 1) (up 4)) four_first (blank 1 4) tt

-- the cells of the sheet of four pins, its first two records
abbrev four_second : Cells 1
four_second =
    cells_by 1
    ((there (up 0) ∷ there (up 1) ∷ there (up 1) ∷ None ∷ [])
    ∷ (there (up 4) ∷ there (up 0) ∷ there (up 0) ∷ None ∷ [])
    ∷ (there (up 7) ∷ there (up 3) ∷ there (up 0) ∷ None ∷ [])
    ∷ (None ∷ None ∷ None ∷ there (up 0) ∷ []) ∷ [])

-- they are its table
four_second_table : HasTable 1 4 (take 2 four) four_second
four_second_table = table_more 1 4 (take 1 four) four_first (plain 2 3 (up 0) (up 3)) four_second four_first_table tt

-- the cells of the sheet of four pins
abbrev four_all : Cells 1
four_all =
    cells_by 1
    ((there (up 0) ∷ there (up 1) ∷ there (up 1) ∷ None ∷ [])
    ∷ (there (up 4) ∷ there (up 0) ∷ there (up 0) ∷ None ∷ [])
    ∷ (there (up 7) ∷ there (up 3) ∷ there (up 0) ∷ None ∷ [])
    ∷ (there (up 9) ∷ there (up 5) ∷ there (up 2) ∷ there (up 0) ∷ []) ∷ [])

-- they are its table
four_all_table : HasTable 1 4 four four_all
four_all_table = table_more 1 4 (take 2 four) four_second (plain_high 3 4 (up 2)) four_all four_second_table tt

-- the cells of the sheet of four pins after its commit
abbrev four_after : Cells 1
four_after =
    cells_by 1
    ((there (up 0) ∷ there (down 1) ∷ there (down 4) ∷ there (down 6) ∷ [])
    ∷ (there (up 4) ∷ there (up 0) ∷ there (up 0) ∷ there (down 2) ∷ [])
    ∷ (there (up 7) ∷ there (up 3) ∷ there (up 0) ∷ there (up 1) ∷ [])
    ∷ (there (up 9) ∷ there (up 5) ∷ there (up 2) ∷ there (up 0) ∷ []) ∷ [])

-- they are its table
four_after_table : HasTable 1 4 four_committed four_after
four_after_table = table_more 1 4 four four_all (plain 1 4 (up 6) (up 12)) four_after four_all_table tt

-- at most 2 one way and at most −2 the other
abbrev both_ways : List (Record 1)
both_ways = plain_high 1 2 (up 2) ∷ plain_high 2 1 (down 2) ∷ []

-- the cells of the first of the two bounds
abbrev ways_first : Cells 1
ways_first =
    cells_by 1
    ((there (up 0) ∷ None ∷ [])
    ∷ (there (up 2) ∷ there (up 0) ∷ []) ∷ [])

-- they are its table
ways_first_table : HasTable 1 2 (plain_high 1 2 (up 2) ∷ []) ways_first
ways_first_table = table_more 1 2 [] (no_bounds 1) (plain_high 1 2 (up 2)) ways_first (blank 1 2) tt

-- the cells of both bounds
abbrev ways_all : Cells 1
ways_all =
    cells_by 1
    ((there (up 0) ∷ there (down 2) ∷ [])
    ∷ (there (up 2) ∷ there (up 0) ∷ []) ∷ [])

-- they are their table
ways_all_table : HasTable 1 2 both_ways ways_all
ways_all_table = table_more 1 2 (plain_high 1 2 (up 2) ∷ []) ways_first (plain_high 2 1 (down 2)) ways_all ways_first_table tt

-- below 5, strictly
abbrev strict_high : List (Record 2)
strict_high = guarded_high 1 2 (pair (up 5) (down 1)) ∷ []

-- the cells of the strict bound
abbrev strict : Cells 2
strict =
    cells_by 2
    ((Some (pair (up 0) (up 0)) ∷ None ∷ [])
    ∷ (Some (pair (up 5) (down 1)) ∷ Some (pair (up 0) (up 0)) ∷ []) ∷ [])

-- they are its table
strict_table : HasTable 2 2 strict_high strict
strict_table = table_more 2 2 [] (no_bounds 2) (guarded_high 1 2 (pair (up 5) (down 1))) strict (blank 2 2) tt

-- the commit of 6 on (1, 2) and the first record's high end
six_ring : Ring 1 (plain 1 2 (up 6) (up 6) ∷ once_committed) (over 1 0 Low 1 2 (one (down 6)) ∷ over 1 1 High 2 1 (one (up 5)) ∷ [])
six_ring = record {
  closed = (1, record { taken = (refl, (refl, tt)); joined = (refl, (refl, refl)) });
  once = (((λ e. omega arith), tt), (tt, tt));
  short = λ h. h;
}

-- at most 2 one way and at most −3 the other
abbrev clash : List (Record 1)
clash = plain_high 1 2 (up 2) ∷ plain_high 2 1 (down 3) ∷ []

-- together they are a ring
clash_none : Feasible 1 clash → ⊥
clash_none = (no_schedule_exactly_when_a_ring 1 clash).1 (
  over 1 0 High 2 1 (one (up 2)) ∷ over 1 1 High 1 2 (one (down 3)) ∷ [],
  record {
    closed = (2, record { taken = (refl, (refl, tt)); joined = (refl, (refl, refl)) });
    once = (((λ e. omega arith), tt), (tt, tt));
    short = λ h. h;
  },
)

-- the first alone is met
clash_before : (l : ℕ) → l < 2 → Feasible 1 (take l clash)
clash_before zero h = (timed 1 [], tt)
clash_before (suc zero) h = (timed 1 [], ((tt, tt), tt))
clash_before (suc (suc l)) h = absurd (omega arith)

-- three strict bounds of zero round three pins
round_none : Feasible 2 (round (up 0)) → ⊥
round_none = (no_schedule_exactly_when_a_ring 2 (round (up 0))).1 (
  over 2 2 High 1 3 (pair (up 0) (down 1)) ∷ over 2 1 High 3 2 (pair (up 0) (down 1)) ∷ over 2 0 High 2 1 (pair (up 0) (down 1)) ∷ [],
  record {
    closed = (1, record { taken = (refl, (refl, (refl, tt))); joined = (refl, (refl, (refl, refl))) });
    once = (((λ e. omega arith), ((λ e. omega arith), tt)), (((λ e. omega arith), tt), (tt, tt)));
    short = λ h. h;
  },
)

-- two of them are met
round_before : (l : ℕ) → l < 3 → Feasible 2 (take l (round (up 0)))
round_before zero h = (timed 2 [], tt)
round_before (suc zero) h = (timed 2 (pair (up 0) (down 1) ∷ []), ((tt, tt), tt))
round_before (suc (suc zero)) h = (timed 2 (pair (up 0) (down 2) ∷ pair (up 0) (down 1) ∷ []), ((tt, tt), ((tt, tt), tt)))
round_before (suc (suc (suc l))) h = absurd (omega arith)

-- no end of the opened sheet is above 9 in size
opened_within : AllByRecursion (EndsWithin 1 9) opened
opened_within = (((omega arith, tt), (omega arith, tt)), (((omega arith, tt), (omega arith, tt)), (((omega arith, tt), (omega arith, tt)), tt)))

-- rows of cells that are no table
abbrev no_table : List (List (Option (Row 1)))
no_table =
    (there (up 0) ∷ there (up 1) ∷ None ∷ [])
    ∷ (None ∷ there (up 0) ∷ None ∷ [])
    ∷ (there (up 1) ∷ there (up 5) ∷ there (up 0) ∷ []) ∷ []

-- what the formula makes of them
abbrev turned : List (List (Option (Row 1)))
turned =
    (there (up 0) ∷ there (up 1) ∷ None ∷ [])
    ∷ (there (up 7) ∷ there (up 0) ∷ None ∷ [])
    ∷ (there (up 1) ∷ there (up 2) ∷ there (up 0) ∷ []) ∷ []

-- the final times after two commits, each with the row of the table that reaches it
after_two_times : Times 1 3 after_two 1 (one (up 0) ∷ one (down 5) ∷ one (down 4) ∷ [])
after_two_times =
    final_from 1 3 after_two 1 (one (up 0)) 1 tt
    & final_from 1 3 after_two 2 (one (down 5)) 1 tt
    & final_from 1 3 after_two 3 (one (down 4)) 1 tt
    & tt

-- those of two pins without records
blank_times : Times 1 2 (no_bounds 1) 1 (one (up 0) ∷ one (up 0) ∷ [])
blank_times = final_from 1 2 (no_bounds 1) 1 (one (up 0)) 1 tt & final_from 1 2 (no_bounds 1) 2 (one (up 0)) 2 tt & tt

-- those of four pins after the commit
four_times : Times 1 4 four_after 1 (one (up 0) ∷ one (down 1) ∷ one (down 4) ∷ one (down 6) ∷ [])
four_times =
    final_from 1 4 four_after 1 (one (up 0)) 1 tt
    & final_from 1 4 four_after 2 (one (down 1)) 1 tt
    & final_from 1 4 four_after 3 (one (down 4)) 1 tt
    & final_from 1 4 four_after 4 (one (down 6)) 1 tt
    & tt

-- a range, by tests that its pins are pins
range_from :
    (k n : ℕ) (rs : List (Record k)) (d : Cells k) (i j : ℕ) → HasTable k n rs d → T (is_pin n i && is_pin n j)
    → IsRight k n rs (has_range i j (range_low k d i j) (range_high k d i j))
range_from k n rs d i j s h =
    let g = both (is_pin n i) (is_pin n j) h in
    (is_pin_from n i g.0, is_pin_from n j g.1, (d, s, refl, refl))

-- a record that is refused, by a test that it is on the pins
refused_from :
    (k n : ℕ) (rs : List (Record k)) (d : Cells k) (r : Record k) → HasTable k n rs d → T (is_on_pins n r && is_forward k r)
    → Refused k d r → IsRight k n rs (refuses r)
refused_from k n rs d r s h refused =
    let g = both (is_on_pins n r) (is_forward k r) h in
    (on_pins_from k n r g.0, forward_from k r g.1, (d, s, refused))

-- a record that is taken, by tests
taken_by :
    (k n : ℕ) (rs : List (Record k)) (d : Cells k) (r : Record k) → HasTable k n rs d
    → T (is_on_pins n r && (is_forward k r && is_taken k d r)) → IsRight k n rs (takes r)
taken_by k n rs d r s h =
    let g = both (is_on_pins n r) (is_forward k r && is_taken k d r) h in
    let ends = both (is_forward k r) (is_taken k d r) g.1 in
    (on_pins_from k n r g.0, forward_from k r ends.0, (d, s, taken_from k d r ends.1))

-- in the order of the list
pub worked_examples_hold : WorkedExamplesHold
worked_examples_hold =
    range_from 1 3 opened opened_all 1 2 opened_all_table tt
    & range_from 1 3 opened opened_all 1 3 opened_all_table tt
    & (opened_all_table.on_pins, opened_within)
    & taken_by 1 3 opened opened_all (plain 1 3 (up 4) (up 4)) opened_all_table tt
    & range_from 1 3 once_committed after_one 1 2 after_one_table tt
    & range_from 1 3 once_committed after_one 2 3 after_one_table tt
    & refused_from 1 3 once_committed after_one (plain 1 2 (up 6) (up 6)) after_one_table tt (inl (λ h. h))
    & (all_on_pins_from 1 3 (plain 1 2 (up 6) (up 6) ∷ once_committed) tt, six_ring, refl)
    & refused_from 1 3 once_committed after_one (plain 1 2 (down 9) (up 2)) after_one_table tt (inr (λ h. h))
    & taken_by 1 3 once_committed after_one (plain 1 2 (up 5) (up 9)) after_one_table tt
    & (on_pins_from 1 3 (plain 1 2 (up 5) (up 9)) tt, (after_one, after_one_table, refl, refl))
    & range_from 1 3 twice_committed after_two 2 3 after_two_table tt
    & (refl, (after_two, after_two_table, after_two_times))
    & (all_on_pins_from 1 2 clash tt, record { unmet = clash_none; before = clash_before })
    & (ways_all_table.on_pins, (timed 1 (one (up 2) ∷ []), ((tt, tt), ((tt, tt), tt))))
    & range_from 1 2 both_ways ways_all 1 2 ways_all_table tt
    & range_from 1 2 [] (no_bounds 1) 1 2 (blank 1 2) tt
    & (refl, (no_bounds 1, blank 1 2, blank_times))
    & refused_from 2 2 strict_high strict (guarded 1 2 (pair (up 5) (up 0)) (pair (up 9) (up 0))) strict_table tt (inl (λ h. h))
    & taken_by 2 2 strict_high strict (guarded 1 2 (pair (up 4) (up 0)) (pair (up 9) (up 0))) strict_table tt
    & (
      all_on_pins_from 2 3 (round (up 1)) tt,
      (timed 2 (pair (up 0) (up 1) ∷ pair (up 0) (down 1) ∷ []), ((tt, tt), ((tt, tt), ((tt, tt), tt)))),
    )
    & (all_on_pins_from 2 3 (round (up 0)) tt, record { unmet = round_none; before = round_before })
    & ((refl, (refl, (refl, (refl, (refl, tt))))), four_all_table)
    & taken_by 1 4 four four_all (plain 1 4 (up 6) (up 12)) four_all_table tt
    & (on_pins_from 1 4 (plain 1 4 (up 6) (up 12)) tt, (four_all, four_all_table, refl, refl))
    & ((refl, (refl, (refl, (refl, (refl, tt))))), four_after_table)
    & (
      tt,
      (refl, (refl, (refl, (refl, tt)))),
      on_pins_from 1 3 (plain 1 2 (down 9) (up 7)) tt,
      (refl, (refl, (refl, (refl, tt)))),
      same_cells_from 1 3 (updated 1 (cells_by 1 no_table) (plain 1 2 (down 9) (up 7))) (cells_by 1 turned) tt,
    )
    & (refl, (four_after, four_after_table, four_times))
    & tt
