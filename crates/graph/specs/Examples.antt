-- Worked examples: sheets by rows, what is asked of each, and the answer. Assumes nothing.
--     up n, down n            the number n, and −n
--     one a, pair a b         rows of one number and of two
--     there a                 an end or a cell of one number that is there
--     plain i j a b           the record on (i, j) from a to b, with one number each
--     plain_high i j b        the same with no low end
--     guarded i j a b         the record on (i, j) from a to b, with two numbers each
--     guarded_high i j b      the same with no low end
--     Answer k                what is told of a sheet
--     HasTable k n rs d       the records are on the pins 1 to n, and d is their table
--     Times k n d v ts        ts are the final times of the pins from v on
--     cells_by k rows         the cells of a table that is written row by row
--     Square k n rows         there are n rows, of n cells each
--     IsRight k n rs a        the answer is right, and speaks of pins 1 to n only
--     Example                 a count of numbers, a count of pins, records, and an answer
--     opened, once_committed, twice_committed
--                             a sheet of three pins, after the commit of 4 to 4 on (1, 3), and after that of 5 to 9 on (1, 2)
--     four, four_committed    a sheet of four pins with a record that has no low end, and after a commit that is cut
--     round w                 three strict bounds round three pins, the first of them at w
--     plain_on n rs a, guarded_on n rs a
--                             the example of n pins with these records and this answer, of one number and of two
--     worked                  the examples
--     WorkedExamplesHold    the answers of all of them are right
use Rattle.std.specs.Prelude.{◌≡◌, ℕ, suc, ◌-◌, List, [], ◌∷◌, ◌++◌, length, ℤ, pos, neg_ℤ, Some, None, Option, slice_index_or}
use Rattle.kinds.specs.Rows.{Row}
use Rattle.std.specs.List.{AllByRecursion}
use Rattle.graph.specs.Schedules.{Pin, Record, Feasible, LeastConflict, OnPins, Forward}
use Rattle.graph.specs.Legs.{Low, High, Step, length_of, Ring}
use Rattle.graph.specs.Tables.{Cells, Table, Agree, range_low, range_high, cut_low, cut_high, updated, Refused, FinalTime, EndsWithin}

abbrev pub up : ℕ → ℤ
up n = pos n

abbrev pub down : ℕ → ℤ
down n = neg_ℤ (pos n)

abbrev pub one : ℤ → Row 1
one a = (a, tt)

abbrev pub pair : ℤ → ℤ → Row 2
pair a b = (a, (b, tt))

abbrev pub there : ℤ → Option (Row 1)
there a = Some (one a)

abbrev pub plain : ℕ → ℕ → ℤ → ℤ → Record 1
plain i j a b = record { first = i; second = j; low = there a; high = there b }

abbrev pub plain_high : ℕ → ℕ → ℤ → Record 1
plain_high i j b = record { first = i; second = j; low = None; high = there b }

abbrev pub guarded : ℕ → ℕ → Row 2 → Row 2 → Record 2
guarded i j a b = record { first = i; second = j; low = Some a; high = Some b }

abbrev pub guarded_high : ℕ → ℕ → Row 2 → Record 2
guarded_high i j b = record { first = i; second = j; low = None; high = Some b }

pub data Answer (k : ℕ) : Type 0 where
  -- the range of (i, j) has these ends
  has_range : (i j : ℕ) (low high : Option (Row k)) → Answer k
  -- these are the rows of the table
  has_table : List (List (Option (Row k))) → Answer k
  -- these are the final times of the pins in turn
  has_times : List (Row k) → Answer k
  -- the record is refused
  refuses : Record k → Answer k
  -- the record is not refused
  takes : Record k → Answer k
  -- cut to the range, the record has these ends
  cuts : Record k → (low high : Option (Row k)) → Answer k
  -- the formula turns these rows of cells, whether a table or not, into those
  turns : List (List (Option (Row k))) → Record k → List (List (Option (Row k))) → Answer k
  -- with the record put before the list, these steps are a ring of this length
  has_ring : Record k → List (Step k) → Row k → Answer k
  -- some schedule meets all records
  can_be_met : Answer k
  -- no schedule meets records 1 to m, and m is the least such number
  conflicts_at : (m : ℕ) → Answer k
  -- no end has a number above the limit in size
  has_ends_within : (limit : ℕ) → Answer k

pub record HasTable (k n : ℕ) (rs : List (Record k)) (d : Cells k) : Type 0 where
  pub on_pins : AllByRecursion (OnPins k n) rs
  pub table : Table k n rs d

abbrev pub Times : (k n : ℕ) → Cells k → ℕ → List (Row k) → Type 0
Times k n d v [] = Unit {0}
Times k n d v (t ∷ ts) = FinalTime k n d v t × Times k n d (suc v) ts

abbrev pub cells_by : (k : ℕ) → List (List (Option (Row k))) → Cells k
cells_by k rows u v = slice_index_or (slice_index_or rows (u - 1) []) (v - 1) None

abbrev pub Square : (k n : ℕ) → List (List (Option (Row k))) → Type 0
Square k n rows = (length rows ≡ n) × AllByRecursion (λ row. length row ≡ n) rows

abbrev pub IsRight : (k n : ℕ) → List (Record k) → Answer k → Type 0
IsRight k n rs (has_range i j low high) =
    Pin n i × Pin n j × ((d : Cells k) × HasTable k n rs d × (range_low k d i j ≡ low) × (range_high k d i j ≡ high))
IsRight k n rs (has_table rows) = Square k n rows × HasTable k n rs (cells_by k rows)
IsRight k n rs (has_times ts) = (length ts ≡ n) × ((d : Cells k) × HasTable k n rs d × Times k n d 1 ts)
IsRight k n rs (refuses r) = OnPins k n r × Forward k r × ((d : Cells k) × HasTable k n rs d × Refused k d r)
IsRight k n rs (takes r) = OnPins k n r × Forward k r × ((d : Cells k) × HasTable k n rs d × (Refused k d r → ⊥))
IsRight k n rs (cuts r low high) =
    OnPins k n r × ((d : Cells k) × HasTable k n rs d × (cut_low k d r ≡ low) × (cut_high k d r ≡ high))
IsRight k n rs (turns before r after) =
    AllByRecursion (OnPins k n) rs × Square k n before × OnPins k n r × Square k n after
    × Agree k n (updated k (cells_by k before) r) (cells_by k after)
IsRight k n rs (has_ring r ss w) = AllByRecursion (OnPins k n) (r ∷ rs) × Ring k (r ∷ rs) ss × (length_of k ss ≡ w)
IsRight k n rs can_be_met = AllByRecursion (OnPins k n) rs × Feasible k rs
IsRight k n rs (conflicts_at m) = AllByRecursion (OnPins k n) rs × LeastConflict k rs m
IsRight k n rs (has_ends_within limit) = AllByRecursion (OnPins k n) rs × AllByRecursion (EndsWithin k limit) rs

pub record Example : Type 0 where
  pub numbers : ℕ
  pub pins : ℕ
  pub records : List (Record numbers)
  pub answer : Answer numbers

abbrev pub opened : List (Record 1)
opened = plain 1 2 (down 3) (up 5) ∷ plain 2 3 (down 2) (up 1) ∷ plain 3 1 (down 9) (up 1) ∷ []

abbrev pub once_committed : List (Record 1)
once_committed = opened ++ plain 1 3 (up 4) (up 4) ∷ []

abbrev pub twice_committed : List (Record 1)
twice_committed = once_committed ++ plain 1 2 (up 5) (up 9) ∷ []

abbrev pub four : List (Record 1)
four = plain 1 2 (down 1) (up 4) ∷ plain 2 3 (up 0) (up 3) ∷ plain_high 3 4 (up 2) ∷ []

abbrev pub four_committed : List (Record 1)
four_committed = four ++ plain 1 4 (up 6) (up 12) ∷ []

abbrev pub round : ℤ → List (Record 2)
round w = guarded_high 1 2 (pair w (down 1)) ∷ guarded_high 2 3 (pair (up 0) (down 1)) ∷ guarded_high 3 1 (pair (up 0) (down 1)) ∷ []

abbrev plain_on : (n : ℕ) → List (Record 1) → Answer 1 → Example
plain_on n rs a = record { numbers = 1; pins = n; records = rs; answer = a }

abbrev guarded_on : (n : ℕ) → List (Record 2) → Answer 2 → Example
guarded_on n rs a = record { numbers = 2; pins = n; records = rs; answer = a }

abbrev pub worked : List Example
worked =
    plain_on 3 opened (has_range 1 2 (there (down 2)) (there (up 5)))
    ∷ plain_on 3 opened (has_range 1 3 (there (down 1)) (there (up 6)))
    ∷ plain_on 3 opened (has_ends_within 9)
    ∷ plain_on 3 opened (takes (plain 1 3 (up 4) (up 4)))
    ∷ plain_on 3 once_committed (has_range 1 2 (there (up 3)) (there (up 5)))
    ∷ plain_on 3 once_committed (has_range 2 3 (there (down 1)) (there (up 1)))
    ∷ plain_on 3 once_committed (refuses (plain 1 2 (up 6) (up 6)))
    ∷ plain_on 3 once_committed
    (has_ring (plain 1 2 (up 6) (up 6))
    (record { number = 0; end = Low; leg = record { from = 1; to = 2; length = one (down 6) } }
    ∷ record { number = 1; end = High; leg = record { from = 2; to = 1; length = one (up 5) } } ∷ []) (one (down 1)))
    ∷ plain_on 3 once_committed (refuses (plain 1 2 (down 9) (up 2)))
    ∷ plain_on 3 once_committed (takes (plain 1 2 (up 5) (up 9)))
    ∷ plain_on 3 once_committed (cuts (plain 1 2 (up 5) (up 9)) (there (up 5)) (there (up 5)))
    ∷ plain_on 3 twice_committed (has_range 2 3 (there (down 1)) (there (down 1)))
    ∷ plain_on 3 twice_committed (has_times (one (up 0) ∷ one (down 5) ∷ one (down 4) ∷ []))
    ∷ plain_on 2 (plain_high 1 2 (up 2) ∷ plain_high 2 1 (down 3) ∷ []) (conflicts_at 2)
    ∷ plain_on 2 (plain_high 1 2 (up 2) ∷ plain_high 2 1 (down 2) ∷ []) can_be_met
    ∷ plain_on 2 (plain_high 1 2 (up 2) ∷ plain_high 2 1 (down 2) ∷ []) (has_range 1 2 (there (up 2)) (there (up 2)))
    ∷ plain_on 2 [] (has_range 1 2 None None)
    ∷ plain_on 2 [] (has_times (one (up 0) ∷ one (up 0) ∷ []))
    ∷ guarded_on 2 (guarded_high 1 2 (pair (up 5) (down 1)) ∷ []) (refuses (guarded 1 2 (pair (up 5) (up 0)) (pair (up 9) (up 0))))
    ∷ guarded_on 2 (guarded_high 1 2 (pair (up 5) (down 1)) ∷ []) (takes (guarded 1 2 (pair (up 4) (up 0)) (pair (up 9) (up 0))))
    ∷ guarded_on 3 (round (up 1)) can_be_met
    ∷ guarded_on 3 (round (up 0)) (conflicts_at 3)
    ∷ plain_on 4 four
    (has_table
    ((there (up 0) ∷ there (up 1) ∷ there (up 1) ∷ None ∷ [])
    ∷ (there (up 4) ∷ there (up 0) ∷ there (up 0) ∷ None ∷ [])
    ∷ (there (up 7) ∷ there (up 3) ∷ there (up 0) ∷ None ∷ [])
    ∷ (there (up 9) ∷ there (up 5) ∷ there (up 2) ∷ there (up 0) ∷ []) ∷ []))
    ∷ plain_on 4 four (takes (plain 1 4 (up 6) (up 12)))
    ∷ plain_on 4 four (cuts (plain 1 4 (up 6) (up 12)) (there (up 6)) (there (up 9)))
    ∷ plain_on 4 four_committed
    (has_table
    ((there (up 0) ∷ there (down 1) ∷ there (down 4) ∷ there (down 6) ∷ [])
    ∷ (there (up 4) ∷ there (up 0) ∷ there (up 0) ∷ there (down 2) ∷ [])
    ∷ (there (up 7) ∷ there (up 3) ∷ there (up 0) ∷ there (up 1) ∷ [])
    ∷ (there (up 9) ∷ there (up 5) ∷ there (up 2) ∷ there (up 0) ∷ []) ∷ []))
    ∷ plain_on 3 []
    (turns
    ((there (up 0) ∷ there (up 1) ∷ None ∷ [])
    ∷ (None ∷ there (up 0) ∷ None ∷ [])
    ∷ (there (up 1) ∷ there (up 5) ∷ there (up 0) ∷ []) ∷ [])
    (plain 1 2 (down 9) (up 7))
    ((there (up 0) ∷ there (up 1) ∷ None ∷ [])
    ∷ (there (up 7) ∷ there (up 0) ∷ None ∷ [])
    ∷ (there (up 1) ∷ there (up 2) ∷ there (up 0) ∷ []) ∷ []))
    ∷ plain_on 4 four_committed (has_times (one (up 0) ∷ one (down 1) ∷ one (down 4) ∷ one (down 6) ∷ []))
    ∷ []

abbrev pub WorkedExamplesHold : Type 0
WorkedExamplesHold = AllByRecursion (λ x. IsRight x.numbers x.pins x.records x.answer) worked
