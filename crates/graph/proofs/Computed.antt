-- Tests that compute, for the worked examples: records on the pins, cells that agree, final times. Assumes nothing.
use Rattle.std.proofs.Common.{◌≡◌, ℕ, zero, suc, Bool, true, false, ◌&&◌, T, leb, List, [], ◌∷◌, ◌++◌, Some, None, Option, refl, ap, inl, inr, arith, ⊎_elim}
use Rattle.std.specs.Ordering.{is_le}
use Rattle.std.specs.List.{AllByRecursion}
use Rattle.std.proofs.ByRecursion.{All-push}
use Rattle.std.proofs.lemmas.Bool.{cases_eq}
use Rattle.std.proofs.lemmas.Bool.Decides.{nat_tests}
use Rattle.kinds.specs.Rows.{Row, order}
use Rattle.graph.specs.Schedules.{Pin, Record, NotAbove, OnPins, Forward}
use Rattle.graph.specs.Tables.{Cells, Agree, range_low, range_high, updated, Refused, FinalTime}
use Rattle.graph.specs.Examples.{HasTable}
use Rattle.kinds.proofs.Rows.{le_antisym}
use Rattle.graph.proofs.Tables.{the_update_is_the_table}

-- the parts of two tests in one
pub both : (a b : Bool) → T (a && b) → T a × T b
both true b h = (tt, h)
both false b h = absurd h

-- a test at each pin
abbrev every : (ℕ → Bool) → ℕ → Bool
every f zero = true
every f (suc n) = every f n && f (suc n)

-- a test at each pin passes at one
every_at : (f : ℕ → Bool) (n : ℕ) → T (every f n) → (u : ℕ) → Pin n u → T (f u)
every_at f zero h u p = absurd (omega arith)
every_at f (suc n) h u p =
    let g = both (every f n) (f (suc n)) h in
    ⊎_elim (λ e. rw e g.1) (λ e. every_at f n g.0 u (omega arith)) (cases_eq u (suc n))

-- whether the one is not above the other
abbrev not_above : (k : ℕ) → Option (Row k) → Option (Row k) → Bool
not_above k None b = true
not_above k (Some x) None = true
not_above k (Some x) (Some y) = is_le (order k x y)

-- what that test says
not_above_from : (k : ℕ) (a b : Option (Row k)) → T (not_above k a b) → NotAbove k a b
not_above_from k None b h = tt
not_above_from k (Some x) None h = tt
not_above_from k (Some x) (Some y) h = h

-- whether two cells are the same
abbrev same_cell : (k : ℕ) → Option (Row k) → Option (Row k) → Bool
same_cell k None None = true
same_cell k None (Some y) = false
same_cell k (Some x) None = false
same_cell k (Some x) (Some y) = is_le (order k x y) && is_le (order k y x)

-- what that test says
same_cell_from : (k : ℕ) (a b : Option (Row k)) → T (same_cell k a b) → a ≡ b
same_cell_from k None None h = refl
same_cell_from k None (Some y) h = absurd h
same_cell_from k (Some x) None h = absurd h
same_cell_from k (Some x) (Some y) h =
    let g = both _ _ h in ap Some (le_antisym k x y g.0 g.1)

-- whether all cells between the pins are the same
abbrev same_cells : (k n : ℕ) → Cells k → Cells k → Bool
same_cells k n d e = every (λ u. every (λ v. same_cell k (d u v) (e u v)) n) n

-- what that test says
pub same_cells_from : (k n : ℕ) (d e : Cells k) → T (same_cells k n d e) → Agree k n d e
same_cells_from k n d e h u v p q =
    let row : T (every (λ y. same_cell k (d u y) (e u y)) n) = every_at (λ x. every (λ y. same_cell k (d x y) (e x y)) n) n h u p in
    same_cell_from k (d u v) (e u v) (every_at (λ y. same_cell k (d u y) (e u y)) n row v q)

-- whether u is one of the pins
abbrev pub is_pin : ℕ → ℕ → Bool
is_pin n u = leb 1 u && leb u n

-- what that test says
pub is_pin_from : (n u : ℕ) → T (is_pin n u) → Pin n u
is_pin_from n u h = (grind (arith, nat_tests), grind (arith, nat_tests))

-- whether both pins of a record are pins 1 to n
abbrev pub is_on_pins : {k : ℕ} → ℕ → Record k → Bool
is_on_pins n r = is_pin n r.first && is_pin n r.second

-- what that test says
pub on_pins_from : (k n : ℕ) (r : Record k) → T (is_on_pins n r) → OnPins k n r
on_pins_from k n r h =
    let g = both (is_pin n r.first) (is_pin n r.second) h in
    record { first_pin = is_pin_from n r.first g.0; second_pin = is_pin_from n r.second g.1 }

-- whether all records of a list are
abbrev are_on_pins : {k : ℕ} → ℕ → List (Record k) → Bool
are_on_pins n [] = true
are_on_pins n (r ∷ rs) = is_on_pins n r && are_on_pins n rs

-- what that test says
pub all_on_pins_from : (k n : ℕ) (rs : List (Record k)) → T (are_on_pins n rs) → AllByRecursion (OnPins k n) rs
all_on_pins_from k n [] h = tt
all_on_pins_from k n (r ∷ rs) h =
    let g = both (is_on_pins n r) (are_on_pins n rs) h in
    (on_pins_from k n r g.0, all_on_pins_from k n rs g.1)

-- whether low is not above high
abbrev pub is_forward : (k : ℕ) → Record k → Bool
is_forward k r = not_above k r.low r.high

-- what that test says
pub forward_from : (k : ℕ) (r : Record k) → T (is_forward k r) → Forward k r
forward_from k r h = not_above_from k r.low r.high h

-- whether a record is not refused
abbrev pub is_taken : (k : ℕ) → Cells k → Record k → Bool
is_taken k d r =
    not_above k r.low (range_high k d r.first r.second) && not_above k (range_low k d r.first r.second) r.high

-- what that test says
pub taken_from : (k : ℕ) (d : Cells k) (r : Record k) → T (is_taken k d r) → Refused k d r → ⊥
taken_from k d r h (inl x) = x (not_above_from k r.low (range_high k d r.first r.second) (both _ _ h).0)
taken_from k d r h (inr x) = x (not_above_from k (range_low k d r.first r.second) r.high (both _ _ h).1)

-- whether a record can be added, and e are the new cells
abbrev is_added : (k n : ℕ) → Cells k → Record k → Cells k → Bool
is_added k n d r e = is_on_pins n r && (is_forward k r && (is_taken k d r && same_cells k n (updated k d r) e))

-- a table with one record more, by that test
pub table_more :
    (k n : ℕ) (rs : List (Record k)) (d : Cells k) (r : Record k) (e : Cells k) → HasTable k n rs d
    → T (is_added k n d r e) → HasTable k n (rs ++ r ∷ []) e
table_more k n rs d r e s h =
    let g = both (is_on_pins n r) (is_forward k r && (is_taken k d r && same_cells k n (updated k d r) e)) h in
    let ends = both (is_forward k r) (is_taken k d r && same_cells k n (updated k d r) e) g.1 in
    let rest = both (is_taken k d r) (same_cells k n (updated k d r) e) ends.1 in
    let on : OnPins k n r = on_pins_from k n r g.0 in
    record {
      on_pins = All-push (OnPins k n) rs r s.on_pins on;
      table =
          the_update_is_the_table k n rs d e r s.table on (forward_from k r ends.0) (taken_from k d r rest.0)
          (same_cells_from k n (updated k d r) e rest.1);
    }

-- whether t is the cell in row u of a column, and above none
abbrev is_final : (k n : ℕ) → Cells k → ℕ → Row k → ℕ → Bool
is_final k n d v t u = is_pin n u && (same_cell k (d u v) (Some t) && every (λ x. not_above k (Some t) (d x v)) n)

-- what that test says
pub final_from : (k n : ℕ) (d : Cells k) (v : ℕ) (t : Row k) (u : ℕ) → T (is_final k n d v t u) → FinalTime k n d v t
final_from k n d v t u h =
    let g = both _ _ h in
    let rest = both _ _ g.1 in
    record {
      reached = (u, is_pin_from n u g.0, same_cell_from k (d u v) (Some t) rest.0);
      least = λ x p. not_above_from k (Some t) (d x v) (every_at (λ y. not_above k (Some t) (d y v)) n rest.1 x p);
    }
