-- Record by record: each longer front of a list has its least lengths, up to the first record that cannot be added. That one
-- closes a chain shorter than zero, so the list has a table or a least conflict. Assumes nothing.
use Rattle.std.proofs.Common.{◌≡◌, ℕ, ◌+◌, ◌-◌, ◌<◌, max, ◌⊎◌, List, [], ◌∷◌, ◌++◌, length, take, sym, refl, ap, ◌∙◌, subst, inl, inr, arith}
use Rattle.std.specs.List.{AllByRecursion}
use Rattle.std.proofs.ByRecursion.{All-take, has_append_left}
use Rattle.std.proofs.lemmas.List.{take-append-le, take_at, append_assoc, append-nil, length-append}
use Rattle.graph.specs.Schedules.{Record, NotAbove, Meets, Feasible, LeastConflict}
use Rattle.graph.specs.Tables.{Cells, Table, no_bounds, updated}
use Rattle.graph.specs.Laws.{ATableOrALeastConflict}
use Rattle.graph.proofs.Lengths.{Decided, not_above_or_above}
use Rattle.graph.proofs.Least.{LeastOn}
use Rattle.graph.proofs.Unique.{reaches_over}
use Rattle.graph.proofs.Updates.{LowFits, HighFits, updated_least}
use Rattle.graph.proofs.Tables.{no_bounds_least, low_fits_or_not, high_fits_or_not, table_from}
use Rattle.graph.proofs.Finals.{From, Among, latest, latest_meets}
use Rattle.graph.proofs.Closed.{Short, short_infeasible, short_turned, short_above, short_below}

-- what holds of each element of two lists together holds in both
pub all_parts : {X : Type 0} (P : X → Type 0) → (xs ys : List X) → AllByRecursion P (xs ++ ys) → AllByRecursion P xs × AllByRecursion P ys
all_parts P [] ys h = (tt, h)
all_parts P (x ∷ xs) ys h = let (p, q) = all_parts P xs ys h.1 in ((h.0, p), q)

module _ (k : ℕ) where
  -- where some schedule meets a list and none does with a record more, each longer list first has none there
  pub conflict_after :
      (rs later : List (Record k)) (r : Record k) → (Feasible k (rs ++ r ∷ []) → ⊥) → Feasible k rs
      → LeastConflict k (rs ++ r ∷ later) (length rs + 1)
  conflict_after rs later r none (t, m) = record {
    unmet = λ h. none (subst (Feasible k) upto h);
    before = λ l h. (t, rw (take-append-le l rs (r ∷ later) (omega arith)) (All-take (Meets k t) l rs m));
  }
    where
      upto : take (length rs + 1) (rs ++ r ∷ later) ≡ rs ++ r ∷ []
      upto =
          ap (take (length rs + 1)) (sym (append_assoc rs (r ∷ []) later))
          ∙ take_at (rs ++ r ∷ []) later (length rs + 1) (length-append rs (r ∷ []))

  -- a closed chain stays one over a list that goes on
  short_longer : (rs later : List (Record k)) → Short k rs → Short k (rs ++ later)
  short_longer rs later (u, w, h, below) = (u, w, reaches_over k rs (rs ++ later) (has_append_left rs later) u u w h, below)

  -- the first record of a list that cannot be added, and the least lengths of those before it
  record Stopped (lo m : ℕ) (rs : List (Record k)) : Type 0 where
    front : List (Record k)
    new : Record k
    later : List (Record k)
    parts : rs ≡ front ++ new ∷ later
    cells : Cells k
    least : LeastOn k (From lo m) front cells
    short : Short k (front ++ new ∷ [])

  -- the least lengths between m pins from lo on are known, or some record cannot be added
  abbrev Settled : ℕ → ℕ → List (Record k) → Type 0
  Settled lo m rs = ((d : Cells k) × LeastOn k (From lo m) rs d) ⊎ Stopped lo m rs

  -- one record more, by the tests of its ends
  one_more :
      (lo m : ℕ) (rs : List (Record k)) (r : Record k) → Among lo m r → (d : Cells k) → LeastOn k (From lo m) rs d
      → Decided (NotAbove k r.low r.high) → Decided (LowFits k d r) → Decided (HighFits k d r)
      → LeastOn k (From lo m) (rs ++ r ∷ []) (updated k d r) ⊎ Short k (rs ++ r ∷ [])
  one_more lo m rs r pins d least (inr x) y z = inr (short_turned k rs r x)
  one_more lo m rs r pins d least (inl x) (inr y) z =
      inr (short_above k rs d r (least r.second r.first pins.1 pins.0) y)
  one_more lo m rs r pins d least (inl x) (inl y) (inr z) =
      inr (short_below k rs d r (least r.first r.second pins.0 pins.1) z)
  one_more lo m rs r pins d least (inl x) (inl y) (inl z) =
      inl (updated_least k (From lo m) rs d least r pins.0 pins.1 x y z)

  -- record by record, from a front with its least lengths on
  settled :
      (lo m : ℕ) (later front : List (Record k)) (d : Cells k) → LeastOn k (From lo m) front d → AllByRecursion (Among lo m) later
      → Settled lo m (front ++ later)
  settled lo m [] front d least pins = rw (append-nil front) (inl (d, least))
  settled lo m (r ∷ later) front d least pins =
      by (one_more lo m front r pins.0 d least
      (not_above_or_above k r.low r.high) (low_fits_or_not k d r) (high_fits_or_not k d r))
      (λ more. settled lo m later (front ++ r ∷ []) (updated k d r) more pins.1)
    where
      by :
          LeastOn k (From lo m) (front ++ r ∷ []) (updated k d r) ⊎ Short k (front ++ r ∷ [])
          → (LeastOn k (From lo m) (front ++ r ∷ []) (updated k d r) → Settled lo m ((front ++ r ∷ []) ++ later))
          → Settled lo m (front ++ r ∷ later)
      by (inl more) rest = subst (Settled lo m) (append_assoc front (r ∷ []) later) (rest more)
      by (inr short) rest =
          inr (record { front = front; new = r; later = later; parts = refl; cells = d; least = least; short = short })

  -- the highest pin of a list
  abbrev highest : List (Record k) → ℕ
  highest [] = 0
  highest (r ∷ rs) = max (max r.first r.second) (highest rs)

  -- all pins are below each greater number
  highest_bounds : (rs : List (Record k)) (m : ℕ) → highest rs < m → AllByRecursion (Among 0 m) rs
  highest_bounds [] m h = tt
  highest_bounds (r ∷ rs) m h = ((omega arith, omega arith), highest_bounds rs m (omega arith))

  -- any list is settled between the pins from 0 on, its own and n more
  settled_list : (n : ℕ) (rs : List (Record k)) → Settled 0 (highest rs + n + 1) rs
  settled_list n rs =
      settled 0 (highest rs + n + 1) rs [] (no_bounds k) (λ u v p q. no_bounds_least k u v)
      (highest_bounds rs (highest rs + n + 1) (omega arith))

  -- a list is met by some schedule, or has a closed chain shorter than zero
  pub feasible_or_short : (rs : List (Record k)) → Feasible k rs ⊎ Short k rs
  feasible_or_short rs = by (highest rs + 0 + 1) (highest_bounds rs (highest rs + 0 + 1) (omega arith)) (settled_list 0 rs)
    where
      by : (m : ℕ) → AllByRecursion (Among 0 m) rs → Settled 0 m rs → Feasible k rs ⊎ Short k rs
      by m pins (inl (d, least)) = inl (latest k d 0 m, latest_meets k 0 m rs d least pins)
      by m pins (inr s) =
          inr (rw (s.parts, ← append_assoc s.front (s.new ∷ []) s.later) (short_longer (s.front ++ s.new ∷ []) s.later s.short))

  -- the least conflict where a record cannot be added, and the table before it
  stopped_conflict :
      (n m : ℕ) (rs : List (Record k)) → n < m → AllByRecursion (Among 0 m) rs → Stopped 0 m rs
      → (l : ℕ) × LeastConflict k rs l × ((d : Cells k) × Table k n (take (l - 1) rs) d)
  stopped_conflict n m rs h pins s =
      let (front-pins, other) = all_parts (Among 0 m) s.front (s.new ∷ s.later) (rw s.parts at pins) in
      let met : Feasible k s.front = (latest k s.cells 0 m, latest_meets k 0 m s.front s.cells s.least front-pins) in
      rw s.parts (
        length s.front + 1,
        conflict_after s.front s.later s.new (short_infeasible k (s.front ++ s.new ∷ []) s.short) met,
        (
          s.cells,
          rw (take_at s.front (s.new ∷ s.later) (length s.front + 1 - 1) (omega arith))
              (table_from k n s.front s.cells (λ u v p q. s.least u v (omega arith) (omega arith))),
        ),
      )

-- between enough pins the list is settled
pub a_table_or_a_least_conflict : ATableOrALeastConflict
a_table_or_a_least_conflict k n rs = by (settled_list k n rs)
  where
    by :
        Settled k 0 (highest k rs + n + 1) rs
        → ((d : Cells k) × Table k n rs d) ⊎ ((m : ℕ) × LeastConflict k rs m × ((d : Cells k) × Table k n (take (m - 1) rs) d))
    by (inl (d, least)) = inl (d, table_from k n rs d (λ u v p q. least u v (omega arith) (omega arith)))
    by (inr s) = inr (stopped_conflict k n (highest k rs + n + 1) rs (omega arith) (highest_bounds k rs (highest k rs + n + 1) (omega arith)) s)
