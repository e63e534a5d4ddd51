-- The table of no records, and the table once a record is added. Assumes nothing.
use Rattle.std.proofs.Common.{◌≡◌, ℕ, ⊎_elim, eqb, List, [], ◌∷◌, ◌++◌, Some, None, ap, inl, inr}
use Rattle.std.proofs.lemmas.Bool.{eqb-true, eqb-false, cond_both}
use Rattle.kinds.specs.Rows.{Row, zeros}
use Rattle.graph.specs.Schedules.{Pin, Record}
use Rattle.graph.specs.Tables.{Cells, Table, LeastLength, no_bounds, range_low, range_high, updated, Refused}
use Rattle.graph.specs.Laws.{NoRecordsHaveATable, TheUpdateIsTheTable}
use Rattle.graph.proofs.Lengths.{Decided, none_some, at_most_some, not_above_or_above}
use Rattle.graph.proofs.Least.{Reaches, LeastOn, least_from, least_zero}
use Rattle.graph.proofs.Agreement.{table_agrees}
use Rattle.graph.proofs.Updates.{LowFits, HighFits, updated_least}

module _ (k : ℕ) where
  -- without records no chain leaves its pin
  reached_none : (u v : ℕ) (w : Row k) → Reaches k [] u v w → (u ≡ v) × (zeros k ≡ w)
  reached_none u v w ([], c, e) = (c.joined, e)
  reached_none u v w (s ∷ ss, c, e) = absurd (none_some s.leg c.taken.0)

  -- without records the least lengths are zero and absent
  pub no_bounds_least : (u v : ℕ) → LeastLength k [] u v (no_bounds k u v)
  no_bounds_least u v =
      cond_both (eqb u v) (Some (zeros k)) None (LeastLength k [] u v)
      (λ e.
      least_from k [] u v (Some (zeros k)) (λ w h. ([], record { taken = tt; joined = eqb-true u v e }, (cc)))
      (λ w h. at_most_some k (Some (zeros k)) w (ap Some (reached_none u v w h).1)))
      (λ e. least_from k [] u v None (λ w h. absurd (none_some w h)) (λ w h. absurd (eqb-false u v e (reached_none u v w h).0)))

  -- whether the low end fits the range is decided
  pub low_fits_or_not : (d : Cells k) (r : Record k) → Decided (LowFits k d r)
  low_fits_or_not d r = not_above_or_above k r.low (range_high k d r.first r.second)

  -- and whether the high end does
  pub high_fits_or_not : (d : Cells k) (r : Record k) → Decided (HighFits k d r)
  high_fits_or_not d r = not_above_or_above k (range_low k d r.first r.second) r.high

  -- both ends of a record that is not refused fit the range
  pub not_refused : (d : Cells k) (r : Record k) → (Refused k d r → ⊥) → LowFits k d r × HighFits k d r
  not_refused d r h = (
    ⊎_elim (λ p. p) (λ n. absurd (h (inl n))) (low_fits_or_not d r),
    ⊎_elim (λ p. p) (λ n. absurd (h (inr n))) (high_fits_or_not d r),
  )

  -- least lengths between pins are a table: its diagonal is zero
  pub table_from : (n : ℕ) (rs : List (Record k)) (d : Cells k) → LeastOn k (Pin n) rs d → Table k n rs d
  table_from n rs d f = record { least = f; diagonal = λ u p. least_zero k rs u (d u u) (f u u p p) }

-- zero and absent
pub no_records_have_a_table : NoRecordsHaveATable
no_records_have_a_table k n d same =
    table_agrees k n (no_bounds k) d same [] (table_from k n [] (no_bounds k) (λ u v p q. no_bounds_least k u v))

-- the update law at the pins 1 to n
pub the_update_is_the_table : TheUpdateIsTheTable
the_update_is_the_table k n rs d e r t on forward h same =
    let fits = not_refused k d r h in
    table_agrees k n (updated k d r) e same (rs ++ r ∷ [])
    (table_from k n (rs ++ r ∷ []) (updated k d r)
    (updated_least k (Pin n) rs d t.least r on.first_pin on.second_pin forward fits.0 fits.1))
