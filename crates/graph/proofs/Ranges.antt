-- What is refused is what no schedule meets, and a range is what schedules have. Assumes nothing.
use Rattle.std.proofs.Common.{◌≡◌, ℕ, List, [], ◌∷◌, ◌++◌, Some, None, Option, refl, inl, inr, arith}
use Rattle.std.specs.List.{AllByRecursion}
use Rattle.std.proofs.ByRecursion.{All-push}
use Rattle.kinds.specs.Rows.{Row, minus, Le}
use Rattle.graph.specs.Schedules.{Pin, Schedule, skew, Record, NotAbove, Meets, MeetsAll, Feasible, FeasibleWith, OnPins, Forward}
use Rattle.graph.specs.Tables.{Cells, Table, negated, updated, InRange, Refused}
use Rattle.graph.specs.Laws.{RefusedExactlyWhenNoSchedule, TheFirstRefusedIsTheLeastConflict, ARangeIsWhatSchedulesHave}
use Rattle.kinds.proofs.Rows.{le_refl, le_antisym, le_opposite, opposite_minus, minus_le_of_plus}
use Rattle.graph.proofs.Lengths.{Decided}
use Rattle.graph.proofs.Least.{least_reached}
use Rattle.graph.proofs.Updates.{LowFits, HighFits, updated_least}
use Rattle.graph.proofs.Tables.{low_fits_or_not, high_fits_or_not}
use Rattle.graph.proofs.Keeping.{reaches_kept}
use Rattle.graph.proofs.Finals.{latest, latest_meets, pins_among, table_feasible}
use Rattle.graph.proofs.Prefixes.{all_parts, conflict_after}
use Rattle.graph.proofs.Closed.{short_infeasible, short_above, short_below}

-- a schedule meets a list and a record exactly when it meets the list with the record at its end
feasible_pushed : (k : ℕ) (rs : List (Record k)) (r : Record k) → FeasibleWith k rs r → Feasible k (rs ++ r ∷ [])
feasible_pushed k rs r (t, m, one) = (t, All-push (Meets k t) rs r m one)

-- and the other way round
feasible_apart : (k : ℕ) (rs : List (Record k)) (r : Record k) → Feasible k (rs ++ r ∷ []) → FeasibleWith k rs r
feasible_apart k rs r (t, m) = let (all, one) = all_parts (Meets k t) rs (r ∷ []) m in (t, all, one.0)

module _ (k n : ℕ) (rs : List (Record k)) (d : Cells k) (table : Table k n rs d) where
  -- a refused record closes a chain shorter than zero
  refused_infeasible : (r : Record k) → OnPins k n r → Refused k d r → Feasible k (rs ++ r ∷ []) → ⊥
  refused_infeasible r f (inl h) =
      short_infeasible k (rs ++ r ∷ []) (short_above k rs d r (table.least r.second r.first f.second_pin f.first_pin) h)
  refused_infeasible r f (inr h) =
      short_infeasible k (rs ++ r ∷ []) (short_below k rs d r (table.least r.first r.second f.first_pin f.second_pin) h)

  -- the skew of a schedule is in the range: the chains between the pins bound it
  range_has_skew : (i j : ℕ) (t : Schedule k) → Pin n i → Pin n j → MeetsAll k t rs → InRange k d i j (skew k t i j)
  range_has_skew i j t pi pj m = (low (d i j) refl, high (d j i) refl)
    where
      grown : (u v : ℕ) (x : Row k) → Pin n u → Pin n v → d u v ≡ Some x → Le k (minus k (t v) (t u)) x
      grown u v x pu pv e =
          minus_le_of_plus k (t v) (t u) x (reaches_kept k t rs u v x m (least_reached k rs u v (d u v) x (table.least u v pu pv) e))

      low : (c : Option (Row k)) → d i j ≡ c → NotAbove k (negated k c) (Some (skew k t i j))
      low None e = tt
      low (Some x) e = rw (opposite_minus k (t j) (t i)) at (le_opposite k (minus k (t j) (t i)) x (grown i j x pi pj e))

      high : (c : Option (Row k)) → d j i ≡ c → NotAbove k (Some (skew k t i j)) c
      high None e = tt
      high (Some x) e = grown j i x pj pi e

module _ (k n : ℕ) (rs : List (Record k)) (d : Cells k) (on : AllByRecursion (OnPins k n) rs) (table : Table k n rs d) where
  -- a record on the pins that fits the range is met, together with the list, by some schedule
  schedule_for : (r : Record k) → OnPins k n r → Forward k r → LowFits k d r → HighFits k d r → FeasibleWith k rs r
  schedule_for r f forward low_fits high_fits =
      feasible_apart k rs r (
        latest k (updated k d r) 1 n,
        latest_meets k 1 n (rs ++ r ∷ []) (updated k d r)
            (λ u v p q.
            updated_least k (Pin n) rs d table.least r f.first_pin f.second_pin forward low_fits high_fits u v (omega arith) (omega arith))
            (pins_among k n (rs ++ r ∷ []) (All-push (OnPins k n) rs r on f)),
      )

  -- a record that no schedule meets with the list is refused
  infeasible_refused : (r : Record k) → OnPins k n r → Forward k r → (FeasibleWith k rs r → ⊥) → Refused k d r
  infeasible_refused r f forward none = by (low_fits_or_not k d r) (high_fits_or_not k d r)
    where
      by : Decided (LowFits k d r) → Decided (HighFits k d r) → Refused k d r
      by (inr p) q = inl p
      by (inl p) (inr q) = inr q
      by (inl p) (inl q) = absurd (none (schedule_for r f forward p q))

  -- a row in the range is the skew of a schedule: of one that meets the record with that row at both ends
  skew_from_range : (i j : ℕ) (s : Row k) → Pin n i → Pin n j → InRange k d i j s → (t : Schedule k) × MeetsAll k t rs × (skew k t i j ≡ s)
  skew_from_range i j s pi pj h =
      let r : Record k = record { first = i; second = j; low = Some s; high = Some s } in
      let (t, all, one) = schedule_for r (record { first_pin = pi; second_pin = pj }) (le_refl k s) h.1 h.0 in
      (t, all, le_antisym k (skew k t i j) s one.1 one.0)

-- both ways
pub refused_exactly_when_no_schedule : RefusedExactlyWhenNoSchedule
refused_exactly_when_no_schedule k n rs d r on table f forward = (
  λ refused h. refused_infeasible k n rs d table r f refused (feasible_pushed k rs r h),
  infeasible_refused k n rs d on table r f forward,
)

-- up to it the list is that of the refused record; before it the table gives a schedule
pub the_first_refused_is_the_least_conflict : TheFirstRefusedIsTheLeastConflict
the_first_refused_is_the_least_conflict k n rs later d r on table f refused =
    conflict_after k rs later r (refused_infeasible k n rs d table r f refused) (table_feasible k n rs d on table)

-- both ways
pub a_range_is_what_schedules_have : ARangeIsWhatSchedulesHave
a_range_is_what_schedules_have k n rs d on table i j s pi pj =
    (skew_from_range k n rs d on table i j s pi pj, λ (t, m, e). rw (← e) (range_has_skew k n rs d table i j t pi pj m))
