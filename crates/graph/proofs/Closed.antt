-- A record that cannot be added closes a chain that is shorter than zero, and no schedule keeps one. Assumes nothing.
use Rattle.std.proofs.Common.{◌≡◌, ℕ, List, [], ◌∷◌, ◌++◌, Some}
use Rattle.kinds.specs.Rows.{Row, zeros, plus, opposite, Le}
use Rattle.graph.specs.Schedules.{Record, NotAbove, Feasible}
use Rattle.graph.specs.Legs.{Low, High}
use Rattle.graph.specs.Tables.{Cells, LeastLength, negated}
use Rattle.kinds.proofs.Rows.{le_of_gap, opposite_opposite, plus_comm}
use Rattle.graph.proofs.Lengths.{above_rows, mapped_some}
use Rattle.graph.proofs.Chains.{low_way, high_way, leg_of_low, leg_of_high}
use Rattle.graph.proofs.Least.{Reaches, reaches_append, reaches_push, reaches_last, least_reached}
use Rattle.graph.proofs.Updates.{LowFits, HighFits}
use Rattle.graph.proofs.Keeping.{closed_kept}

module _ (k : ℕ) where
  -- some closed chain is shorter than zero
  abbrev pub Short : List (Record k) → Type 0
  Short rs = (u : ℕ) × (w : Row k) × Reaches k rs u u w × (Le k (zeros k) w → ⊥)

  -- then no schedule meets the list
  pub short_infeasible : (rs : List (Record k)) → Short rs → Feasible k rs → ⊥
  short_infeasible rs (u, w, h, below) (t, m) = below (closed_kept k t rs u w m h)

  -- the low end's leg, and a way back that is too short for it
  short_low :
      (rs : List (Record k)) (r : Record k) (l x : Row k) → r.low ≡ Some l → (Le k l x → ⊥)
      → Reaches k (rs ++ r ∷ []) r.second r.first x → Short (rs ++ r ∷ [])
  short_low rs r l x e above back =
      let leg : Reaches k (rs ++ r ∷ []) r.first r.second (opposite k l) = reaches_last k rs r Low (low_way k r l) (leg_of_low k r l e) in (
        r.first,
        plus k (opposite k l) x,
        reaches_append k (rs ++ r ∷ []) r.first r.second r.first (opposite k l) x leg back,
        λ h. above (le_of_gap k l x h),
      )

  -- the high end's leg, and a way back that is too short for it
  short_high :
      (rs : List (Record k)) (r : Record k) (h x : Row k) → r.high ≡ Some h → (Le k (opposite k x) h → ⊥)
      → Reaches k (rs ++ r ∷ []) r.first r.second x → Short (rs ++ r ∷ [])
  short_high rs r h x e above back =
      let leg : Reaches k (rs ++ r ∷ []) r.second r.first h = reaches_last k rs r High (high_way k r h) (leg_of_high k r h e) in (
        r.second,
        plus k h x,
        reaches_append k (rs ++ r ∷ []) r.second r.first r.second h x leg back,
        λ g. above (le_of_gap k (opposite k x) h (rw (opposite_opposite k x, plus_comm k x h) g)),
      )

  -- a record whose low end is above its high end
  pub short_turned : (rs : List (Record k)) (r : Record k) → (NotAbove k r.low r.high → ⊥) → Short (rs ++ r ∷ [])
  short_turned rs r n =
      let (l, h, at-l, at-h, above) = above_rows k r.low r.high n in
      short_low rs r l h at-l above (reaches_last k rs r High (high_way k r h) (leg_of_high k r h at-h))

  -- a record whose low end is above the range of its pins
  pub short_above :
      (rs : List (Record k)) (d : Cells k) (r : Record k) → LeastLength k rs r.second r.first (d r.second r.first)
      → (LowFits k d r → ⊥) → Short (rs ++ r ∷ [])
  short_above rs d r least n =
      let (l, x, at-l, at_x, above) = above_rows k r.low (d r.second r.first) n in
      let way : Reaches k rs r.second r.first x =
      least_reached k rs r.second r.first (d r.second r.first) x least at_x in
      short_low rs r l x at-l above (reaches_push k rs r r.second r.first x way)

  -- a record whose high end is below the range of its pins
  pub short_below :
      (rs : List (Record k)) (d : Cells k) (r : Record k) → LeastLength k rs r.first r.second (d r.first r.second)
      → (HighFits k d r → ⊥) → Short (rs ++ r ∷ [])
  short_below rs d r least n =
      let (y, h, at_y, at-h, above) = above_rows k (negated k (d r.first r.second)) r.high n in
      let (x, at_x, is_y) = mapped_some (opposite k) (d r.first r.second) y at_y in
      let way : Reaches k rs r.first r.second x =
      least_reached k rs r.first r.second (d r.first r.second) x least at_x in
      short_high rs r h x at-h (λ g. above (rw is_y at g)) (reaches_push k rs r r.first r.second x way)
