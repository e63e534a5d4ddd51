-- Lists with the same records reach the same lengths, so a table is unique. Assumes nothing.
use Rattle.std.proofs.Common.{◌≡◌, ℕ, zero, suc, List, [], ◌∷◌, Some, None, Option, refl, ap, ◌∙◌, arith}
use Rattle.std.specs.List.{ContainsAt, AllByRecursion}
use Rattle.std.proofs.ByRecursion.{all-has}
use Rattle.kinds.specs.Rows.{Row, plus}
use Rattle.graph.specs.Schedules.{Record}
use Rattle.graph.specs.Legs.{Leg, End, leg_of, Step, leg_at, StepOf, Leads, length_of}
use Rattle.graph.specs.Tables.{LeastLength}
use Rattle.graph.specs.Laws.{TablesAreUnique}
use Rattle.kinds.proofs.Rows.{le_antisym}
use Rattle.graph.proofs.Lengths.{none_some}
use Rattle.graph.proofs.Least.{Reaches, least_reached, least_bound, least_from}

module _ (k : ℕ) where
  -- a leg of a list is one of a record that stands there
  pub leg_at_record :
      (rs : List (Record k)) (p : ℕ) (e : End) (g : Leg k) → leg_at k rs p e ≡ Some g
      → (r : Record k) × ContainsAt rs r × (leg_of k r e ≡ Some g)
  leg_at_record [] p e g h = absurd (none_some g h)
  leg_at_record (r ∷ rs) zero e g h = (r, (0, omega arith, λ d. refl), h)
  leg_at_record (r ∷ rs) (suc p) e g h = let (x, (q, l, at), f) = leg_at_record rs p e g h in (x, (suc q, omega arith, at), f)

  -- what holds of the legs of each record of a list holds of each step
  pub each_step :
      (Q : Record k → Type 0) (P : Leg k → Type 0) → ((r : Record k) → Q r → (e : End) (g : Leg k) → leg_of k r e ≡ Some g → P g)
      → (rs : List (Record k)) → AllByRecursion Q rs → (s : Step k) → StepOf k rs s → P s.leg
  each_step Q P f rs all s h =
      let (r, has, e) = leg_at_record rs s.number s.end s.leg h in
      f r (all-has Q rs r all has) s.end s.leg e

  -- each leg of a record that stands in a list is one of the list
  pub record_leg_at :
      (rs : List (Record k)) (r : Record k) (e : End) (g : Leg k) → ContainsAt rs r → leg_of k r e ≡ Some g
      → (p : ℕ) × (leg_at k rs p e ≡ Some g)
  record_leg_at [] r e g (q, l, at) h = absurd (omega arith)
  record_leg_at (x ∷ rs) r e g (zero, l, at) h = (0, ap (λ (y : Record k). leg_of k y e) (at r) ∙ h)
  record_leg_at (x ∷ rs) r e g (suc q, l, at) h = let (p, f) = record_leg_at rs r e g (q, omega arith, at) h in (suc p, f)

  -- a chain over a list is, but for the numbers, one over each list that has its records
  chain_over :
      (rs rs' : List (Record k)) → ((r : Record k) → ContainsAt rs r → ContainsAt rs' r)
      → (ss : List (Step k)) (u v : ℕ) → AllByRecursion (StepOf k rs) ss → Leads k u ss v → Reaches k rs' u v (length_of k ss)
  chain_over rs rs' f [] u v taken joined = ([], record { taken = tt; joined = joined }, refl)
  chain_over rs rs' f (s ∷ ss) u v taken joined =
      let (r, has, e) = leg_at_record rs s.number s.end s.leg taken.0 in
      let (p, at) = record_leg_at rs' r s.end s.leg (f r has) e in
      let (ts, c, same) = chain_over rs rs' f ss s.leg.to v taken.1 joined.1 in (
        record { number = p; end = s.end; leg = s.leg } ∷ ts,
        record {
          taken = (at, c.taken);
          joined = (joined.0, c.joined);
        },
        ap (plus k s.leg.length) same,
      )

  -- so what the one list reaches the other reaches
  pub reaches_over :
      (rs rs' : List (Record k)) → ((r : Record k) → ContainsAt rs r → ContainsAt rs' r)
      → (u v : ℕ) (w : Row k) → Reaches k rs u v w → Reaches k rs' u v w
  reaches_over rs rs' f u v w (ss, c, e) = rw (← e) (chain_over rs rs' f ss u v c.taken c.joined)

  -- a least length is one over each list that reaches the same
  pub least_over :
      (rs rs' : List (Record k)) (u v : ℕ) (c : Option (Row k)) → ((r : Record k) → ContainsAt rs r → ContainsAt rs' r)
      → ((r : Record k) → ContainsAt rs' r → ContainsAt rs r) → LeastLength k rs u v c → LeastLength k rs' u v c
  least_over rs rs' u v c there back h =
      least_from k rs' u v c (λ w e. reaches_over rs rs' there u v w (least_reached k rs u v c w h e))
      (λ w g. least_bound k rs u v c w h (reaches_over rs' rs back u v w g))

  -- two least lengths over one list are one
  least_unique :
      (rs : List (Record k)) (u v : ℕ) (c c' : Option (Row k)) → LeastLength k rs u v c → LeastLength k rs u v c' → c ≡ c'
  least_unique rs u v None None p q = refl
  least_unique rs u v None (Some y) p q = absurd (least_bound k rs u v None y p q.0)
  least_unique rs u v (Some x) None p q = absurd (least_bound k rs u v None x q p.0)
  least_unique rs u v (Some x) (Some y) p q =
      ap Some (le_antisym k x y (least_bound k rs u v (Some x) y p q.0) (least_bound k rs u v (Some y) x q p.0))

-- the table of the one list is one of the other
pub tables_are_unique : TablesAreUnique
tables_are_unique k n rs rs' d d' same t t' u v pu pv =
    least_unique k rs' u v (d u v) (d' u v)
    (least_over k rs rs' u v (d u v) (λ r. (same r).0) (λ r. (same r).1) (t.least u v pu pv)) (t'.least u v pu pv)
