-- Schedules that meet records keep their legs, and with them each chain. Assumes nothing.
use Rattle.std.proofs.Common.{◌≡◌, ℕ, List, [], ◌∷◌, Some, None, Option, refl}
use Rattle.std.specs.List.{AllByRecursion}
use Rattle.kinds.specs.Rows.{Row, zeros, plus, opposite, minus, Le}
use Rattle.graph.specs.Schedules.{Schedule, skew, Record, NotAbove, Meets, MeetsAll}
use Rattle.graph.specs.Legs.{Leg, End, Low, High, leg_of, Keeps, Step, StepOf, Leads, length_of}
use Rattle.graph.specs.Laws.{MeetingIsKeepingTheLegs}
use Rattle.kinds.proofs.Rows.{le_refl, le_trans, le_plus, le_plus_cancel, le_opposite, opposite_opposite, opposite_minus, plus_zeros, plus_assoc, le_plus_of_minus}
use Rattle.graph.proofs.Chains.{low_way, high_way, leg_of_low, leg_of_high, each_leg}
use Rattle.graph.proofs.Least.{Reaches}
use Rattle.graph.proofs.Unique.{each_step}

module _ (k : ℕ) where
  -- a bound on a difference from below is one on the opposite difference from above
  low_turned : (a b l : Row k) → Le k l (minus k a b) → Le k (minus k b a) (opposite k l)
  low_turned a b l h = rw (opposite_minus k a b) at (le_opposite k l (minus k a b) h)

  -- and the other way round
  low_turned_back : (a b l : Row k) → Le k (minus k b a) (opposite k l) → Le k l (minus k a b)
  low_turned_back a b l h = rw (opposite_opposite k l, opposite_minus k b a) at (le_opposite k (minus k b a) (opposite k l) h)

  -- a schedule that meets a record keeps its legs
  keeps_from_meets : (t : Schedule k) (r : Record k) → Meets k t r → (e : End) (g : Leg k) → leg_of k r e ≡ Some g → Keeps k t g
  keeps_from_meets t r m =
      each_leg k (Keeps k t) r (λ l e. low_turned (t r.first) (t r.second) l (rw e at m.0)) (λ h e. rw e at m.1)

  -- a schedule that keeps the legs of a record meets it
  pub meets_from_keeps : (t : Schedule k) (r : Record k) → ((e : End) (g : Leg k) → leg_of k r e ≡ Some g → Keeps k t g) → Meets k t r
  meets_from_keeps t r f = (low r.low refl, high r.high refl)
    where
      low : (c : Option (Row k)) → r.low ≡ c → NotAbove k c (Some (skew k t r.first r.second))
      low None e = tt
      low (Some l) e = low_turned_back (t r.first) (t r.second) l (f Low (low_way k r l) (leg_of_low k r l e))

      high : (c : Option (Row k)) → r.high ≡ c → NotAbove k (Some (skew k t r.first r.second)) c
      high None e = tt
      high (Some h) e = f High (high_way k r h) (leg_of_high k r h e)

  -- along a chain the time grows by no more than the chain's length
  chain_kept :
      (t : Schedule k) (rs : List (Record k)) → MeetsAll k t rs
      → (ss : List (Step k)) (u v : ℕ) → AllByRecursion (StepOf k rs) ss → Leads k u ss v → Le k (t v) (plus k (t u) (length_of k ss))
  chain_kept t rs m [] u v taken joined = rw (plus_zeros k (t u), joined) (le_refl k (t v))
  chain_kept t rs m (s ∷ ss) u v taken joined =
      let g : Leg k = s.leg in
      let kept : Le k (t g.to) (plus k (t g.from) g.length) =
      le_plus_of_minus k (t g.to) (t g.from) g.length (each_step k (Meets k t) (Keeps k t) (keeps_from_meets t) rs m s taken.0) in
      let rest : Le k (t v) (plus k (t g.to) (length_of k ss)) = chain_kept t rs m ss g.to v taken.1 joined.1 in
      let sum : Le k (plus k (t g.to) (length_of k ss)) (plus k (plus k (t g.from) g.length) (length_of k ss)) =
      le_plus k (t g.to) (plus k (t g.from) g.length) (length_of k ss) (length_of k ss) kept (le_refl k (length_of k ss)) in
      rw (joined.0, ← plus_assoc k (t g.from) g.length (length_of k ss))
      (le_trans k (t v) (plus k (t g.to) (length_of k ss)) (plus k (plus k (t g.from) g.length) (length_of k ss)) rest sum)

  -- the same of a length that is reached
  pub reaches_kept :
      (t : Schedule k) (rs : List (Record k)) (u v : ℕ) (w : Row k) → MeetsAll k t rs → Reaches k rs u v w → Le k (t v) (plus k (t u) w)
  reaches_kept t rs u v w m (ss, c, e) = rw (← e) (chain_kept t rs m ss u v c.taken c.joined)

  -- a closed chain that a schedule keeps is not shorter than zero
  pub closed_kept : (t : Schedule k) (rs : List (Record k)) (u : ℕ) (w : Row k) → MeetsAll k t rs → Reaches k rs u u w → Le k (zeros k) w
  closed_kept t rs u w m h = le_plus_cancel k (t u) (zeros k) w (rw (plus_zeros k (t u)) (reaches_kept t rs u u w m h))

-- both ways
pub meeting_is_keeping_the_legs : MeetingIsKeepingTheLegs
meeting_is_keeping_the_legs k t r = (keeps_from_meets k t r, meets_from_keeps k t r)
