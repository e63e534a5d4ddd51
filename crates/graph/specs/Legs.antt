-- Legs of records, and the chains and rings that they make: the constraint graph, with the pins as its nodes. Assumes nothing.
--     Leg k                   a way from one pin to another, with its length: an edge of the graph, with its weight
--     End                     which end of a record: the low or the high one
--     leg_of k r e            the leg that an end gives: low leads from first to second with length −low,
--                             high from second to first with length high; absent where the end is
--     Keeps k t g             from the pin it leaves to the pin it enters, the time grows by no more than the length
--     Step k                  a leg, by the number of its record in a list and its end
--     leg_at k rs p e         the leg that an end of record p of a list gives
--     StepOf k rs s           the step's leg is what its record and end give
--     Leads k u ss v          the steps join head to tail from u to v
--     Chain k rs u ss v       they do, and each is one of the list: a path, which may pass a pin twice
--     length_of k ss          the sum of their lengths
--     entered k ss            the pins that they enter, in turn
--     NoneTwice us            no pin stands twice
--     Ring k rs ss            a closed chain that enters no pin twice and is shorter than zero: a simple cycle of negative length
use Rattle.std.specs.Prelude.{◌≡◌, ℕ, zero, suc, List, [], ◌∷◌, map, Some, None, Option, ◌≢◌}
use Rattle.kinds.specs.Rows.{Row, zeros, plus, minus, opposite, Le}
use Rattle.std.specs.Option.{option_map}
use Rattle.std.specs.List.{AllByRecursion}
use Rattle.graph.specs.Schedules.{Schedule, Record}

pub record Leg (k : ℕ) : Type 0 where
  pub from : ℕ
  pub to : ℕ
  pub length : Row k

pub data End : Type 0 where
  Low : End
  High : End

abbrev pub leg_of : (k : ℕ) → Record k → End → Option (Leg k)
leg_of k r Low = option_map (λ low. record { from = r.first; to = r.second; length = opposite k low }) r.low
leg_of k r High = option_map (λ high. record { from = r.second; to = r.first; length = high }) r.high

abbrev pub Keeps : (k : ℕ) → Schedule k → Leg k → Type 0
Keeps k t g = Le k (minus k (t g.to) (t g.from)) g.length

pub record Step (k : ℕ) : Type 0 where
  pub number : ℕ
  pub end : End
  pub leg : Leg k

-- Numbers count from 0: with a proposed record put before a list, that one has number 0 and the others count from 1.
abbrev pub leg_at : (k : ℕ) → List (Record k) → ℕ → End → Option (Leg k)
leg_at k [] p e = None
leg_at k (r ∷ rs) zero e = leg_of k r e
leg_at k (r ∷ rs) (suc p) e = leg_at k rs p e

abbrev pub StepOf : (k : ℕ) → List (Record k) → Step k → Type 0
StepOf k rs s = leg_at k rs s.number s.end ≡ Some s.leg

-- the chain of no steps stays where it is
abbrev pub Leads : (k : ℕ) → ℕ → List (Step k) → ℕ → Type 0
Leads k u [] v = u ≡ v
Leads k u (s ∷ ss) v = (u ≡ s.leg.from) × Leads k s.leg.to ss v

pub record Chain (k : ℕ) (rs : List (Record k)) (u : ℕ) (ss : List (Step k)) (v : ℕ) : Type 0 where
  pub taken : AllByRecursion (StepOf k rs) ss
  pub joined : Leads k u ss v

abbrev pub length_of : (k : ℕ) → List (Step k) → Row k
length_of k [] = zeros k
length_of k (s ∷ ss) = plus k s.leg.length (length_of k ss)

abbrev pub entered : (k : ℕ) → List (Step k) → List ℕ
entered k ss = map (λ s. s.leg.to) ss

abbrev pub NoneTwice : List ℕ → Type 0
NoneTwice [] = Unit {0}
NoneTwice (u ∷ us) = AllByRecursion (λ v. u ≢ v) us × NoneTwice us

-- the chain of no steps has length zero, so a ring has a step
pub record Ring (k : ℕ) (rs : List (Record k)) (ss : List (Step k)) : Type 0 where
  pub closed : (u : ℕ) × Chain k rs u ss u
  pub once : NoneTwice (entered k ss)
  pub short : Le k (zeros k) (length_of k ss) → ⊥
