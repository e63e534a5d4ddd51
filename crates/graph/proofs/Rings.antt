-- No schedule meets a list exactly when it has a ring: the first record that cannot be added closes a chain shorter than zero,
-- and with its loops taken apart some part of that enters no pin twice. Assumes nothing.
use Rattle.std.proofs.Common.{ℕ, zero, suc, ◌<◌, ◌≤◌, ◌⊎◌, List, [], ◌∷◌, length, refl, inl, inr, arith, ⊎_elim}
use Rattle.kinds.specs.Rows.{zeros, plus, Le}
use Rattle.kinds.proofs.Rows.{le_refl, le_or_not, le_plus, plus_zeros}
use Rattle.graph.specs.Schedules.{Record, Feasible}
use Rattle.graph.specs.Legs.{Step, Chain, length_of, Ring}
use Rattle.graph.specs.Laws.{NoScheduleExactlyWhenARing, NoScheduleWithARecordExactlyWhenARing}
use Rattle.graph.proofs.Lengths.{Decided}
use Rattle.graph.proofs.Closed.{Short, short_infeasible}
use Rattle.graph.proofs.Prefixes.{feasible_or_short}
use Rattle.graph.proofs.Loops.{LoopIn, once_or_loop}

module _ (k : ℕ) where
  -- the list has a ring
  abbrev HasRing : List (Record k) → Type 0
  HasRing rs = (ss : List (Step k)) × Ring k rs ss

  -- a closed chain of at most n steps that is shorter than zero gives a ring
  abbrev RingsWithin : List (Record k) → ℕ → Type 0
  RingsWithin rs n =
      (ss : List (Step k)) (u : ℕ) → length ss ≤ n → Chain k rs u ss u → (Le k (zeros k) (length_of k ss) → ⊥) → HasRing rs

  -- of a closed chain with a loop, the loop or the rest is shorter than zero
  ring_in_part :
      (rs : List (Record k)) (n : ℕ) → RingsWithin rs n → (ss : List (Step k)) (u : ℕ) → length ss ≤ suc n
      → (Le k (zeros k) (length_of k ss) → ⊥) → (l : LoopIn k rs u ss u) → 0 < length l.rest
      → Decided (Le k (zeros k) (length_of k l.loop)) → HasRing rs
  ring_in_part rs n again ss u few below l some (inr h) = again l.loop l.pin (omega (arith, l.count)) l.closed h
  ring_in_part rs n again ss u few below l some (inl h) =
      again l.rest u (omega (arith, l.count, l.moved)) l.other (λ g. below (rw l.length_is (sum g)))
    where
      sum : Le k (zeros k) (length_of k l.rest) → Le k (zeros k) (plus k (length_of k l.loop) (length_of k l.rest))
      sum g = rw (plus_zeros k (zeros k)) at (le_plus k (zeros k) (length_of k l.loop) (zeros k) (length_of k l.rest) h g)

  -- so each closed chain that is shorter than zero gives one
  rings_within : (rs : List (Record k)) (n : ℕ) → RingsWithin rs n
  rings_within rs zero [] u few c below = absurd (below (le_refl k (zeros k)))
  rings_within rs zero (s ∷ ss) u few c below = absurd (omega arith)
  rings_within rs (suc n) ss u few c below =
      ⊎_elim (λ once. (ss, record { closed = (u, c); once = once; short = below }))
      (λ (l, some). ring_in_part rs n (rings_within rs n) ss u few below l some (le_or_not k (zeros k) (length_of k l.loop)))
      (once_or_loop k rs ss u u c.taken c.joined)

  -- a closed chain shorter than zero gives a ring
  ring_from_short : (rs : List (Record k)) → Short k rs → HasRing rs
  ring_from_short rs (u, w, (ss, c, e), below) = rings_within rs (length ss) ss u (omega arith) c (λ h. below (rw e at h))

  -- a ring is such a chain
  short_from_ring : (rs : List (Record k)) → HasRing rs → Short k rs
  short_from_ring rs (ss, g) = let (u, c) = g.closed in (u, length_of k ss, (ss, c, refl), g.short)

-- both ways
pub no_schedule_exactly_when_a_ring : NoScheduleExactlyWhenARing
no_schedule_exactly_when_a_ring k rs =
    (λ none. by none (feasible_or_short k rs), λ g. short_infeasible k rs (short_from_ring k rs g))
  where
    by : (Feasible k rs → ⊥) → Feasible k rs ⊎ Short k rs → HasRing k rs
    by none (inl f) = absurd (none f)
    by none (inr h) = ring_from_short k rs h

-- a schedule that meets the list and the record meets the list with the record before it
pub no_schedule_with_a_record_exactly_when_a_ring : NoScheduleWithARecordExactlyWhenARing
no_schedule_with_a_record_exactly_when_a_ring k rs r = (
  λ none. (no_schedule_exactly_when_a_ring k (r ∷ rs)).0 (λ (t, m). none (t, m.1, m.0)),
  λ ring (t, m, one). (no_schedule_exactly_when_a_ring k (r ∷ rs)).1 ring (t, (one, m)),
)
