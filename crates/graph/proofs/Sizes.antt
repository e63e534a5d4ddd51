-- Cells stay within n − 1 times the largest end: a chain that passes a pin twice has one at most as long with the loop cut out,
-- and one that passes none twice has at most n − 1 steps. A ring has at most n. Assumes nothing.
use Rattle.std.proofs.Common.{◌≡◌, ℕ, zero, suc, ◌-◌, ◌*◌, ◌<◌, ◌≤◌, ◌⊎◌, List, [], ◌∷◌, length, Some, None, Option, refl, subst, inl, inr, mul-le-mul_right, suc-mul, add_comm, arith}
use Rattle.std.specs.List.{AllByRecursion}
use Rattle.std.proofs.ByRecursion.{All-weaker, All-map}
use Rattle.std.proofs.lemmas.List.{length-map}
use Rattle.kinds.specs.Rows.{Row, zeros, plus, Le, Within}
use Rattle.graph.specs.Schedules.{Pin, Record, OnPins}
use Rattle.graph.specs.Legs.{Step, StepOf, Chain, length_of, entered, NoneTwice}
use Rattle.graph.specs.Tables.{EndsWithin, CellWithin}
use Rattle.graph.specs.Laws.{CellsStayWithin, ARingHasAtMostNSteps}
use Rattle.kinds.proofs.Rows.{le_refl, le_trans, le_antisym, le_plus, zeros_plus, within_zeros, within_plus, within_opposite, within_upto}
use Rattle.graph.proofs.Chains.{each_leg}
use Rattle.graph.proofs.Least.{least_reached, least_bound}
use Rattle.graph.proofs.Unique.{each_step}
use Rattle.graph.proofs.Keeping.{closed_kept}
use Rattle.graph.proofs.Finals.{table_feasible}
use Rattle.graph.proofs.Pigeons.{pins_at_most}
use Rattle.graph.proofs.Loops.{Through, LoopIn, through_or_not, once_or_loop}

module _ (k : ℕ) (rs : List (Record k)) where
  -- no closed chain is shorter than zero
  abbrev NoneShort : Type 0
  NoneShort = (x : ℕ) (ss : List (Step k)) → Chain k rs x ss x → Le k (zeros k) (length_of k ss)

  -- a chain from u to v that passes no pin twice and is at most w long
  record Direct (u v : ℕ) (w : Row k) : Type 0 where
    steps : List (Step k)
    chain : Chain k rs u steps v
    once : NoneTwice (u ∷ entered k steps)
    upto : Le k (length_of k steps) w

  -- what is at most as long as the rest is at most as long as the whole, where the part taken away is not below zero
  direct_longer : (u v : ℕ) (a b w : Row k) → Le k (zeros k) a → w ≡ plus k a b → Direct u v b → Direct u v w
  direct_longer u v a b w h e g =
      let rest : Le k b (plus k a b) = rw (zeros_plus k b) at (le_plus k (zeros k) a b b h (le_refl k b)) in
      record { steps = g.steps; chain = g.chain; once = g.once; upto = rw e (le_trans k (length_of k g.steps) b (plus k a b) g.upto rest) }

  -- loops are cut out until none is left
  direct : NoneShort → (n : ℕ) (ss : List (Step k)) (u v : ℕ) → length ss ≤ n → Chain k rs u ss v → Direct u v (length_of k ss)
  direct none zero [] u v few c = record { steps = []; chain = c; once = (tt, tt); upto = le_refl k (zeros k) }
  direct none zero (s ∷ ss) u v few c = absurd (omega arith)
  direct none (suc n) ss u v few c =
      by (once_or_loop k rs ss u v c.taken c.joined) (through_or_not k rs ss u v u c.taken c.joined)
      (λ ts l e. direct none n ts u v l e)
    where
      by :
          NoneTwice (entered k ss) ⊎ ((l : LoopIn k rs u ss v) × (0 < length l.rest))
          → AllByRecursion (λ y. u ≡ y → ⊥) (entered k ss) ⊎ Through k rs u ss v u
          → ((ts : List (Step k)) → length ts ≤ n → Chain k rs u ts v → Direct u v (length_of k ts)) → Direct u v (length_of k ss)
      by (inr (l, some)) p again =
          direct_longer u v (length_of k l.loop) (length_of k l.rest) (length_of k ss) (none l.pin l.loop l.closed) l.length_is
          (again l.rest (omega (arith, l.count, l.moved)) l.other)
      by (inl once) (inr t) again =
          direct_longer u v (length_of k t.front) (length_of k t.back) (length_of k ss) (none u t.front t.upto) t.length_is
          (again t.back (omega (arith, t.count, t.moved)) t.onward)
      by (inl once) (inl never) again = record { steps = ss; chain = c; once = (never, once); upto = le_refl k (length_of k ss) }

  -- each step enters a pin
  entered_pins : (n : ℕ) → AllByRecursion (OnPins k n) rs → (ss : List (Step k)) → AllByRecursion (StepOf k rs) ss → AllByRecursion (Pin n) (entered k ss)
  entered_pins n on ss taken = All-map (Pin n) (λ s. s.leg.to) ss (All-weaker (StepOf k rs) (λ s. Pin n s.leg.to) pin ss taken)
    where
      pin : (s : Step k) → StepOf k rs s → Pin n s.leg.to
      pin =
          each_step k (OnPins k n) (λ g. Pin n g.to)
          (λ r f. each_leg k (λ g. Pin n g.to) r (λ l at-l. f.second_pin) (λ l at-l. f.first_pin)) rs on

  -- the length of a leg is as small as the ends are
  leg_within : (limit : ℕ) → AllByRecursion (EndsWithin k limit) rs → (s : Step k) → StepOf k rs s → Within k limit s.leg.length
  leg_within limit small =
      each_step k (EndsWithin k limit) (λ g. Within k limit g.length)
      (λ r w. each_leg k (λ g. Within k limit g.length) r (λ l e. within_opposite k limit l (rw e at w.0)) (λ h e. rw e at w.1)) rs small

  -- the length of a chain is within the number of its steps times the limit
  chain_within :
      (limit : ℕ) → AllByRecursion (EndsWithin k limit) rs → (ss : List (Step k)) → AllByRecursion (StepOf k rs) ss
      → Within k (length ss * limit) (length_of k ss)
  chain_within limit small [] taken = within_zeros k (0 * limit)
  chain_within limit small (s ∷ ss) taken =
      rw (suc-mul (length ss) limit, add_comm (length ss * limit) limit)
      (within_plus k limit (length ss * limit) s.leg.length (length_of k ss) (leg_within limit small s taken.0) (chain_within limit small ss taken.1))

-- a cell is the length of a direct chain
pub cells_stay_within : CellsStayWithin
cells_stay_within k n limit rs d on small table u v pu pv = by (d u v) refl
  where
    none : NoneShort k rs
    none x ss c = let (t, met) = table_feasible k n rs d on table in closed_kept k t rs x (length_of k ss) met (ss, c, refl)

    cell : (w : Row k) → d u v ≡ Some w → Direct k rs u v w → Within k ((n - 1) * limit) w
    cell w e g =
        let ss : List (Step k) = g.steps in
        let few : suc (length (entered k ss)) ≤ n =
        pins_at_most n (u ∷ entered k ss) g.once (pu, entered_pins k rs n on ss g.chain.taken) in
        let count : length ss ≤ n - 1 = omega (arith, length-map ss (λ (s : Step k). s.leg.to)) in
        let least : Le k w (length_of k ss) =
        rw e at (least_bound k rs u v (d u v) (length_of k ss) (table.least u v pu pv) (ss, g.chain, refl)) in
        let small_sum : Within k (length ss * limit) (length_of k ss) = chain_within k rs limit small ss g.chain.taken in
        subst (Within k ((n - 1) * limit)) (le_antisym k (length_of k ss) w g.upto least)
        (within_upto k (length ss * limit) ((n - 1) * limit) (length_of k ss) (mul-le-mul_right limit count) small_sum)

    by : (c : Option (Row k)) → d u v ≡ c → CellWithin k ((n - 1) * limit) c
    by None e = tt
    by (Some w) e =
        let (ss, c, f) = least_reached k rs u v (d u v) w (table.least u v pu pv) e in
        cell w e (subst (Direct k rs u v) f (direct k rs none (length ss) ss u v (omega arith) c))

-- it enters each pin once at most
pub a_ring_has_at_most_n_steps : ARingHasAtMostNSteps
a_ring_has_at_most_n_steps k n rs ss on ring =
    let (u, chain) = ring.closed in
    let few : length (entered k ss) ≤ n = pins_at_most n (entered k ss) ring.once (entered_pins k rs n on ss chain.taken) in
    omega (arith, length-map ss (λ (s : Step k). s.leg.to))
