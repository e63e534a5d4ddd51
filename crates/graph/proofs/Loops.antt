-- A chain that enters a pin twice has a loop that can be cut out. Assumes nothing.
use Rattle.std.proofs.Common.{◌≡◌, ℕ, ◌+◌, ◌<◌, ◌⊎◌, ⊎_elim, List, [], ◌∷◌, length, sym, ap, ◌∙◌, inl, inr, arith}
use Rattle.std.specs.List.{AllByRecursion}
use Rattle.std.proofs.Math.Logic.{⊎_map}
use Rattle.std.proofs.lemmas.Bool.{cases_eq}
use Rattle.kinds.specs.Rows.{plus}
use Rattle.graph.specs.Schedules.{Record}
use Rattle.graph.specs.Legs.{Step, StepOf, Leads, Chain, length_of, entered, NoneTwice}
use Rattle.kinds.proofs.Rows.{plus_assoc, plus_left_comm, plus_zeros}

-- a chain from u to v enters x, and falls there into two
pub record Through (k : ℕ) (rs : List (Record k)) (u : ℕ) (ss : List (Step k)) (v x : ℕ) : Type 0 where
  pub front : List (Step k)
  pub back : List (Step k)
  pub upto : Chain k rs u front x
  pub onward : Chain k rs x back v
  pub length_is : length_of k ss ≡ plus k (length_of k front) (length_of k back)
  pub count : length ss ≡ length front + length back
  pub moved : 0 < length front

-- a chain from u to v has a closed part, and the rest is a chain from u to v
pub record LoopIn (k : ℕ) (rs : List (Record k)) (u : ℕ) (ss : List (Step k)) (v : ℕ) : Type 0 where
  pub pin : ℕ
  pub loop : List (Step k)
  pub rest : List (Step k)
  pub closed : Chain k rs pin loop pin
  pub other : Chain k rs u rest v
  pub length_is : length_of k ss ≡ plus k (length_of k loop) (length_of k rest)
  pub count : length ss ≡ length loop + length rest
  pub moved : 0 < length loop

module _ (k : ℕ) (rs : List (Record k)) where
  -- one more step before a chain that enters x
  through_more :
      (s : Step k) (u : ℕ) (ss : List (Step k)) (v x : ℕ) → StepOf k rs s → u ≡ s.leg.from
      → Through k rs s.leg.to ss v x → Through k rs u (s ∷ ss) v x
  through_more s u ss v x taken e t = record {
    front = s ∷ t.front;
    back = t.back;
    upto = record { taken = (taken, t.upto.taken); joined = (e, t.upto.joined) };
    onward = t.onward;
    length_is = cc (plus_assoc k s.leg.length (length_of k t.front) (length_of k t.back));
    count = omega (arith, t.count);
    moved = omega arith;
  }

  -- a chain enters x, or never does
  pub through_or_not :
      (ss : List (Step k)) (u v x : ℕ) → AllByRecursion (StepOf k rs) ss → Leads k u ss v
      → AllByRecursion (λ y. x ≡ y → ⊥) (entered k ss) ⊎ Through k rs u ss v x
  through_or_not [] u v x taken joined = inl tt
  through_or_not (s ∷ ss) u v x taken joined =
      ⊎_elim
      (λ e. inr (record {
        front = s ∷ [];
        back = ss;
        upto = record { taken = (taken.0, tt); joined = (joined.0, sym e) };
        onward = record { taken = taken.1; joined = rw e joined.1 };
        length_is = cc (plus_zeros k s.leg.length);
        count = omega arith;
        moved = omega arith;
      }))
      (λ e. ⊎_map (λ none. (e, none)) (through_more s u ss v x taken.0 joined.0) (through_or_not ss s.leg.to v x taken.1 joined.1))
      (cases_eq x s.leg.to)

  -- one more step before a chain with a loop
  abbrev loop_more :
      (s : Step k) (u : ℕ) (ss : List (Step k)) (v : ℕ) → StepOf k rs s → u ≡ s.leg.from
      → LoopIn k rs s.leg.to ss v → LoopIn k rs u (s ∷ ss) v
  loop_more s u ss v taken e l = record {
    pin = l.pin;
    loop = l.loop;
    rest = s ∷ l.rest;
    closed = l.closed;
    other = record { taken = (taken, l.other.taken); joined = (e, l.other.joined) };
    length_is =
        ap (plus k s.leg.length) l.length_is ∙ plus_left_comm k s.leg.length (length_of k l.loop) (length_of k l.rest);
    count = omega (arith, l.count);
    moved = l.moved;
  }

  -- a chain enters no pin twice, or has a loop with a step outside it
  pub once_or_loop :
      (ss : List (Step k)) (u v : ℕ) → AllByRecursion (StepOf k rs) ss → Leads k u ss v
      → NoneTwice (entered k ss) ⊎ ((l : LoopIn k rs u ss v) × (0 < length l.rest))
  once_or_loop [] u v taken joined = inl tt
  once_or_loop (s ∷ ss) u v taken joined =
      by (through_or_not ss s.leg.to v s.leg.to taken.1 joined.1) (once_or_loop ss s.leg.to v taken.1 joined.1)
    where
      by :
          AllByRecursion (λ y. s.leg.to ≡ y → ⊥) (entered k ss) ⊎ Through k rs s.leg.to ss v s.leg.to
          → NoneTwice (entered k ss) ⊎ ((l : LoopIn k rs s.leg.to ss v) × (0 < length l.rest))
          → NoneTwice (entered k (s ∷ ss)) ⊎ ((l : LoopIn k rs u (s ∷ ss) v) × (0 < length l.rest))
      by p (inr (l, some)) = inr (loop_more s u ss v taken.0 joined.0 l, omega arith)
      by (inl p) (inl q) = inl (p, q)
      by (inr t) (inl q) = inr (
        record {
          pin = s.leg.to;
          loop = t.front;
          rest = s ∷ t.back;
          closed = t.upto;
          other = record { taken = (taken.0, t.onward.taken); joined = (joined.0, t.onward.joined) };
          length_is = cc (plus_left_comm k s.leg.length (length_of k t.front) (length_of k t.back));
          count = omega (arith, t.count);
          moved = t.moved;
        },
        omega arith,
      )
