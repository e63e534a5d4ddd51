-- Least lengths: how they are read and made, and zero from a pin to itself. Assumes nothing.
use Rattle.std.proofs.Common.{◌≡◌, ℕ, List, [], ◌∷◌, ◌++◌, Some, None, Option, refl, ap}
use Rattle.kinds.specs.Rows.{Row, zeros, plus, Le}
use Rattle.graph.specs.Schedules.{Record}
use Rattle.graph.specs.Legs.{Leg, End, leg_of, Step, Chain, length_of}
use Rattle.graph.specs.Tables.{Cells, LeastLength}
use Rattle.kinds.proofs.Rows.{le_antisym, le_plus_cancel, plus_zeros}
use Rattle.graph.proofs.Lengths.{none_some, AtMost}
use Rattle.graph.proofs.Chains.{chain_none, chain_append, length_of_append, chain_push, chain_last, last_step}

module _ (k : ℕ) where
  -- some chain from u to v has length w
  abbrev pub Reaches : List (Record k) → ℕ → ℕ → Row k → Type 0
  Reaches rs u v w = (ss : List (Step k)) × Chain k rs u ss v × (length_of k ss ≡ w)

  -- each cell between pins of which P holds is the least length
  abbrev pub LeastOn : (ℕ → Type 0) → List (Record k) → Cells k → Type 0
  LeastOn P rs d = (u v : ℕ) → P u → P v → LeastLength k rs u v (d u v)

  -- lengths of joined chains add up
  pub reaches_append :
      (rs : List (Record k)) (u v w : ℕ) (x y : Row k) → Reaches rs u v x → Reaches rs v w y → Reaches rs u w (plus k x y)
  reaches_append rs u v w x y (ss, p, e) (ts, q, f) =
      (ss ++ ts, chain_append k rs u ss v ts w p q, rw (length_of_append k ss ts, e, f) refl)

  -- what is reached stays reached with a record at the end
  pub reaches_push :
      (rs : List (Record k)) (r : Record k) (u v : ℕ) (w : Row k) → Reaches rs u v w → Reaches (rs ++ r ∷ []) u v w
  reaches_push rs r u v w (ss, c, e) = (ss, chain_push k rs r u ss v c, e)

  -- each leg of that record is a way of its length
  pub reaches_last :
      (rs : List (Record k)) (r : Record k) (e : End) (g : Leg k)
      → leg_of k r e ≡ Some g → Reaches (rs ++ r ∷ []) g.from g.to g.length
  reaches_last rs r e g h = (last_step k rs e g ∷ [], chain_last k rs r e g h, plus_zeros k g.length)

  -- a least length that is there is reached
  pub least_reached :
      (rs : List (Record k)) (u v : ℕ) (c : Option (Row k)) (w : Row k) → LeastLength k rs u v c → c ≡ Some w → Reaches rs u v w
  least_reached rs u v None w h e = absurd (none_some w e)
  least_reached rs u v (Some x) w h e = let f : x ≡ w = cc in rw (← f) h.0

  -- no chain is shorter than the least length
  pub least_bound :
      (rs : List (Record k)) (u v : ℕ) (c : Option (Row k)) (w : Row k) → LeastLength k rs u v c → Reaches rs u v w → AtMost k c w
  least_bound rs u v None w h (ss, p, e) = absurd (h ss p)
  least_bound rs u v (Some x) w h (ss, p, e) = rw (← e) (h.1 ss p)

  -- what is reached where it is there, with no chain shorter, is the least length
  pub least_from :
      (rs : List (Record k)) (u v : ℕ) (c : Option (Row k)) → ((w : Row k) → c ≡ Some w → Reaches rs u v w)
      → ((w : Row k) → Reaches rs u v w → AtMost k c w) → LeastLength k rs u v c
  least_from rs u v None f g = λ ss p. g (length_of k ss) (ss, p, refl)
  least_from rs u v (Some x) f g = (f x refl, λ ss p. g (length_of k ss) (ss, p, refl))

  -- from a pin to itself it is zero: twice around is not shorter than once
  pub least_zero : (rs : List (Record k)) (u : ℕ) (c : Option (Row k)) → LeastLength k rs u u c → c ≡ Some (zeros k)
  least_zero rs u None h = absurd (h [] (chain_none k rs u))
  least_zero rs u (Some x) h =
      let twice : Le k x (plus k x x) = least_bound rs u u (Some x) (plus k x x) h (reaches_append rs u u u x x h.0 h.0) in
      ap Some (le_antisym k x (zeros k) (h.1 [] (chain_none k rs u)) (le_plus_cancel k x (zeros k) x (rw (plus_zeros k x) twice)))
