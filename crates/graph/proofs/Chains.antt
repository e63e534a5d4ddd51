-- Chains put together, and chains over a list with one record more. Assumes nothing.
use Rattle.std.proofs.Common.{◌≡◌, ℕ, zero, suc, ◌⊎◌, List, [], ◌∷◌, ◌++◌, length, Some, sym, refl, ap, ◌∙◌, subst, inl, inr}
use Rattle.std.proofs.ByRecursion.{All-append, All-weaker}
use Rattle.std.specs.Option.{option_map}
use Rattle.kinds.specs.Rows.{Row, plus, opposite}
use Rattle.graph.specs.Schedules.{Record}
use Rattle.graph.specs.Legs.{Leg, End, Low, High, leg_of, Step, leg_at, StepOf, Leads, Chain, length_of}
use Rattle.kinds.proofs.Rows.{zeros_plus, plus_assoc}
use Rattle.graph.proofs.Lengths.{none_some, mapped_some}

module _ (k : ℕ) where
  -- the leg of a low end l
  abbrev pub low_way : Record k → Row k → Leg k
  low_way r l = record { from = r.first; to = r.second; length = opposite k l }

  -- the leg of a high end h
  abbrev pub high_way : Record k → Row k → Leg k
  high_way r h = record { from = r.second; to = r.first; length = h }

  -- a leg of the low end, and the end that gives it
  pub low_leg : (r : Record k) (g : Leg k) → leg_of k r Low ≡ Some g → (l : Row k) × (r.low ≡ Some l) × (low_way r l ≡ g)
  low_leg r g e = mapped_some (low_way r) r.low g e

  -- the low end gives that leg
  pub leg_of_low : (r : Record k) (l : Row k) → r.low ≡ Some l → leg_of k r Low ≡ Some (low_way r l)
  leg_of_low r l e = ap (option_map (low_way r)) e

  -- a leg of the high end, and the end that gives it
  pub high_leg : (r : Record k) (g : Leg k) → leg_of k r High ≡ Some g → (h : Row k) × (r.high ≡ Some h) × (high_way r h ≡ g)
  high_leg r g e = mapped_some (high_way r) r.high g e

  -- the high end gives that leg
  pub leg_of_high : (r : Record k) (h : Row k) → r.high ≡ Some h → leg_of k r High ≡ Some (high_way r h)
  leg_of_high r h e = ap (option_map (high_way r)) e

  -- what holds of the legs of both ends holds of each leg that an end gives
  pub each_leg :
      (P : Leg k → Type 0) (r : Record k) → ((l : Row k) → r.low ≡ Some l → P (low_way r l)) → ((h : Row k) → r.high ≡ Some h → P (high_way r h))
      → (e : End) (g : Leg k) → leg_of k r e ≡ Some g → P g
  each_leg P r low high Low g e = let (l, at-l, at_g) = low_leg r g e in subst P at_g (low l at-l)
  each_leg P r low high High g e = let (h, at-h, at_g) = high_leg r g e in subst P at_g (high h at-h)

  -- steps joined to steps
  leads_append :
      (u : ℕ) (ss : List (Step k)) (v : ℕ) (ts : List (Step k)) (w : ℕ) → Leads k u ss v → Leads k v ts w → Leads k u (ss ++ ts) w
  leads_append u [] v ts w p q = rw p q
  leads_append u (s ∷ ss) v ts w p q = (p.0, leads_append s.leg.to ss v ts w p.1 q)

  -- lengths of joined steps add up
  pub length_of_append : (ss ts : List (Step k)) → length_of k (ss ++ ts) ≡ plus k (length_of k ss) (length_of k ts)
  length_of_append [] ts = sym (zeros_plus k (length_of k ts))
  length_of_append (s ∷ ss) ts = cc (length_of_append ss ts, plus_assoc k s.leg.length (length_of k ss) (length_of k ts))

  -- the chain of no steps
  pub chain_none : (rs : List (Record k)) (u : ℕ) → Chain k rs u [] u
  chain_none rs u = record { taken = tt; joined = refl }

  -- a chain joined to a chain
  pub chain_append :
      (rs : List (Record k)) (u : ℕ) (ss : List (Step k)) (v : ℕ) (ts : List (Step k)) (w : ℕ)
      → Chain k rs u ss v → Chain k rs v ts w → Chain k rs u (ss ++ ts) w
  chain_append rs u ss v ts w p q = record {
    taken = All-append (StepOf k rs) ss ts p.taken q.taken;
    joined = leads_append u ss v ts w p.joined q.joined;
  }

  -- a record at the end changes no leg of the others
  leg_at_push :
      (rs : List (Record k)) (r : Record k) (p : ℕ) (e : End) (g : Leg k)
      → leg_at k rs p e ≡ Some g → leg_at k (rs ++ r ∷ []) p e ≡ Some g
  leg_at_push [] r p e g h = absurd (none_some g h)
  leg_at_push (x ∷ rs) r zero e g h = h
  leg_at_push (x ∷ rs) r (suc p) e g h = leg_at_push rs r p e g h

  -- the legs of the record at the end
  leg_at_last : (rs : List (Record k)) (r : Record k) (e : End) → leg_at k (rs ++ r ∷ []) (length rs) e ≡ leg_of k r e
  leg_at_last [] r e = refl
  leg_at_last (x ∷ rs) r e = leg_at_last rs r e

  -- a leg of the longer list is one of the shorter, or one of the record at the end
  pub leg_at_cases :
      (rs : List (Record k)) (r : Record k) (p : ℕ) (e : End) (g : Leg k)
      → leg_at k (rs ++ r ∷ []) p e ≡ Some g → (leg_at k rs p e ≡ Some g) ⊎ (leg_of k r e ≡ Some g)
  leg_at_cases [] r zero e g h = inr h
  leg_at_cases [] r (suc p) e g h = inl h
  leg_at_cases (x ∷ rs) r zero e g h = inl h
  leg_at_cases (x ∷ rs) r (suc p) e g h = leg_at_cases rs r p e g h

  -- a chain stays one with a record at the end of the list
  pub chain_push :
      (rs : List (Record k)) (r : Record k) (u : ℕ) (ss : List (Step k)) (v : ℕ) → Chain k rs u ss v → Chain k (rs ++ r ∷ []) u ss v
  chain_push rs r u ss v c = record {
    taken = All-weaker (StepOf k rs) (StepOf k (rs ++ r ∷ [])) (λ s h. leg_at_push rs r s.number s.end s.leg h) ss c.taken;
    joined = c.joined;
  }

  -- the step that takes an end of the last record
  abbrev pub last_step : List (Record k) → End → Leg k → Step k
  last_step rs e g = record { number = length rs; end = e; leg = g }

  -- that step is a chain
  pub chain_last :
      (rs : List (Record k)) (r : Record k) (e : End) (g : Leg k)
      → leg_of k r e ≡ Some g → Chain k (rs ++ r ∷ []) g.from (last_step rs e g ∷ []) g.to
  chain_last rs r e g h = record { taken = (leg_at_last rs r e ∙ h, tt); joined = (refl, refl) }
