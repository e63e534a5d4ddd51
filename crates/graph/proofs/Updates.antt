-- The update law: with a record added that is not refused, the formula gives the least lengths again.
-- A chain over the longer list falls into chains over the shorter one and the two new legs. From its end to its start, each
-- new leg is absorbed: one leg twice has a way back between that makes up for it, and both legs together bring nothing, so
-- the new cell is never above the chain. And each new cell is the length of a chain, made of the parts. Assumes nothing.
use Rattle.std.proofs.Common.{◌≡◌, ℕ, ◌⊎◌, ⊎_elim, List, [], ◌∷◌, ◌++◌, Some, Option, sym, refl, ap, ◌∙◌, subst, inl, inr}
use Rattle.std.specs.List.{AllByRecursion}
use Rattle.std.proofs.Math.Logic.{⊎_swap, ⊎_map}
use Rattle.kinds.specs.Rows.{Row, zeros, plus, opposite, Le}
use Rattle.graph.specs.Schedules.{Record, NotAbove}
use Rattle.graph.specs.Legs.{Leg, End, Low, High, leg_of, Step, StepOf, Leads, Chain, length_of}
use Rattle.graph.specs.Tables.{Cells, negated, lesser, length_sum, range_low, range_high, cut_low, cut_high, updated}
use Rattle.kinds.proofs.Rows.{le_plus, le_by, plus_assoc, plus_comm, plus_left_comm, plus_zeros, zeros_plus}
use Rattle.graph.proofs.Lengths.{AtMost, mapped_some, lesser_cases, negated_cases, negated_negated, not_above_gap, negated_not_above_gap}
use Rattle.graph.proofs.Lengths.{at_most_negated, at_most_lesser_left, at_most_lesser_right, length_sum_parts, at_most_row, at_most_le, at_most_some, at_most_length_sum, at_most_sum, at_most_sum_parts}
use Rattle.graph.proofs.Chains.{low_way, high_way, leg_of_low, leg_of_high, chain_none, chain_append, length_of_append, leg_at_cases, each_leg}
use Rattle.graph.proofs.Least.{Reaches, LeastOn, reaches_append, reaches_push, reaches_last, least_reached, least_bound, least_zero, least_from}

-- the low end is not above the range of the record's pins
abbrev pub LowFits : (k : ℕ) → Cells k → Record k → Type 0
LowFits k d r = NotAbove k r.low (range_high k d r.first r.second)

-- the high end is not below it
abbrev pub HighFits : (k : ℕ) → Cells k → Record k → Type 0
HighFits k d r = NotAbove k (range_low k d r.first r.second) r.high

module _ (k : ℕ) where
  -- over one new leg twice: the way back between makes up for the second time
  sum_twice :
      (z p x a' y q a : Row k) → Le k z p → Le k (plus k (plus k x a') y) q → Le k (zeros k) (plus k a x)
      → Le k (plus k (plus k z a') y) (plus k p (plus k a q))
  sum_twice z p x a' y q a l m n =
      let way : Row k = plus k (plus k x a') y in
      le_by k x (plus k (plus k z a') y) (plus k p (plus k a q)) (plus k z (plus k (zeros k) way)) (plus k p (plus k (plus k a x) q))
      (le_plus k z p (plus k (zeros k) way) (plus k (plus k a x) q) l (le_plus k (zeros k) (plus k a x) way q n m))
      (simp (zeros_plus k, plus_assoc k, plus_left_comm k)) (simp (plus_assoc k, plus_comm k, plus_left_comm k))

  -- over both new legs: they bring nothing
  sum_both :
      (z p b y q a : Row k) → Le k z p → Le k (plus k (plus k (zeros k) b) y) q → Le k (zeros k) (plus k a b)
      → Le k (plus k z y) (plus k p (plus k a q))
  sum_both z p b y q a l m n =
      let way : Row k = plus k (plus k (zeros k) b) y in
      le_by k b (plus k z y) (plus k p (plus k a q)) (plus k z (plus k (zeros k) way)) (plus k p (plus k (plus k a b) q))
      (le_plus k z p (plus k (zeros k) way) (plus k (plus k a b) q) l (le_plus k (zeros k) (plus k a b) way q n m))
      (simp (zeros_plus k, plus_left_comm k)) (simp (plus_assoc k, plus_comm k, plus_left_comm k))

  -- from u to i by a cell, over a leg to j, and on to v by a cell
  abbrev over : Cells k → ℕ → ℕ → Option (Row k) → ℕ → ℕ → Option (Row k)
  over d u i a j v = length_sum k (length_sum k (d u i) a) (d j v)

  module _ (P : ℕ → Type 0) (rs : List (Record k)) (d : Cells k) (least : LeastOn k P rs d) where
    -- cells add up over a pin between
    triangle :
        (u i v : ℕ) → P u → P i → P v → (x y : Row k) → d u i ≡ Some x → d i v ≡ Some y → AtMost k (d u v) (plus k x y)
    triangle u i v pu pi pv x y e f =
        least_bound k rs u v (d u v) (plus k x y) (least u v pu pv)
        (reaches_append k rs u i v x y (least_reached k rs u i (d u i) x (least u i pu pi) e)
        (least_reached k rs i v (d i v) y (least i v pi pv) f))

    -- a length w from u to v is matched: by the old cell, over a leg from i to j, or over one from j to i
    abbrev Matched : ℕ → ℕ → Option (Row k) → Option (Row k) → ℕ → ℕ → Row k → Type 0
    Matched i j a b u v w = AtMost k (d u v) w ⊎ (AtMost k (over d u i a j v) w ⊎ AtMost k (over d u j b i v) w)

    -- what is matched from j on is matched with a leg g from i to j before it
    matched_over :
        (i j : ℕ) (a b : Option (Row k)) (u v : ℕ) (g p q : Row k) → P u → P i → P j → P v → AtMost k a g
        → ((x : Row k) → d j i ≡ Some x → Le k (zeros k) (plus k g x))
        → ((x : Row k) → b ≡ Some x → Le k (zeros k) (plus k g x))
        → AtMost k (d u i) p → Matched i j a b j v q → Matched i j a b u v (plus k p (plus k g q))
    matched_over i j a b u v g p q pu pi pj pv new back both before (inl h) =
        let way : AtMost k (over d u i a j v) (plus k (plus k p g) q) =
        at_most_length_sum k (length_sum k (d u i) a) (d j v) (plus k p g) q (at_most_length_sum k (d u i) a p g before new) h in
        inr (inl (rw (← plus_assoc k p g q) way))
    matched_over i j a b u v g p q pu pi pj pv new back both before (inr (inl h)) =
        let (z, at-z, l) = at_most_row k (d u i) p before in
        let (x, f, y, at_x, at_f, at_y, m) = at_most_sum_parts k (d j i) a (d j v) q h in
        inr (inl (at_most_sum k (d u i) a (d j v) z f y (plus k p (plus k g q)) at-z at_f at_y
        (sum_twice z p x f y q g l m (back x at_x))))
    matched_over i j a b u v g p q pu pi pj pv new back both before (inr (inr h)) =
        let (z, at-z, l) = at_most_row k (d u i) p before in
        let (o, f, y, at-o, at_f, at_y, m) = at_most_sum_parts k (d j j) b (d i v) q h in
        let e : zeros k ≡ o = cc (least_zero k rs j (d j j) (least j j pj pj)) in
        let n : Le k (plus k (plus k (zeros k) f) y) q = rw e m in
        inl (at_most_le k (d u v) (plus k z y) (plus k p (plus k g q)) (triangle u i v pu pi pv z y at-z at_y)
        (sum_both z p f y q g l n (both f at_f)))

    module _
        (r : Record k) (first : P r.first) (second : P r.second) (forward : NotAbove k r.low r.high)
        (low_fits : LowFits k d r) (high_fits : HighFits k d r) where
      -- matched over the legs of the record's cut ends
      abbrev New : ℕ → ℕ → Row k → Type 0
      New u v w = Matched r.first r.second (negated k (cut_low k d r)) (cut_high k d r) u v w

      -- from u to v over the cut low end
      abbrev over_low : ℕ → ℕ → Option (Row k)
      over_low u v = over d u r.first (negated k (cut_low k d r)) r.second v

      -- from u to v over the cut high end
      abbrev over_high : ℕ → ℕ → Option (Row k)
      over_high u v = over d u r.second (cut_high k d r) r.first v

      -- the low end and the cut high end leave a gap
      low_gap : (l x : Row k) → r.low ≡ Some l → cut_high k d r ≡ Some x → Le k (zeros k) (plus k (opposite k l) x)
      low_gap l x e f =
          ⊎_elim (not_above_gap k r.low r.high l x forward e) (not_above_gap k r.low (d r.second r.first) l x low_fits e)
          (lesser_cases k r.high (d r.second r.first) x f)

      -- the cut low end is the record's or the range's
      cut_low_cases :
          (x : Row k) → negated k (cut_low k d r) ≡ Some x
          → ((l : Row k) × (r.low ≡ Some l) × (opposite k l ≡ x)) ⊎ (d r.first r.second ≡ Some x)
      cut_low_cases x e =
          ⊎_map (mapped_some (opposite k) r.low x) (λ g. sym (negated_negated k (d r.first r.second)) ∙ g)
          (negated_cases k r.low (negated k (d r.first r.second)) x e)

      -- the high end and the cut low end leave a gap
      high_gap : (h x : Row k) → r.high ≡ Some h → negated k (cut_low k d r) ≡ Some x → Le k (zeros k) (plus k h x)
      high_gap h x e f =
          ⊎_elim (λ (l, at-l, is_x). rw (is_x, plus_comm k x h) at (not_above_gap k r.low r.high l h forward at-l e))
          (λ g. negated_not_above_gap k (d r.first r.second) r.high x h high_fits g e) (cut_low_cases x f)

      -- a new leg is absorbed, whichever of the two it is
      new_over :
          (e : End) (g : Leg k) → leg_of k r e ≡ Some g → (u v : ℕ) (p q : Row k) → P u → P v
          → (P g.from → AtMost k (d u g.from) p) → (P g.to → New g.to v q) → New u v (plus k p (plus k g.length q))
      new_over e g h u v p q pu pv =
          each_leg k (λ x. (P x.from → AtMost k (d u x.from) p) → (P x.to → New x.to v q) → New u v (plus k p (plus k x.length q))) r
          (λ l at-l before after.
          matched_over r.first r.second (negated k (cut_low k d r)) (cut_high k d r) u v (opposite k l) p q pu first second pv
          (at_most_negated k r.low (negated k (d r.first r.second)) (opposite k l) (ap (negated k) at-l))
          (λ x e. not_above_gap k r.low (d r.second r.first) l x low_fits at-l e)
          (λ x e. low_gap l x at-l e) (before first) (after second))
          (λ l at-l before after. ⊎_map (λ m. m) ⊎_swap
          (matched_over r.second r.first (cut_high k d r) (negated k (cut_low k d r)) u v l p q pu second first pv
          (at_most_lesser_left k r.high (d r.second r.first) l (at_most_some k r.high l at-l))
          (λ x e. negated_not_above_gap k (d r.first r.second) r.high x l high_fits e at-l)
          (λ x e. high_gap l x at-l e) (before second) (⊎_map (λ m. m) ⊎_swap (after first)))) e g h

      -- a chain over the longer list, behind one over the shorter, is matched
      matched_all :
          (ss : List (Step k)) (x v u : ℕ) (ps : List (Step k)) → P u → P v → Chain k rs u ps x
          → AllByRecursion (StepOf k (rs ++ r ∷ [])) ss → Leads k x ss v → New u v (plus k (length_of k ps) (length_of k ss))
      matched_all [] x v u ps pu pv c taken joined =
          inl (least_bound k rs u v (d u v) (plus k (length_of k ps) (zeros k)) (least u v pu pv)
          (ps, rw (← joined) c, sym (plus_zeros k (length_of k ps))))
      matched_all (s ∷ ss) x v u ps pu pv c taken joined =
          let moved : plus k (length_of k (ps ++ s ∷ [])) (length_of k ss) ≡ plus k (length_of k ps) (plus k s.leg.length (length_of k ss)) =
          simp (length_of_append k, plus_zeros k, plus_assoc k) in
          ⊎_elim
          (λ old.
          let one : Chain k rs x (s ∷ []) s.leg.to = record { taken = (old, tt); joined = (joined.0, refl) } in
          subst (New u v) moved (matched_all ss s.leg.to v u (ps ++ s ∷ []) pu pv (chain_append k rs u ps x (s ∷ []) s.leg.to c one) taken.1 joined.1))
          (λ new.
          new_over s.end s.leg new u v (length_of k ps) (length_of k ss) pu pv
          (λ pf. least_bound k rs u s.leg.from (d u s.leg.from) (length_of k ps) (least u s.leg.from pu pf) (ps, rw (← joined.0) c, refl))
          (λ pt.
          subst (New s.leg.to v) (zeros_plus k (length_of k ss))
          (matched_all ss s.leg.to v s.leg.to [] pt pv (chain_none k rs s.leg.to) taken.1 joined.1)))
          (leg_at_cases k rs r s.number s.end s.leg taken.0)

      -- no chain over the longer list is shorter than the new cell
      updated_bound : (u v : ℕ) (w : Row k) → P u → P v → Reaches k (rs ++ r ∷ []) u v w → AtMost k (updated k d r u v) w
      updated_bound u v w pu pv (ss, c, e) =
          ⊎_elim (at_most_lesser_left k (d u v) (lesser k (over_low u v) (over_high u v)) w)
          (λ h.
          at_most_lesser_right k (d u v) (lesser k (over_low u v) (over_high u v)) w
          (⊎_elim (at_most_lesser_left k (over_low u v) (over_high u v) w) (at_most_lesser_right k (over_low u v) (over_high u v) w) h))
          (subst (New u v) (zeros_plus k (length_of k ss) ∙ e) (matched_all ss u v u [] pu pv (chain_none k rs u) c.taken c.joined))

      -- an old cell that is there is reached over the longer list too
      reached_old : (u v : ℕ) (w : Row k) → P u → P v → d u v ≡ Some w → Reaches k (rs ++ r ∷ []) u v w
      reached_old u v w pu pv e = reaches_push k rs r u v w (least_reached k rs u v (d u v) w (least u v pu pv) e)

      -- the opposite of the cut low end is reached from the first pin to the second
      reached_low : (w : Row k) → negated k (cut_low k d r) ≡ Some w → Reaches k (rs ++ r ∷ []) r.first r.second w
      reached_low w e =
          ⊎_elim (λ (l, at-l, is-w). rw (← is-w) (reaches_last k rs r Low (low_way k r l) (leg_of_low k r l at-l)))
          (reached_old r.first r.second w first second) (cut_low_cases w e)

      -- the cut high end is reached from the second pin to the first
      reached_high : (w : Row k) → cut_high k d r ≡ Some w → Reaches k (rs ++ r ∷ []) r.second r.first w
      reached_high w e =
          ⊎_elim (λ h. reaches_last k rs r High (high_way k r w) (leg_of_high k r w h)) (reached_old r.second r.first w second first)
          (lesser_cases k r.high (d r.second r.first) w e)

      -- a sum over a leg that is reached is reached
      reached_over :
          (u i j v : ℕ) (a : Option (Row k)) (w : Row k) → P u → P i → P j → P v
          → ((x : Row k) → a ≡ Some x → Reaches k (rs ++ r ∷ []) i j x) → over d u i a j v ≡ Some w → Reaches k (rs ++ r ∷ []) u v w
      reached_over u i j v a w pu pi pj pv between e =
          let (xy, z, at-xy, at-z, sum) = length_sum_parts k (length_sum k (d u i) a) (d j v) w e in
          let (x, y, at_x, at_y, part) = length_sum_parts k (d u i) a xy at-xy in
          let one : Reaches k (rs ++ r ∷ []) u j (plus k x y) =
          reaches_append k (rs ++ r ∷ []) u i j x y (reached_old u i x pu pi at_x) (between y at_y) in
          let all : Reaches k (rs ++ r ∷ []) u v (plus k (plus k x y) z) =
          reaches_append k (rs ++ r ∷ []) u j v (plus k x y) z one (reached_old j v z pj pv at-z) in
          subst (Reaches k (rs ++ r ∷ []) u v) (ap (λ (m : Row k). plus k m z) part ∙ sum) all

      -- a new cell that is there is reached
      updated_reached : (u v : ℕ) (w : Row k) → P u → P v → updated k d r u v ≡ Some w → Reaches k (rs ++ r ∷ []) u v w
      updated_reached u v w pu pv e =
          ⊎_elim (reached_old u v w pu pv)
          (λ h. ⊎_elim (reached_over u r.first r.second v (negated k (cut_low k d r)) w pu first second pv reached_low)
          (reached_over u r.second r.first v (cut_high k d r) w pu second first pv reached_high)
          (lesser_cases k (over_low u v) (over_high u v) w h)) (lesser_cases k (d u v) (lesser k (over_low u v) (over_high u v)) w e)

      -- the new cells are the least lengths over the longer list
      pub updated_least : LeastOn k P (rs ++ r ∷ []) (updated k d r)
      updated_least u v pu pv =
          least_from k (rs ++ r ∷ []) u v (updated k d r u v) (λ w e. updated_reached u v w pu pv e) (λ w h. updated_bound u v w pu pv h)
