-- Optional rows as lengths: what their lesser, their sum and the cut come to. Assumes nothing.
use Rattle.std.proofs.Common.{◌≡◌, ℕ, cond, ◌⊎◌, ⊎_elim, Some, None, Option, refl, ap, inl, inr}
use Rattle.std.specs.Option.{option_map}
use Rattle.std.specs.Ordering.{is_le}
use Rattle.std.proofs.lemmas.Bool.{cond_both}
use Rattle.kinds.specs.Rows.{Row, zeros, plus, opposite, order, Le}
use Rattle.graph.specs.Schedules.{NotAbove}
use Rattle.graph.specs.Tables.{lesser, greater, length_sum, negated}
use Rattle.kinds.proofs.Rows.{le_refl, le_trans, le_total, le_or_not, le_plus, le_opposite, opposite_opposite, plus_comm, gap_of_le}
pub use Rattle.std.proofs.lemmas.Option.{none-some as none_some}

-- it is known which: A, or not A
abbrev pub Decided : Type 0 → Type 0
Decided A = A ⊎ (A → ⊥)

-- what stands under a map that is there
pub mapped_some : {A B : Type 0} (f : A → B) (c : Option A) (y : B) → option_map f c ≡ Some y → (x : A) × (c ≡ Some x) × (f x ≡ y)
mapped_some f None y e = absurd (none_some y e)
mapped_some f (Some x) y e = (x, refl, cc)

-- the length is there, and at most w
abbrev pub AtMost : (k : ℕ) → Option (Row k) → Row k → Type 0
AtMost k None w = ⊥
AtMost k (Some x) w = Le k x w

module _ (k : ℕ) where
  -- a length that is there is at most itself
  pub at_most_some : (c : Option (Row k)) (w : Row k) → c ≡ Some w → AtMost k c w
  at_most_some c w e = rw e (le_refl k w)

  -- a length that is at most v is at most what is not below v
  pub at_most_le : (c : Option (Row k)) (v w : Row k) → AtMost k c v → Le k v w → AtMost k c w
  at_most_le None v w h l = absurd h
  at_most_le (Some x) v w h l = le_trans k x v w h l

  -- a length that is at most w is some row
  pub at_most_row : (c : Option (Row k)) (w : Row k) → AtMost k c w → (x : Row k) × (c ≡ Some x) × Le k x w
  at_most_row None w h = absurd h
  at_most_row (Some x) w h = (x, refl, h)

  -- a row not above a length that is at most w is at most w
  pub le_at_most : (t : Row k) (c : Option (Row k)) (w : Row k) → NotAbove k (Some t) c → AtMost k c w → Le k t w
  le_at_most t None w h l = absurd l
  le_at_most t (Some x) w h l = le_trans k t x w h l

  -- the lesser of two lengths is one of them
  pub lesser_cases : (a b : Option (Row k)) (w : Row k) → lesser k a b ≡ Some w → (a ≡ Some w) ⊎ (b ≡ Some w)
  lesser_cases None b w e = inr e
  lesser_cases (Some x) None w e = inl e
  lesser_cases (Some x) (Some y) w e =
      cond_both (is_le (order k x y)) x y (λ z. Some z ≡ Some w → (Some x ≡ Some w) ⊎ (Some y ≡ Some w)) (λ t. inl) (λ t. inr) e

  -- the lesser of two rows is not above either
  lesser_row : (x y : Row k) → Le k (cond (is_le (order k x y)) x y) x × Le k (cond (is_le (order k x y)) x y) y
  lesser_row x y =
      cond_both (is_le (order k x y)) x y (λ z. Le k z x × Le k z y) (λ e. (le_refl k x, rw e tt))
      (λ e. (⊎_elim (λ h. absurd (rw e at h)) (λ h. h) (le_total k x y), le_refl k y))

  -- the lesser is at most what the first length is at most
  pub at_most_lesser_left : (a b : Option (Row k)) (w : Row k) → AtMost k a w → AtMost k (lesser k a b) w
  at_most_lesser_left None b w h = absurd h
  at_most_lesser_left (Some x) None w h = h
  at_most_lesser_left (Some x) (Some y) w h = le_trans k (cond (is_le (order k x y)) x y) x w (lesser_row x y).0 h

  -- and at most what the second is at most
  pub at_most_lesser_right : (a b : Option (Row k)) (w : Row k) → AtMost k b w → AtMost k (lesser k a b) w
  at_most_lesser_right None b w h = h
  at_most_lesser_right (Some x) None w h = absurd h
  at_most_lesser_right (Some x) (Some y) w h = le_trans k (cond (is_le (order k x y)) x y) y w (lesser_row x y).1 h

  -- bounds add up
  pub at_most_length_sum :
      (a b : Option (Row k)) (x y : Row k) → AtMost k a x → AtMost k b y → AtMost k (length_sum k a b) (plus k x y)
  at_most_length_sum None b x y p q = absurd p
  at_most_length_sum (Some v) None x y p q = absurd q
  at_most_length_sum (Some v) (Some w) x y p q = le_plus k v x w y p q

  -- the parts of a sum that is there
  pub length_sum_parts :
      (a b : Option (Row k)) (w : Row k) → length_sum k a b ≡ Some w → (x y : Row k) × (a ≡ Some x) × (b ≡ Some y) × (plus k x y ≡ w)
  length_sum_parts None b w e = absurd (none_some w e)
  length_sum_parts (Some x) None w e = absurd (none_some w e)
  length_sum_parts (Some x) (Some y) w e = (x, y, refl, refl, cc)

  -- the parts of a sum of three that is at most w
  pub at_most_sum_parts :
      (a b c : Option (Row k)) (w : Row k) → AtMost k (length_sum k (length_sum k a b) c) w
      → (x y z : Row k) × (a ≡ Some x) × (b ≡ Some y) × (c ≡ Some z) × Le k (plus k (plus k x y) z) w
  at_most_sum_parts None b c w h = absurd h
  at_most_sum_parts (Some x) None c w h = absurd h
  at_most_sum_parts (Some x) (Some y) None w h = absurd h
  at_most_sum_parts (Some x) (Some y) (Some z) w h = (x, y, z, refl, refl, refl, h)

  -- a sum of three from its parts
  pub at_most_sum :
      (a b c : Option (Row k)) (x y z w : Row k) → a ≡ Some x → b ≡ Some y → c ≡ Some z
      → Le k (plus k (plus k x y) z) w → AtMost k (length_sum k (length_sum k a b) c) w
  at_most_sum a b c x y z w e f g h = rw (e, f, g) h

  -- the opposite of the greater is the opposite of one of the two
  pub negated_cases :
      (a b : Option (Row k)) (w : Row k) → negated k (greater k a b) ≡ Some w → (negated k a ≡ Some w) ⊎ (negated k b ≡ Some w)
  negated_cases None b w e = inr e
  negated_cases (Some x) None w e = inl e
  negated_cases (Some x) (Some y) w e =
      cond_both (is_le (order k x y)) y x
      (λ z. Some (opposite k z) ≡ Some w → (Some (opposite k x) ≡ Some w) ⊎ (Some (opposite k y) ≡ Some w)) (λ t. inr) (λ t. inl) e

  -- the opposite of the greater of two rows is not above the opposite of the first
  negated_row : (x y : Row k) → Le k (opposite k (cond (is_le (order k x y)) y x)) (opposite k x)
  negated_row x y =
      cond_both (is_le (order k x y)) y x (λ z. Le k (opposite k z) (opposite k x))
      (λ e. le_opposite k x y (rw e tt)) (λ e. le_refl k (opposite k x))

  -- the same of lengths
  pub at_most_negated : (a b : Option (Row k)) (w : Row k) → negated k a ≡ Some w → AtMost k (negated k (greater k a b)) w
  at_most_negated None b w e = absurd (none_some w e)
  at_most_negated (Some x) None w e = at_most_some (Some (opposite k x)) w e
  at_most_negated (Some x) (Some y) w e = let f : opposite k x ≡ w = cc in rw (← f) (negated_row x y)

  -- the opposite of the opposite
  pub negated_negated : (c : Option (Row k)) → negated k (negated k c) ≡ c
  negated_negated None = refl
  negated_negated (Some x) = ap Some (opposite_opposite k x)

  -- an end that is not above another leaves a gap between them
  pub not_above_gap :
      (a b : Option (Row k)) (x y : Row k) → NotAbove k a b → a ≡ Some x → b ≡ Some y → Le k (zeros k) (plus k (opposite k x) y)
  not_above_gap a b x y h e f = let l : Le k x y = rw (e, f) at h in gap_of_le k x y l

  -- the same of the opposite of a cell
  pub negated_not_above_gap :
      (c b : Option (Row k)) (x y : Row k) → NotAbove k (negated k c) b → c ≡ Some x → b ≡ Some y → Le k (zeros k) (plus k y x)
  negated_not_above_gap c b x y h e f =
      let l : Le k (zeros k) (plus k (opposite k (opposite k x)) y) = not_above_gap (negated k c) b (opposite k x) y h (rw e refl) f in
      rw (opposite_opposite k x, plus_comm k x y) at l

  -- whether an end is above another is decided
  pub not_above_or_above : (a b : Option (Row k)) → Decided (NotAbove k a b)
  not_above_or_above None b = inl tt
  not_above_or_above (Some x) None = inl tt
  not_above_or_above (Some x) (Some y) = le_or_not k x y

  -- where an end is above another, both are there
  pub above_rows :
      (a b : Option (Row k)) → (NotAbove k a b → ⊥) → (x y : Row k) × (a ≡ Some x) × (b ≡ Some y) × (Le k x y → ⊥)
  above_rows None b h = absurd (h tt)
  above_rows (Some x) None h = absurd (h tt)
  above_rows (Some x) (Some y) h = (x, y, refl, refl, h)
