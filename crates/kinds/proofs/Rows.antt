-- Rows of k numbers are an ordered group, and what holds of their size. Assumes nothing.
use Rattle.std.proofs.Common.{◌≡◌, ℕ, zero, suc, ◌+◌, ◌≤◌, Bool, true, false, cond, T, ◌⊎◌, ℤ, ◌+ℤ◌, nat_abs, ◌<ℤ◌, Less, Greater, sym, refl, ap, ◌∙◌, ap₂, inl, inr, arith}
use lib.IntN.{neg_ℤ-neg_ℤ, neg_ℤ-+ℤ, +ℤ_assoc, +ℤ_comm, +ℤ_idl, +ℤ_invr}
use lib.Signed.{lt_z}
use Rattle.std.proofs.lemmas.Int.{ints, by_lt_z}
use Rattle.std.specs.Ordering.{is_le}
use Rattle.kinds.specs.Rows.{Row, zeros, plus, opposite, minus, order, Le, Within}

-- A row is at most another by its first number, or by the others where the first are equal.
abbrev Upto : (k : ℕ) → Row (suc k) → Row (suc k) → Type 0
Upto k a b = (a.0 <ℤ b.0) ⊎ ((a.0 ≡ b.0) × Le k a.1 b.1)

-- A lesser first number makes the row lesser.
le_head : (k : ℕ) (a b : Row (suc k)) → a.0 <ℤ b.0 → Le (suc k) a b
le_head k a b h = let e : lt_z a.0 b.0 ≡ true = grind (arith, ints) in rw e tt

-- With equal first numbers the others decide.
le_tail : (k : ℕ) (a b : Row (suc k)) → a.0 ≡ b.0 → Le k a.1 b.1 → Le (suc k) a b
le_tail k a b e h =
    let x : lt_z a.0 b.0 ≡ false = grind (arith, ints) in
    let y : lt_z b.0 a.0 ≡ false = grind (arith, ints) in
    rw (x, y) h

-- There is no other way to be at most a row.
upto_le : (k : ℕ) (a b : Row (suc k)) → Le (suc k) a b → Upto k a b
upto_le k a b = by (lt_z a.0 b.0) (lt_z b.0 a.0) refl refl
  where
    by :
        (x y : Bool) → lt_z a.0 b.0 ≡ x → lt_z b.0 a.0 ≡ y
        → T (is_le (cond x Less (cond y Greater (order k a.1 b.1)))) → Upto k a b
    by true y p q h = inl (grind (arith, ints))
    by false true p q h = absurd h
    by false false p q h = inr (grind (arith, ints), h)

-- The order is reflexive.
pub le_refl : (k : ℕ) (a : Row k) → Le k a a
le_refl zero a = tt
le_refl (suc k) a = le_tail k a a refl (le_refl k a.1)

-- The order is transitive.
pub le_trans : (k : ℕ) (a b c : Row k) → Le k a b → Le k b c → Le k a c
le_trans zero a b c p q = tt
le_trans (suc k) a b c p q = by (upto_le k a b p) (upto_le k b c q) (le_trans k a.1 b.1 c.1)
  where
    by : Upto k a b → Upto k b c → (Le k a.1 b.1 → Le k b.1 c.1 → Le k a.1 c.1) → Le (suc k) a c
    by (inl x) (inl y) f = le_head k a c (omega (arith, ints))
    by (inl x) (inr y) f = le_head k a c (omega (arith, ints))
    by (inr x) (inl y) f = le_head k a c (omega (arith, ints))
    by (inr x) (inr y) f = le_tail k a c (x.0 ∙ y.0) (f x.1 y.1)

-- Two rows of which neither is above the other are equal.
pub le_antisym : (k : ℕ) (a b : Row k) → Le k a b → Le k b a → a ≡ b
le_antisym zero a b p q = refl
le_antisym (suc k) a b p q = by (upto_le k a b p) (upto_le k b a q) (le_antisym k a.1 b.1)
  where
    by : Upto k a b → Upto k b a → (Le k a.1 b.1 → Le k b.1 a.1 → a.1 ≡ b.1) → a ≡ b
    by (inl x) (inl y) f = absurd (omega (arith, ints))
    by (inl x) (inr y) f = absurd (omega (arith, ints))
    by (inr x) (inl y) f = absurd (omega (arith, ints))
    by (inr x) (inr y) f = ap₂ (λ (m : ℤ) (r : Row k). (m, r)) x.0 (f x.1 y.1)

-- Of two rows the one or the other is not above.
pub le_total : (k : ℕ) (a b : Row k) → Le k a b ⊎ Le k b a
le_total zero a b = inl tt
le_total (suc k) a b =
    by_lt_z a.0 b.0 (λ h. inl (le_head k a b h))
    (λ h. by_lt_z b.0 a.0 (λ g. inr (le_head k b a g)) (λ g. by (omega (arith, ints)) (le_total k a.1 b.1)))
  where
    by : a.0 ≡ b.0 → Le k a.1 b.1 ⊎ Le k b.1 a.1 → Le (suc k) a b ⊎ Le (suc k) b a
    by e (inl h) = inl (le_tail k a b e h)
    by e (inr h) = inr (le_tail k b a (sym e) h)

-- The order is decided by its computation.
pub le_or_not : (k : ℕ) (a b : Row k) → Le k a b ⊎ (Le k a b → ⊥)
le_or_not k a b = by (is_le (order k a b))
  where
    by : (x : Bool) → T x ⊎ (T x → ⊥)
    by true = inl tt
    by false = inr (λ h. h)

-- A sum is the same however it is put together, place by place.
pub plus_assoc : (k : ℕ) (a b c : Row k) → plus k (plus k a b) c ≡ plus k a (plus k b c)
plus_assoc zero a b c = refl
plus_assoc (suc k) a b c = cc (+ℤ_assoc a.0 b.0 c.0, plus_assoc k a.1 b.1 c.1)

-- The parts of a sum may change places.
pub plus_comm : (k : ℕ) (a b : Row k) → plus k a b ≡ plus k b a
plus_comm zero a b = refl
plus_comm (suc k) a b = cc (+ℤ_comm a.0 b.0, plus_comm k a.1 b.1)

-- Zeros on the left.
pub zeros_plus : (k : ℕ) (a : Row k) → plus k (zeros k) a ≡ a
zeros_plus zero a = refl
zeros_plus (suc k) (m, r) = cc (+ℤ_idl m, zeros_plus k r)

-- A row and its opposite add up to zeros.
pub plus_opposite : (k : ℕ) (a : Row k) → plus k a (opposite k a) ≡ zeros k
plus_opposite zero a = refl
plus_opposite (suc k) a = cc (+ℤ_invr a.0, plus_opposite k a.1)

-- The opposite of the opposite is the row.
pub opposite_opposite : (k : ℕ) (a : Row k) → opposite k (opposite k a) ≡ a
opposite_opposite zero a = refl
opposite_opposite (suc k) (m, r) = cc (neg_ℤ-neg_ℤ m, opposite_opposite k r)

-- The opposite of a sum is the sum of the opposites.
pub opposite_plus : (k : ℕ) (a b : Row k) → opposite k (plus k a b) ≡ plus k (opposite k a) (opposite k b)
opposite_plus zero a b = refl
opposite_plus (suc k) a b = cc (neg_ℤ-+ℤ a.0 b.0, opposite_plus k a.1 b.1)

-- A common part on the left changes no order.
pub le_plus_left : (k : ℕ) (c a b : Row k) → Le k a b → Le k (plus k c a) (plus k c b)
le_plus_left zero c a b h = tt
le_plus_left (suc k) c a b h = by (upto_le k a b h) (le_plus_left k c.1 a.1 b.1)
  where
    by :
        Upto k a b → (Le k a.1 b.1 → Le k (plus k c.1 a.1) (plus k c.1 b.1))
        → Le (suc k) (plus (suc k) c a) (plus (suc k) c b)
    by (inl x) f = le_head k (plus (suc k) c a) (plus (suc k) c b) (omega (arith, ints))
    by (inr x) f = le_tail k (plus (suc k) c a) (plus (suc k) c b) (ap (λ (m : ℤ). c.0 +ℤ m) x.0) (f x.1)

-- Zeros are within every limit.
pub within_zeros : (k limit : ℕ) → Within k limit (zeros k)
within_zeros zero limit = tt
within_zeros (suc k) limit = (omega arith, within_zeros k limit)

-- The size of a sum is at most the sum of the sizes.
unsigned_abs-+ : (a b : ℤ) → nat_abs (a +ℤ b) ≤ nat_abs a + nat_abs b
unsigned_abs-+ a b = omega (arith, ints)

-- A sum is within the sum of the limits.
pub within_plus : (k x y : ℕ) (a b : Row k) → Within k x a → Within k y b → Within k (x + y) (plus k a b)
within_plus zero x y a b p q = tt
within_plus (suc k) x y a b p q = (omega (arith, unsigned_abs-+ a.0 b.0), within_plus k x y a.1 b.1 p.1 q.1)

-- The opposite is within the same limit.
pub within_opposite : (k limit : ℕ) (a : Row k) → Within k limit a → Within k limit (opposite k a)
within_opposite zero limit a h = tt
within_opposite (suc k) limit a h = (omega (arith, ints), within_opposite k limit a.1 h.1)

-- A larger limit holds too.
pub within_upto : (k x y : ℕ) (a : Row k) → x ≤ y → Within k x a → Within k y a
within_upto zero x y a l h = tt
within_upto (suc k) x y a l h = (omega arith, within_upto k x y a.1 l h.1)

-- What follows holds in every ordered group.
module _ (k : ℕ) where
  -- The first two of three parts in the other order.
  pub plus_left_comm : (a b c : Row k) → plus k a (plus k b c) ≡ plus k b (plus k a c)
  plus_left_comm a b c = cc (plus_assoc k a b c, plus_comm k a b, plus_assoc k b a c)

  -- Zeros on the right.
  pub plus_zeros : (a : Row k) → plus k a (zeros k) ≡ a
  plus_zeros a = plus_comm k a (zeros k) ∙ zeros_plus k a

  -- An order between sums, part by part.
  pub le_plus : (a b c d : Row k) → Le k a b → Le k c d → Le k (plus k a c) (plus k b d)
  le_plus a b c d p q =
      le_trans k (plus k a c) (plus k a d) (plus k b d) (le_plus_left k a c d q)
      (rw (plus_comm k a d, plus_comm k b d) (le_plus_left k d a b p))

  -- What was taken away is put back.
  pub plus_opposite_plus : (a b : Row k) → plus k a (plus k (opposite k a) b) ≡ b
  plus_opposite_plus a b = cc (plus_assoc k a (opposite k a) b, plus_opposite k a, zeros_plus k b)

  -- A common part is taken away on the left.
  pub le_plus_cancel : (c a b : Row k) → Le k (plus k c a) (plus k c b) → Le k a b
  le_plus_cancel c a b h = rw (back a, back b) at (le_plus_left k (opposite k c) (plus k c a) (plus k c b) h)
    where
      back : (x : Row k) → plus k (opposite k c) (plus k c x) ≡ x
      back x = plus_left_comm (opposite k c) c x ∙ plus_opposite_plus c x

  -- An order holds where, with the same part added, it is one that is known.
  pub le_by : (c a b p q : Row k) → Le k p q → plus k c a ≡ p → plus k c b ≡ q → Le k a b
  le_by c a b p q h x y = le_plus_cancel c a b (rw (x, y) h)

  -- Where a row is not above another, the difference is not below zero.
  pub gap_of_le : (a b : Row k) → Le k a b → Le k (zeros k) (plus k (opposite k a) b)
  gap_of_le a b h = le_by a (zeros k) (plus k (opposite k a) b) a b h (plus_zeros a) (plus_opposite_plus a b)

  -- And the other way round.
  pub le_of_gap : (a b : Row k) → Le k (zeros k) (plus k (opposite k a) b) → Le k a b
  le_of_gap a b h = rw (plus_zeros a, plus_opposite_plus a b) at (le_plus_left k a (zeros k) (plus k (opposite k a) b) h)

  -- Opposites stand the other way round.
  pub le_opposite : (a b : Row k) → Le k a b → Le k (opposite k b) (opposite k a)
  le_opposite a b h =
      le_of_gap (opposite k b) (opposite k a) (rw (opposite_opposite k b, plus_comm k b (opposite k a)) (gap_of_le a b h))

  -- The opposite of a difference.
  pub opposite_minus : (a b : Row k) → opposite k (minus k a b) ≡ minus k b a
  opposite_minus a b = cc (opposite_plus k a (opposite k b), opposite_opposite k b, plus_comm k (opposite k a) b)

  -- A difference, put back.
  pub plus_minus : (a b : Row k) → plus k b (minus k a b) ≡ a
  plus_minus a b = cc (plus_left_comm b a (opposite k b), plus_opposite k b, plus_zeros a)

  -- Where a difference is at most c, the one row is at most the other with c added.
  pub le_plus_of_minus : (a b c : Row k) → Le k (minus k a b) c → Le k a (plus k b c)
  le_plus_of_minus a b c h = rw (plus_minus a b) at (le_plus_left k b (minus k a b) c h)

  -- And the other way round.
  pub minus_le_of_plus : (a b c : Row k) → Le k a (plus k b c) → Le k (minus k a b) c
  minus_le_of_plus a b c h = le_plus_cancel b (minus k a b) c (rw (plus_minus a b) h)
