-- Rows of whole numbers: what a value of a kind of time means. Assumes nothing.
--     Row k              k whole numbers; the length is in the type
--     zeros k            the row of zeros
--     plus k a b         the sum, place by place
--     opposite k a       each number negated
--     minus k a b        the difference, a less b, place by place
--     order k a b        how a compares with b: by the first place in which they differ
--     Le k a b           a is not above b
--     Within k limit a   every number of a is at most limit in size
use Rattle.std.specs.Prelude.{ℕ, zero, suc, ◌≤◌, cond, T, ℤ, pos, ◌+ℤ◌, neg_ℤ, int_lt, unsigned_abs}
use Rattle.std.specs.declared.cmp.Ordering.TheVariants.{Less, Equal, Greater}
use Rattle.std.specs.declared.cmp.Ordering.{Ordering}
use Rattle.std.specs.Ordering.{is_le}

abbrev pub Row : ℕ → Type 0
Row zero = Unit {0}
Row (suc k) = ℤ × Row k

abbrev pub zeros : (k : ℕ) → Row k
zeros zero = tt
zeros (suc k) = (pos 0, zeros k)

abbrev pub plus : (k : ℕ) → Row k → Row k → Row k
plus zero a b = tt
plus (suc k) a b = (a.0 +ℤ b.0, plus k a.1 b.1)

abbrev pub opposite : (k : ℕ) → Row k → Row k
opposite zero a = tt
opposite (suc k) a = (neg_ℤ a.0, opposite k a.1)

abbrev pub minus : (k : ℕ) → Row k → Row k → Row k
minus k a b = plus k a (opposite k b)

abbrev pub order : (k : ℕ) → Row k → Row k → Ordering
order zero a b = Equal
order (suc k) a b = cond (int_lt a.0 b.0) Less (cond (int_lt b.0 a.0) Greater (order k a.1 b.1))

abbrev pub Le : (k : ℕ) → Row k → Row k → Type 0
Le k a b = T (is_le (order k a b))

abbrev pub Within : (k : ℕ) → ℕ → Row k → Type 0
Within zero limit a = Unit {0}
Within (suc k) limit a = (unsigned_abs a.0 ≤ limit) × Within k limit a.1
