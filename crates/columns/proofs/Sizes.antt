-- How many digits a number has. Assumes nothing.
use Rattle.std.proofs.Common.{◌≡◌, ℕ, zero, suc, ◌+◌, ◌*◌, ⊎_elim, ◌^◌, ◌<◌, ◌≤◌, List, length, ℤ, pos, negsuc, nat_abs, ap, subst, arith, lit<, lit≤, length-append, w64, SFits}
use native.Mathlib.Nat.{pow-le-pow_right}
use lib.ListN.{length-map}
use Rattle.columns.specs.Columns.{decimal, numeral, Shows}
use Rattle.std.proofs.lemmas.Grind.{pow_more}
use Rattle.std.proofs.str.Laws.{order}
use Rattle.std.proofs.lemmas.Int.Digits.{length-digits_of-le, number_digits_of, number_lt, all_below_base_digits_of}
use Rattle.std.specs.Int.Digits.{digits_of}

-- a number below a power of ten has at most so many digits
pub length_decimal_le : (k n : ℕ) → 0 < k → n < 10 ^ k → length (decimal n) ≤ k
unfolding decimal
length_decimal_le k zero some h = some
length_decimal_le k (suc n) some h = rw length-map (length-digits_of-le 10 k (suc n) (lit≤ tt) h)

-- a number is below the power of ten by its digits
lt_length_decimal : (n : ℕ) → n < 10 ^ length (decimal n)
unfolding decimal
lt_length_decimal zero = lit< tt
lt_length_decimal (suc n) =
    rw length-map
    (subst (λ m. m < 10 ^ length (digits_of 10 (suc n))) (number_digits_of 10 (suc n) (lit≤ tt))
    (number_lt 10 (digits_of 10 (suc n)) (all_below_base_digits_of 10 (suc n) (lit≤ tt))))

-- the digits are one more than the power of ten that the number reaches
pub length_decimal_power : (n k : ℕ) → 10 ^ k ≤ n → n < 10 * 10 ^ k → length (decimal n) ≡ k + 1
length_decimal_power n k reached below =
    let most : length (decimal n) ≤ k + 1 = length_decimal_le (k + 1) n (omega arith) (omega (arith, pow_more 10 k)) in
    ⊎_elim
    (λ (least : k < length (decimal n)). omega arith)
    (λ short. absurd (omega (arith, lt_length_decimal n, pow-le-pow_right {n = 10} (lit< tt) short)))
    (order k (length (decimal n)))

-- a number is below the power of ten by its numeral
lt_length_numeral : (z : ℤ) → nat_abs z < 10 ^ length (numeral z)
lt_length_numeral (pos n) = lt_length_decimal n
lt_length_numeral (negsuc n) =
    let more : length (decimal (suc n)) ≤ suc (length (decimal (suc n))) = omega arith in
    omega (arith, lt_length_decimal (suc n), pow-le-pow_right {n = 10} (lit< tt) more)

-- what a short column shows is a number of 64 bits
pub sfits_shows : (column : List ℕ) (z : ℤ) → length column ≤ 18 → Shows column z → SFits w64 z
sfits_shows column z short s =
    let long : length (numeral z) ≤ 18 = omega (arith, simp length-append at (ap length s.justified)) in
    small z (omega (arith, lt_length_numeral z, pow-le-pow_right {n = 10} (lit< tt) long))
  where
    small : (y : ℤ) → nat_abs y < 10 ^ 18 → SFits w64 y
    small (pos n) h = record { sfits = omega arith }
    small (negsuc n) h = record { sfits = omega arith }
