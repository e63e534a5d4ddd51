-- Lemmas on a number that is written digit by digit. Assumes nothing.
use Rattle.std.proofs.Common.{◌≡◌, ℕ, ◌+◌, ◌-◌, ◌/◌, ◌%◌, ◌<◌, true, false, List, [], ◌∷◌, ◌++◌, length, drop, set, replicate, ℤ, pos, negsuc, nat_abs, Ok, sym, refl, ap, ◌∙◌, append_assoc, append-nil, arith, length-append, length-set, le-ltb}
use lib.ListN.{length-replicate}
use lib.Signed.{lt_z}
use Rattle.std.proofs.lemmas.List.{drop-set, length_push, replicate_more, set_at}
use Rattle.columns.proofs.Decimals.{decimal_last}
use Rattle.columns.specs.Columns.{decimal, numeral, Writes}
use Rattle.columns.specs.Parts.{sign, Puts}

-- the loop's invariant: from `place` on the digits are set, and those before are the digits of `rest`
pub record Left (number : ℕ) (digits : List ℕ) (place rest : ℕ) : Type 0 where
  pub front : List ℕ
  pub split : decimal number ≡ front ++ drop place digits
  pub long : length front ≡ place
  pub of_rest : 0 < length front → front ≡ decimal rest

-- one digit more
pub left_more : (number : ℕ) (digits : List ℕ) (end place rest : ℕ) → end ≡ place + 1 → place < length digits → Left number digits end rest → Left number (set digits place (48 + rest % 10)) place (rest / 10)
left_more number digits end place rest next within left =
    let last = decimal_last rest in
    let set_here = sym (drop-set digits place (48 + rest % 10) within) in
    let was : left.front ≡ last.0 ++ ((48 + rest % 10) ∷ []) = left.of_rest (omega (arith, left.long)) ∙ last.1 in
    record {
      front = last.0;
      split = left.split ∙ (λ i. was i ++ drop (next i) digits) ∙ append_assoc last.0 _ _ ∙ ap (λ l. last.0 ++ l) set_here;
      long = omega (arith, left.long, ap length was ∙ length_push last.0 (48 + rest % 10));
      of_rest = last.2;
    }

-- the last space becomes the minus
set_minus : (k : ℕ) → set {A = ℕ} (replicate (k + 1) 32) k 45 ≡ replicate k 32 ++ (45 ∷ [])
set_minus k =
    ap (λ (l : List ℕ). set l k 45) (sym (replicate_more k 32)) ∙ set_at (replicate k 32) 32 [] 45 k (length-replicate k 32)

-- spaces and a minus
pub puts_minus : (before spaces : List ℕ) → spaces ≡ replicate (length before) 32 → 0 < length before → Puts (sign true) before (set spaces (length spaces - 1) 45) (Ok tt)
puts_minus before spaces filled some =
    let long : length spaces ≡ length before = ap length filled ∙ length-replicate (length before) 32 in
    let k : ℕ = length before - 1 in
    let all : length before ≡ k + 1 = omega arith in
    (k, (λ i. set (filled i) (long i - 1) 45) ∙ ap (λ n. set (replicate n 32) k 45) all ∙ set_minus k, length-set spaces _ 45 ∙ long)

-- spaces alone
pub puts_none : (before spaces : List ℕ) → spaces ≡ replicate (length before) 32 → Puts (sign false) before spaces (Ok tt)
puts_none before spaces filled =
    (length before, filled ∙ sym (append-nil (replicate (length before) 32)), ap length filled ∙ length-replicate (length before) 32)

-- a numeral is its minus and its digits
numeral_split : (z : ℤ) → numeral z ≡ sign (lt_z z (pos 0)) ++ decimal (nat_abs z)
numeral_split (pos n) = rw (le-ltb n 0 (omega arith))
numeral_split (negsuc n) = refl

-- the sign in front and the digits behind it; y is z as its bits hold it, and m its size
pub writes_all : (y z : ℤ) → y ≡ z → (m : ℕ) → m ≡ nat_abs y → (column before front digits : List ℕ) → length before + length (decimal m) ≡ length column → Puts (sign (lt_z y (pos 0))) before front (Ok tt) → digits ≡ decimal m → Writes z column (front ++ digits) (Ok tt)
writes_all y z same m abs column before front digits room puts put =
    let front_sign = sign (lt_z y (pos 0)) in
    let parts : front ++ digits ≡ (replicate puts.0 32 ++ front_sign) ++ decimal m = λ i. puts.1 i ++ put i in
    let whole = ap (λ n. front_sign ++ decimal n) abs ∙ sym (numeral_split y) ∙ ap numeral same in
    let shown = append_assoc (replicate puts.0 32) front_sign _ ∙ ap (λ l. replicate puts.0 32 ++ l) whole in
    (record { spaces = puts.0; justified = parts ∙ shown }, omega (arith, length-append front digits, puts.2, ap length put))
