-- Lemmas on the digits of a number, of every size. Assumes nothing.
use Rattle.std.proofs.Common.{◌≡◌, ℕ, zero, suc, ◌+◌, ◌-◌, ◌*◌, ◌/◌, ◌%◌, ◌<◌, ◌≤◌, List, [], ◌∷◌, ◌++◌, map, length, get_or, sym, refl, ap, ◌∙◌, ⊎_elim, arith}
use native.Mathlib.Nat.{add-sub_cancel_left}
use Rattle.std.proofs.lemmas.Int.Digits.{digits_of_step, length-digits_of_step, first_digits_of, all_below_base_digits_of, number_digits_of}
use Rattle.std.proofs.ByRecursion.{All-get_or, All-map, All-weaker}
use Rattle.std.proofs.lemmas.Simd.{map-map}
use Rattle.std.proofs.lemmas.List.{map_push, map-id, get_or-map, length_push}
use Rattle.std.proofs.str.Laws.{order}
use Rattle.std.specs.Int.Digits.{digits_of, number_from_digits}
use Rattle.std.specs.List.{AllByRecursion}
use Rattle.std.specs.Int.{IsInRange}
use Rattle.columns.specs.Columns.{decimal}

-- above zero the digits are those of the library
decimal_is : (n : ℕ) → 0 < n → decimal n ≡ map (λ d. 48 + d) (digits_of 10 n)
unfolding decimal
decimal_is zero some = absurd (omega arith)
decimal_is (suc n) some = refl

-- above zero the last digit stands after those of the tenth part, of which zero has none
decimal_split : (n : ℕ) → 0 < n → decimal n ≡ map (λ d. 48 + d) (digits_of 10 (n / 10)) ++ ((48 + n % 10) ∷ [])
decimal_split n some =
    decimal_is n some ∙ ap (map (λ d. 48 + d)) (digits_of_step 10 n (omega arith) some) ∙ map_push _ (digits_of 10 (n / 10)) (n % 10)

-- a digit alone
pub decimal_digit : (n : ℕ) → n < 10 → decimal n ≡ (48 + n) ∷ []
unfolding decimal
decimal_digit zero small = refl
decimal_digit (suc n) small =
    let none : suc n / 10 ≡ 0 = omega arith in
    let whole : suc n % 10 ≡ suc n = omega arith in
    decimal_split (suc n) (omega arith) ∙ simp (none, whole)

-- from ten on the last digit stands after those of the tenth part
pub decimal_step : (n : ℕ) → 10 ≤ n → decimal n ≡ decimal (n / 10) ++ ((48 + n % 10) ∷ [])
decimal_step n large = rw (decimal_is (n / 10) (omega arith)) (decimal_split n (omega arith))

-- from ten on there is one digit more than in the tenth part
pub length_decimal_step : (n : ℕ) → 10 ≤ n → length (decimal n) ≡ length (decimal (n / 10)) + 1
length_decimal_step n large = ap length (decimal_step n large) ∙ length_push (decimal (n / 10)) (48 + n % 10)

-- the last digit, after those of the tenth part unless it stands alone
pub decimal_last : (n : ℕ) → (front : List ℕ) × (decimal n ≡ front ++ ((48 + n % 10) ∷ [])) × (0 < length front → front ≡ decimal (n / 10))
decimal_last n = ⊎_elim
    (λ small. let whole : n % 10 ≡ n = omega arith in ([], rw whole (decimal_digit n small), λ some. absurd (omega arith)))
    (λ large. (decimal (n / 10), decimal_step n large, λ some. refl))
    (order n 10)

-- one more digit at the end
pub decimal_push : (n d : ℕ) → 0 < n → d < 10 → decimal (n * 10 + d) ≡ decimal n ++ ((48 + d) ∷ [])
decimal_push n d some small =
    let front : (n * 10 + d) / 10 ≡ n = omega arith in
    let last : (n * 10 + d) % 10 ≡ d = omega arith in
    decimal_step (n * 10 + d) (omega arith) ∙ simp (front, last)

-- each byte is a digit
pub digits_decimal : (n : ℕ) → AllByRecursion (IsInRange 48 57) (decimal n)
unfolding decimal
digits_decimal zero = (search arith, tt)
digits_decimal (suc n) =
    let ds = digits_of 10 (suc n) in
    let under = all_below_base_digits_of 10 (suc n) (omega arith) in
    All-map (IsInRange 48 57) (λ d. 48 + d) ds (All-weaker (λ d. d < 10) _ (λ d small. (omega arith, omega arith)) ds under)

-- there is a digit
pub some_decimal : (n : ℕ) → 0 < length (decimal n)
some_decimal n = ⊎_elim
    (λ small. omega (arith, ap length (decimal_digit n small)))
    (λ large. omega (arith, length_decimal_step n large))
    (order n 10)

-- the first digit of a number above zero is above zero
pub first_decimal : (n : ℕ) → 0 < n → 48 < get_or (decimal n) 0 0
first_decimal n some =
    let digit : 0 < length (digits_of 10 n) = omega (arith, length-digits_of_step 10 n (omega arith) some) in
    rw (decimal_is n some, get_or-map (λ d. 48 + d) (digits_of 10 n) 0 0 0 digit) (omega (arith, first_digits_of 10 n (omega arith) some))

-- the first byte of a number's digits is a digit
pub digit_first : (n : ℕ) → IsInRange 48 57 (get_or (decimal n) 0 0)
digit_first n = All-get_or (IsInRange 48 57) (decimal n) 0 0 (some_decimal n) (digits_decimal n)

-- so no digits begin with a byte below them
pub decimal_not : (n b : ℕ) (rest : List ℕ) → b < 48 → b ∷ rest ≡ decimal n → ⊥
decimal_not n b rest other same = omega (arith, digit_first n, ap (λ l. get_or l 0 0) same)

-- a number whose first digit is no zero is above zero
pub above_zero : (bs : List ℕ) (n : ℕ) → (get_or bs 0 0 ≡ 48 → ⊥) → bs ≡ decimal n → 0 < n
above_zero bs n nonzero spelt = ⊎_elim
    (λ some. some)
    (λ none. let digit : n < 10 = omega arith in absurd (nonzero (omega (arith, ap (λ l. get_or l 0 0) (spelt ∙ decimal_digit n digit)))))
    (order 0 n)

-- a leading zero stands alone
pub zero_alone : (bs : List ℕ) (n : ℕ) → get_or bs 0 0 ≡ 48 → bs ≡ decimal n → length bs ≡ 1
zero_alone bs n zero-first spelt = ⊎_elim
    (λ some. absurd (omega (arith, first_decimal n some, ap (λ l. get_or l 0 0) spelt)))
    (λ none. let digit : n < 10 = omega arith in ap length (spelt ∙ decimal_digit n digit))
    (order 0 n)

-- the number that digits write
abbrev value_of : List ℕ → ℕ
value_of bytes = number_from_digits 10 (map (λ b. b - 48) bytes)

-- the digits of a number write it
value_of_decimal : (n : ℕ) → value_of (decimal n) ≡ n
unfolding decimal
value_of_decimal zero = refl
value_of_decimal (suc n) = simp (map-map, add-sub_cancel_left, map-id) (number_digits_of 10 (suc n) (omega arith))

-- no two numbers have the same digits
pub same_from_decimal : (m n : ℕ) → decimal m ≡ decimal n → m ≡ n
same_from_decimal m n same = sym (value_of_decimal m) ∙ ap value_of same ∙ value_of_decimal n
