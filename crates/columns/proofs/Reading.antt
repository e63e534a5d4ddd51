-- Lemmas on a number that is read digit by digit. Assumes nothing.
use Rattle.std.proofs.Common.{◌≡◌, ℕ, zero, suc, ◌+◌, ◌-◌, ◌*◌, ◌<◌, ◌≤◌, List, [], ◌∷◌, ◌++◌, length, get_or, take, ℤ, pos, negsuc, Some, None, Ok, Err, Option, Result, sym, refl, ap, ◌∙◌, subst, arith, w64, SFits}
use Rattle.std.proofs.ByRecursion.{All-get_or}
use Rattle.std.proofs.lemmas.List.{take_more, take_all}
use Rattle.std.specs.Option.{ok_or}
use Rattle.std.specs.Result.{OkIff, result_or}
use Rattle.std.specs.List.{AllByRecursion}
use Rattle.std.specs.Int.{IsInRange}
use Rattle.columns.proofs.Decimals.{decimal_digit, decimal_push, digits_decimal, some_decimal, decimal_not, above_zero, zero_alone, same_from_decimal}
use Rattle.columns.specs.Columns.{decimal, numeral}
use Rattle.columns.specs.Parts.{Measures, Names, Kept}
use Rattle.columns.specs.declared.Unread.{Unread}
use Rattle.columns.specs.declared.Unread.TheVariants.{NoNumber, TooLarge}

-- the bytes are the digits of n, or none as yet
abbrev pub Spells : List ℕ → ℕ → Type 0
Spells [] n = n ≡ 0
Spells (b ∷ bs) n = b ∷ bs ≡ decimal n

-- one more digit at the end
spells_push : (bs : List ℕ) (n d : ℕ) → (get_or bs 0 0 ≡ 48 → ⊥) → d < 10 → Spells bs n → Spells (bs ++ ((48 + d) ∷ [])) (n * 10 + d)
spells_push [] n d nonzero small spelt =
    let alone : n * 10 + d ≡ d = omega arith in sym (ap decimal alone ∙ decimal_digit d small)
spells_push (b ∷ bs) n d nonzero small spelt =
    ap (λ l. l ++ ((48 + d) ∷ [])) spelt ∙ sym (decimal_push n d (above_zero (b ∷ bs) n nonzero spelt) small)

-- before the end no front begins with a zero
front_nonzero : (bytes : List ℕ) (i : ℕ) → (get_or bytes 0 0 ≡ 48 → length bytes ≤ 1) → i < length bytes → get_or (take i bytes) 0 0 ≡ 48 → ⊥
front_nonzero bytes zero alone within zero-first = omega arith
front_nonzero [] (suc i) alone within zero-first = omega arith
front_nonzero (b ∷ bs) (suc i) alone within zero-first = omega (arith, alone zero-first)

-- the loop's invariant: the first i bytes are the digits of a number, which is kept while it fits
pub record Sofar (bytes : List ℕ) (i : ℕ) (kept : Option ℕ) : Type 0 where
  pub some : 0 < length bytes
  pub alone : get_or bytes 0 0 ≡ 48 → length bytes ≤ 1
  pub number : ℕ
  pub spelt : Spells (take i bytes) number
  pub held : Kept number kept

-- one byte more
pub sofar_more : (bytes : List ℕ) (i : ℕ) (kept next : Option ℕ) → i < length bytes → IsInRange 48 57 (get_or bytes i 0) → ((n : ℕ) → Kept n kept → Kept (n * 10 + (get_or bytes i 0 - 48)) next) → Sofar bytes i kept → Sofar bytes (i + 1) next
sofar_more bytes i kept next within digit step sofar =
    let d : ℕ = get_or bytes i 0 - 48 in
    let byte : get_or bytes i 0 ≡ 48 + d = omega arith in
    let n : ℕ = sofar.number * 10 + d in
    let nonzero = front_nonzero bytes i sofar.alone within in
    let more : take (i + 1) bytes ≡ take i bytes ++ ((48 + d) ∷ []) = take_more bytes i 0 within ∙ ap (λ b. take i bytes ++ (b ∷ [])) byte in
    record {
      some = sofar.some;
      alone = sofar.alone;
      number = n;
      spelt = subst (λ l. Spells l n) (sym more) (spells_push _ _ d nonzero (omega (arith, digit.1)) sofar.spelt);
      held = step sofar.number sofar.held;
    }

-- at the end the bytes are all digits
spelt_all : (bytes : List ℕ) (n : ℕ) → 0 < length bytes → Spells bytes n → bytes ≡ decimal n
spelt_all [] n some spelt = absurd (omega arith)
spelt_all (b ∷ bs) n some spelt = spelt

-- after the last byte
pub sofar_all : (bytes : List ℕ) (kept : Option ℕ) (i : ℕ) → length bytes ≤ i → Sofar bytes i kept → Measures bytes (ok_or kept TooLarge)
sofar_all bytes (Some m) i end sofar = spelt_all bytes m sofar.some (rw (sofar.held, ← take_all i bytes end) sofar.spelt)
sofar_all bytes None i end sofar = (sofar.number, spelt_all bytes _ sofar.some (rw (← take_all i bytes end) sofar.spelt), sofar.held)

-- no number has no digits
pub no_number_empty : (bytes : List ℕ) → length bytes ≡ 0 → Measures bytes (Err NoNumber)
no_number_empty bytes none n spelt = omega (arith, some_decimal n, ap length spelt)

-- nor another byte among them
pub no_number_other : (bytes : List ℕ) (i : ℕ) → i < length bytes → (IsInRange 48 57 (get_or bytes i 0) → ⊥) → Measures bytes (Err NoNumber)
no_number_other bytes i within other n spelt =
    other (All-get_or (IsInRange 48 57) bytes i 0 within (subst (AllByRecursion (IsInRange 48 57)) (sym spelt) (digits_decimal n)))

-- nor a zero before others
pub no_number_zero_first : (bytes : List ℕ) → get_or bytes 0 0 ≡ 48 → 1 < length bytes → Measures bytes (Err NoNumber)
no_number_zero_first bytes zero-first more n spelt = omega (arith, zero_alone bytes n zero-first spelt)

-- the digits behind a minus
pub magnitude_minus : (digits : List ℕ) (z : ℤ) → 45 ∷ digits ≡ numeral z → (n : ℕ) × (digits ≡ decimal (suc n))
magnitude_minus digits (pos n) same = absurd (decimal_not n 45 digits (omega arith) same)
magnitude_minus digits (negsuc n) same = (n, cc)

-- the digits with no minus before them
pub magnitude_plain : (digits : List ℕ) (z : ℤ) → (get_or digits 0 0 ≡ 45 → ⊥) → digits ≡ numeral z → (n : ℕ) × (digits ≡ decimal n)
magnitude_plain digits (pos n) plain same = (n, same)
magnitude_plain digits (negsuc n) plain same = absurd (plain (ap (λ l. get_or l 0 0) same))

-- a magnitude that fits is the number, and another is too large
pub names_fitting : {E : Type 0} (n : ℕ) (t : Result ℤ E) → OkIff t (SFits w64 (pos n)) (pos n) → Names (decimal n) (result_or t (Err TooLarge))
names_fitting n (Ok z) fits = ap numeral (sym fits.1)
names_fitting n (Err e) large = (pos n, refl, large)

-- there is no minus zero
pub no_number_minus_zero : (n : ℕ) → n ≡ 0 → Names (45 ∷ decimal n) (Err NoNumber)
no_number_minus_zero n none z same =
    let found = magnitude_minus (decimal n) z same in omega (arith, same_from_decimal n (suc found.0) found.1)

-- digits that are no magnitude are none behind a minus
pub names_minus : (text digits : List ℕ) (e : Unread) → text ≡ 45 ∷ digits → Measures digits (Err e) → Names text (Err e)
names_minus text digits NoNumber split none = λ z same.
    let found = magnitude_minus digits z (sym split ∙ same) in none (suc found.0) found.1
names_minus text digits TooLarge split large =
    let next : large.0 ≡ suc (large.0 - 1) = omega (arith, large.2) in
    (negsuc (large.0 - 1), split ∙ ap (λ l. 45 ∷ l) (large.1 ∙ ap decimal next), λ fits. omega (arith, large.2, fits.sfits))

-- and none without it
pub names_plain : (digits : List ℕ) (e : Unread) → (get_or digits 0 0 ≡ 45 → ⊥) → Measures digits (Err e) → Names digits (Err e)
names_plain digits NoNumber plain none = λ z same. let found = magnitude_plain digits z plain same in none found.0 found.1
names_plain digits TooLarge plain large = (pos large.0, large.1, λ fits. omega (arith, large.2, fits.sfits))
