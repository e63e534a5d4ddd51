-- Lemmas on numerals and on the columns that show them. Assumes nothing.
use Rattle.std.proofs.Common.{◌≡◌, ℕ, zero, suc, ◌+◌, ◌<◌, List, [], ◌∷◌, ◌++◌, length, get_or, replicate, ℤ, pos, negsuc, Ok, Err, Result, sym, refl, ap, ◌∙◌, subst, append_assoc, append-nil, arith, length-append, w64, SFits}
use lib.ListN.{length-replicate}
use Rattle.std.proofs.lemmas.List.{replicate_more}
use Rattle.std.proofs.lemmas.Slice.{first_rest}
use Rattle.std.specs.List.{between}
use Rattle.columns.proofs.Decimals.{digit_first, decimal_not, same_from_decimal, some_decimal}
use Rattle.columns.specs.Columns.{decimal, numeral, Shows, Reads, Writes, OneNumber, OneColumn, WritesBack}
use Rattle.columns.specs.Parts.{Unpadded, Names}
use Rattle.columns.specs.declared.NoRoom.{NoRoom}
use Rattle.columns.specs.declared.Unread.{Unread}
use Rattle.columns.specs.declared.Unread.TheVariants.{NoNumber, TooLarge}

-- no two numbers have the same numeral
pub same_from_numeral : (y z : ℤ) → numeral y ≡ numeral z → y ≡ z
same_from_numeral (pos m) (pos n) same = ap pos (same_from_decimal m n same)
same_from_numeral (pos m) (negsuc n) same = absurd (decimal_not m 45 _ (omega arith) (sym same))
same_from_numeral (negsuc m) (pos n) same = absurd (decimal_not n 45 _ (omega arith) same)
same_from_numeral (negsuc m) (negsuc n) same =
    let digits : decimal (suc m) ≡ decimal (suc n) = cc in
    let next = same_from_decimal (suc m) (suc n) digits in ap negsuc (omega arith)

-- a numeral begins with no space
pub numeral_first : (z : ℤ) → get_or (numeral z) 0 0 ≡ 32 → ⊥
numeral_first (pos n) space = omega (arith, digit_first n)
numeral_first (negsuc n) space = omega arith

-- what stands behind the spaces is one text
pub same_rest : (j k : ℕ) (xs ys : List ℕ) → (get_or xs 0 0 ≡ 32 → ⊥) → (get_or ys 0 0 ≡ 32 → ⊥) → replicate j 32 ++ xs ≡ replicate k 32 ++ ys → xs ≡ ys
same_rest zero zero xs ys no-x no-y same = same
same_rest zero (suc k) xs ys no-x no-y same = absurd (no-x (ap (λ l. get_or l 0 0) same))
same_rest (suc j) zero xs ys no-x no-y same = absurd (no-y (sym (ap (λ l. get_or l 0 0) same)))
same_rest (suc j) (suc k) xs ys no-x no-y same =
    let tails : replicate j 32 ++ xs ≡ replicate k 32 ++ ys = cc in same_rest j k xs ys no-x no-y tails

-- a text that begins with a byte is not empty
pub some_from_first : (text : List ℕ) → 0 < get_or text 0 0 → 0 < length text
some_from_first [] first = omega arith
some_from_first (b ∷ bs) first = omega arith

-- its first byte and what stands behind it
pub cons_from_first : (text : List ℕ) (b : ℕ) → 0 < b → get_or text 0 0 ≡ b → text ≡ b ∷ between 1 (length text) text
cons_from_first text b some first =
    first_rest text 0 (some_from_first text (omega arith)) ∙ ap (λ x. x ∷ between 1 (length text) text) first

-- the column is spaces and then the rest
abbrev pub Spaced : List ℕ → List ℕ → Type 0
Spaced column rest = (k : ℕ) × (column ≡ replicate k 32 ++ rest)

-- one space more
pub spaced_more : (column rest : List ℕ) → Spaced column rest → get_or rest 0 0 ≡ 32 → Spaced column (between 1 (length rest) rest)
spaced_more column rest spaced space =
    let k = spaced.0 in
    let after = between 1 (length rest) rest in
    let split = ap (λ l. replicate k 32 ++ l) (cons_from_first rest 32 (omega arith) space) in
    let one_more = sym (append_assoc (replicate k 32) (32 ∷ []) after) ∙ ap (λ l. l ++ after) (replicate_more k 32) in
    (k + 1, spaced.1 ∙ split ∙ one_more)

-- the spaces end where the numeral begins, so the numeral is known, and with it the number
pub one_number : OneNumber
one_number column y z as-y as-z =
    let same = sym as-y.justified ∙ as-z.justified in
    same_from_numeral y z (same_rest as-y.spaces as-z.spaces _ _ (numeral_first y) (numeral_first z) same)

-- a numeral has a digit
some_numeral : (z : ℤ) → 0 < length (numeral z)
some_numeral (pos n) = some_decimal n
some_numeral (negsuc n) = omega arith

-- spaces alone show no number
pub blank_shows_none : (m : ℕ) (z : ℤ) → Shows (replicate m 32) z → ⊥
blank_shows_none m z shows =
    let none = same_rest shows.spaces m (numeral z) [] (numeral_first z) (λ e. omega arith) (sym shows.justified ∙ sym (append-nil (replicate m 32))) in
    omega (arith, some_numeral z, ap length none)

-- a column is as long as its spaces and its numeral
pub length_shows : (column : List ℕ) (z : ℤ) (shows : Shows column z) → length column ≡ shows.spaces + length (numeral z)
length_shows column z shows =
    let k = shows.spaces in
    let front = ap (λ n. n + length (numeral z)) (length-replicate k 32) in
    ap length shows.justified ∙ length-append (replicate k 32) (numeral z) ∙ front

-- the spaces are as many as the numeral leaves
pub one_column : OneColumn
one_column c d z in_c in-d long =
    let spaces : in_c.spaces ≡ in-d.spaces = omega (arith, length_shows c z in_c, length_shows d z in-d) in
    in_c.justified ∙ ap (λ k. replicate k 32 ++ numeral z) spaces ∙ sym in-d.justified

-- a number that fits is read
pub reads_one : (column : List ℕ) (z : ℤ) (r : Result ℤ Unread) → Shows column z → SFits w64 z → Reads column r → r ≡ Ok z
reads_one column z (Ok y) shows fits reads = ap Ok (one_number column y z reads shows)
reads_one column z (Err NoNumber) shows fits reads = absurd (reads z shows)
reads_one column z (Err TooLarge) shows fits reads =
    absurd (reads.2 (subst (SFits w64) (one_number column z reads.0 shows reads.1) fits))

-- what was shown is written again
writes_one : (column : List ℕ) (z : ℤ) → Shows column z → (before after : List ℕ) (w : Result (Unit {0}) NoRoom) → length before ≡ length column → Writes z before after w → (w ≡ Ok tt) × (after ≡ column)
writes_one column z shows before after (Ok _) long writes = (refl, one_column after column z writes.0 shows (writes.1 ∙ long))
writes_one column z shows before after (Err _) long writes = absurd (omega (arith, length_shows column z shows, writes.1))

-- so is what was read
pub writes_back : (column : List ℕ) (r : Result ℤ Unread) → Reads column r → WritesBack column r
writes_back column (Ok z) reads = writes_one column z reads
writes_back column (Err _) reads = tt

-- the spaces and the numeral behind them show the number
shows_behind : (column rest : List ℕ) (z : ℤ) → Unpadded column rest → rest ≡ numeral z → Shows column z
shows_behind column rest z behind named =
    record { spaces = behind.spaces; justified = behind.split ∙ ap (λ l. replicate behind.spaces 32 ++ l) named }

-- what the text behind the spaces reads as, the column does
pub reads_from_names : (column rest : List ℕ) (r : Result ℤ Unread) → Unpadded column rest → Names rest r → Reads column r
reads_from_names column rest (Ok z) behind names = shows_behind column rest z behind names
reads_from_names column rest (Err NoNumber) behind names = λ z shows.
    let same = sym behind.split ∙ shows.justified in
    names z (same_rest behind.spaces shows.spaces _ _ behind.first (numeral_first z) same)
reads_from_names column rest (Err TooLarge) behind names = (names.0, shows_behind column rest names.0 behind names.1, names.2)
