-- The parts of a column and of a numeral. Assumes nothing.
--     Unpadded column rest           the column is spaces and then `rest`, which begins with no space
--     Measures digits r              r is what reading a magnitude, with no minus, answers
--     Names text r                   r is what reading the text, with no spaces, answers
--     Kept n o                       o holds n, or nothing where n does not fit 64 bits
--     sign negative                  the sign of a number that is below zero or not
--     Puts text before after r       r is what writing the text at the end of a slice answers, which then holds `after`
use Rattle.std.specs.Prelude.{◌≡◌, ℕ, ◌^◌, ◌<◌, ◌≤◌, Bool, true, false, List, [], ◌∷◌, ◌++◌, length, replicate, ℤ, Some, None, Ok, Err, Option, Result, FitsSigned, ◌≢◌, slice_index_or}
use Rattle.std.specs.Int.{w64}
use Rattle.columns.specs.Columns.{decimal, numeral}
use Rattle.columns.specs.declared.NoRoom.{NoRoom}
use Rattle.columns.specs.declared.Unread.{Unread}
use Rattle.columns.specs.declared.Unread.TheVariants.{NoNumber, TooLarge}

pub record Unpadded (column rest : List ℕ) : Type 0 where
  pub spaces : ℕ
  pub split : column ≡ replicate spaces 32 ++ rest
  pub first : slice_index_or rest 0 0 ≡ 32 → ⊥

abbrev pub Measures : List ℕ → Result ℕ Unread → Type 0
Measures digits (Ok n) = digits ≡ decimal n
Measures digits (Err NoNumber) = (n : ℕ) → digits ≢ decimal n
Measures digits (Err TooLarge) = (n : ℕ) × (digits ≡ decimal n) × (2 ^ 64 ≤ n)

abbrev pub Names : List ℕ → Result ℤ Unread → Type 0
Names text (Ok z) = text ≡ numeral z
Names text (Err NoNumber) = (z : ℤ) → text ≢ numeral z
Names text (Err TooLarge) = (z : ℤ) × (text ≡ numeral z) × (FitsSigned w64 z → ⊥)

abbrev pub Kept : ℕ → Option ℕ → Type 0
Kept n (Some m) = m ≡ n
Kept n None = 2 ^ 64 ≤ n

abbrev pub sign : Bool → List ℕ
sign true = 45 ∷ []
sign false = []

abbrev pub Puts : List ℕ → List ℕ → List ℕ → Result (Unit {0}) NoRoom → Type 0
Puts text before after (Ok _) = (k : ℕ) × (after ≡ replicate k 32 ++ text) × (length after ≡ length before)
Puts text before after (Err _) = (after ≡ before) × (length before < length text)
