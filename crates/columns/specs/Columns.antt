-- A whole number in a column of text. Assumes nothing.
--     decimal n                      the digits of n, the highest first, with no leading zero
--     numeral z                      the digits of z, with a minus right before them where z is below zero
--     Shows column z                 the column is spaces and then the numeral of z
--     Reads column r                 r is what reading the column answers
--     Writes z before after r        r is what writing z answers, and the column then holds `after`
--     Set z start width before after the columns of a text from `start` on show z, and the others are as before
--     WritesAt z start width before after r   r is what writing z into those columns answers
--     OneNumber                     a column shows at most one number
--     OneColumn                     of one length at most one column shows a number
--     ReadsBack z after r           a column that z was written into reads as z
--     WritesBack column r           a number that was read writes the same column again
use Rattle.std.specs.Prelude.{◌≡◌, ℕ, zero, suc, ◌+◌, ◌<◌, ◌≤◌, List, [], ◌∷◌, ◌++◌, map, length, take, drop, replicate, ℤ, pos, negsuc, Ok, Err, Result, FitsSigned}
use Rattle.std.specs.Int.{w64}
use Rattle.columns.specs.declared.NoRoom.{NoRoom}
use Rattle.columns.specs.declared.Unread.{Unread}
use Rattle.columns.specs.declared.Unread.TheVariants.{NoNumber, TooLarge}
use Rattle.std.specs.Int.Digits.{digits_of}

-- zero has one digit
unfoldable pub decimal : ℕ → List ℕ
decimal zero = 48 ∷ []
decimal (suc n) = map (λ d. 48 + d) (digits_of 10 (suc n))

-- zero has no minus
abbrev pub numeral : ℤ → List ℕ
numeral (pos n) = decimal n
numeral (negsuc n) = 45 ∷ decimal (suc n)

pub record Shows (column : List ℕ) (z : ℤ) : Type 0 where
  pub spaces : ℕ
  pub justified : column ≡ replicate spaces 32 ++ numeral z

abbrev pub Reads : List ℕ → Result ℤ Unread → Type 0
Reads column (Ok z) = Shows column z
Reads column (Err NoNumber) = (z : ℤ) → Shows column z → ⊥
Reads column (Err TooLarge) = (z : ℤ) × Shows column z × (FitsSigned w64 z → ⊥)

abbrev pub Writes : ℤ → List ℕ → List ℕ → Result (Unit {0}) NoRoom → Type 0
Writes z before after (Ok _) = Shows after z × (length after ≡ length before)
Writes z before after (Err _) = (after ≡ before) × (length before < length (numeral z))

pub record Set (z : ℤ) (start width : ℕ) (before after : List ℕ) : Type 0 where
  pub within : start + width ≤ length before
  pub shown : Shows (take width (drop start after)) z
  pub front : take start after ≡ take start before
  pub back : drop (start + width) after ≡ drop (start + width) before
  pub len : length after ≡ length before

abbrev pub WritesAt : ℤ → ℕ → ℕ → List ℕ → List ℕ → Result (Unit {0}) NoRoom → Type 0
WritesAt z start width before after (Ok _) = Set z start width before after
WritesAt z start width before after (Err _) = (after ≡ before) × (start + width ≤ length before → length (numeral z) ≤ width → ⊥)

abbrev pub OneNumber : Type 0
OneNumber = (column : List ℕ) (y z : ℤ) → Shows column y → Shows column z → y ≡ z

abbrev pub OneColumn : Type 0
OneColumn = (c d : List ℕ) (z : ℤ) → Shows c z → Shows d z → length c ≡ length d → c ≡ d

abbrev pub ReadsBack : ℤ → List ℕ → Result (Unit {0}) NoRoom → Type 0
ReadsBack z after (Ok _) = (again : Result ℤ Unread) → Reads after again → again ≡ Ok z
ReadsBack z after (Err _) = Unit {0}

abbrev pub WritesBack : List ℕ → Result ℤ Unread → Type 0
WritesBack column (Ok z) = (before after : List ℕ) (w : Result (Unit {0}) NoRoom) → length before ≡ length column → Writes z before after w → (w ≡ Ok tt) × (after ≡ column)
WritesBack column (Err _) = Unit {0}
