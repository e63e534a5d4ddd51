-- Bytes written as printable text. Assumes nothing.
--     hexit d            the byte that shows the digit d of base 16, in lower case
--     Spells text bytes  the text stands for the bytes: each for itself, or by an escape
--     Digit byte r       r is the digit that the byte shows, absent where it shows none
--     First text byte r  the text stands for the byte and then for whatever r stands for, which is a shorter text
--     Takes text r       r is such a byte and what is left of the text, or absent
use Rattle.std.specs.Prelude.{◌≡◌, ℕ, ◌+◌, ◌*◌, ◌<◌, cond, List, [], ◌∷◌, length, Some, None, Option, ◌≢◌, nat_lt}
use Rattle.std.specs.Borrow.{Bor}

abbrev pub hexit : ℕ → ℕ
hexit d = cond (nat_lt d 10) (48 + d) (87 + d)

pub data Spells : List ℕ → List ℕ → Type 0 where
  nothing : Spells [] []
  newline : (text bytes : List ℕ) → Spells text bytes → Spells (92 ∷ 110 ∷ text) (10 ∷ bytes)
  backslash : (text bytes : List ℕ) → Spells text bytes → Spells (92 ∷ 92 ∷ text) (92 ∷ bytes)
  by_digits : (high low : ℕ) (text bytes : List ℕ) → high < 16 → low < 16 → Spells text bytes → Spells (92 ∷ 120 ∷ hexit high ∷ hexit low ∷ text) ((high * 16 + low) ∷ bytes)
  itself : (byte : ℕ) (text bytes : List ℕ) → (byte ≢ 92) → Spells text bytes → Spells (byte ∷ text) (byte ∷ bytes)

abbrev pub Digit : ℕ → Option ℕ → Type 0
Digit byte (Some d) = (d < 16) × (byte ≡ hexit d)
Digit byte None = (d : ℕ) → d < 16 → byte ≢ hexit d

pub record First (text : List ℕ) (byte : ℕ) (rest : List ℕ) : Type 0 where
  pub shorter : length rest < length text
  pub spelled : (bytes : List ℕ) → Spells rest bytes → Spells text (byte ∷ bytes)

abbrev pub Takes : List ℕ → Option (ℕ × Bor (List ℕ)) → Type 0
Takes text (Some (byte, rest)) = First text byte rest.now
Takes text None = Unit {0}
