-- One whole number: what a kind's functions answer at each place of a row. Assumes nothing.
--     ExactNumber z r            r is absent exactly where z is above `most` in size, else it is z
--     ShowsNumber column z       the column is one field, and shows z
--     ReadsNumber column r       r is what reading the column answers: absent exactly where it shows no number
--     Admits k r width a         a says whether so many columns take the row r of k numbers, and if not, why
use Rattle.std.specs.Prelude.{◌≡◌, ℕ, ◌*◌, ◌≤◌, List, length, ℤ, Some, None, Ok, Err, Option, Result, unsigned_abs}
use Rattle.columns.specs.Columns.{Shows}
use Rattle.kinds.specs.Kinds.{most, field, widest}
use Rattle.kinds.specs.Rows.{Row, Within}
use Rattle.kinds.specs.declared.time.Unwritten.{Unwritten}
use Rattle.kinds.specs.declared.time.Unwritten.TheVariants.{WrongWidth, TooLarge}
use Rattle.std.specs.Option.{SomeIff}

abbrev pub ExactNumber : ℤ → Option ℤ → Type 0
ExactNumber z r = SomeIff r (unsigned_abs z ≤ most) z

abbrev pub ShowsNumber : List ℕ → ℤ → Type 0
ShowsNumber column z = (length column ≡ field) × Shows column z

abbrev pub ReadsNumber : List ℕ → Option ℤ → Type 0
ReadsNumber column None = (z : ℤ) → ShowsNumber column z → ⊥
ReadsNumber column (Some z) = ShowsNumber column z

-- the width is looked at before the size
abbrev pub Admits : (k : ℕ) → Row k → ℕ → Result (Unit {0}) Unwritten → Type 0
Admits k r width (Ok _) = (width ≡ field * k) × Within k widest r
Admits k r width (Err WrongWidth) = width ≡ field * k → ⊥
Admits k r width (Err TooLarge) = (width ≡ field * k) × (Within k widest r → ⊥)
