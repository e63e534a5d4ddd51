-- What the functions of a kind of time answer, by rows. Assumes nothing.
--     most                          the largest size that a number of a sum or an opposite has
--     Exact k row r v               v is absent exactly where a number of r is above `most` in size, else its row is r
--     field                         how many columns a number has
--     ShowsRow k columns r          the columns are k fields, and each shows its number of r
--     ReadsRow k row columns v      v is what reading the columns answers: absent exactly where they show no row
--     widest                        the largest size of a number that is written
--     WritesRow k r before after a  a is what writing r answers, and the columns then hold `after`
use Rattle.std.specs.Prelude.{◌≡◌, ℕ, zero, suc, ◌*◌, ◌≤◌, List, [], length, take, drop, Some, None, Ok, Err, Option, Result, ◌≢◌}
use Rattle.columns.specs.Columns.{Shows}
use Rattle.kinds.specs.Rows.{Row, Within}
use Rattle.kinds.specs.declared.time.Unwritten.{Unwritten}
use Rattle.kinds.specs.declared.time.Unwritten.TheVariants.{WrongWidth, TooLarge}

abbrev pub most : ℕ
most = 1_000_000_000_000

abbrev pub Exact : {V : Type 0} (k : ℕ) → (V → Row k) → Row k → Option V → Type 0
Exact k row r None = Within k most r → ⊥
Exact k row r (Some v) = Within k most r × (row v ≡ r)

abbrev pub field : ℕ
field = 12

abbrev pub ShowsRow : (k : ℕ) → List ℕ → Row k → Type 0
ShowsRow zero columns r = columns ≡ []
ShowsRow (suc k) columns r = (field ≤ length columns) × Shows (take field columns) r.0 × ShowsRow k (drop field columns) r.1

abbrev pub ReadsRow : {V : Type 0} (k : ℕ) → (V → Row k) → List ℕ → Option V → Type 0
ReadsRow k row columns None = (r : Row k) → ShowsRow k columns r → ⊥
ReadsRow k row columns (Some v) = ShowsRow k columns (row v)

abbrev pub widest : ℕ
widest = 99_999_999_999

-- the width is looked at before the size
abbrev pub WritesRow : (k : ℕ) → Row k → List ℕ → List ℕ → Result (Unit {0}) Unwritten → Type 0
WritesRow k r before after (Ok _) = Within k widest r × ShowsRow k after r
WritesRow k r before after (Err WrongWidth) = (after ≡ before) × (length before ≢ field * k)
WritesRow k r before after (Err TooLarge) = (after ≡ before) × (length before ≡ field * k) × (Within k widest r → ⊥)
