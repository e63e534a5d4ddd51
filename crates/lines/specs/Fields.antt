-- The fields of a line as values. Assumes nothing.
--     pin_width                  how many columns a pin has, and each number of an N line
--     ShowsPin columns z         the columns are those of a pin or of a count, and show z
--     ReadsPin columns r         r is the number that the columns show, or the cause of a field that shows none
--     ShowsEnd k columns e       the columns show the end e of k numbers: all spaces where it is absent, else its row
--     ReadsEnd k row columns r   r is the end that the columns show, by its row, or the cause of a field that shows none
--     OneEnd k                   columns show one end at most
use Rattle.std.specs.Prelude.{◌≡◌, ℕ, ◌*◌, List, length, replicate, ℤ, Some, None, Ok, Err, Option, Result}
use Rattle.columns.specs.Columns.{Shows}
use Rattle.kinds.specs.Kinds.{field, ShowsRow}
use Rattle.kinds.specs.Rows.{Row}
use Rattle.lines.specs.declared.cause.TextCause.{TextCause}
use Rattle.std.specs.Option.{option_map}

abbrev pub pin_width : ℕ
pin_width = 4

pub record ShowsPin (columns : List ℕ) (z : ℤ) : Type 0 where
  pub wide : length columns ≡ pin_width
  pub shown : Shows columns z

abbrev pub ReadsPin : List ℕ → Result ℤ TextCause → Type 0
ReadsPin columns (Ok z) = ShowsPin columns z
ReadsPin columns (Err c) = (c ≡ TextCause.Field) × ((z : ℤ) → ShowsPin columns z → ⊥)

abbrev pub ShowsEnd : (k : ℕ) → List ℕ → Option (Row k) → Type 0
ShowsEnd k columns None = columns ≡ replicate (field * k) 32
ShowsEnd k columns (Some r) = ShowsRow k columns r

abbrev pub ReadsEnd : {V : Type 0} (k : ℕ) → (V → Row k) → List ℕ → Result (Option V) TextCause → Type 0
ReadsEnd k row columns (Ok e) = ShowsEnd k columns (option_map row e)
ReadsEnd k row columns (Err c) = (c ≡ TextCause.Field) × (ShowsEnd k columns None → ⊥) × ((r : Row k) → ShowsEnd k columns (Some r) → ⊥)

abbrev pub OneEnd : ℕ → Type 0
OneEnd k = (columns : List ℕ) (e e' : Option (Row k)) → ShowsEnd k columns e → ShowsEnd k columns e' → e ≡ e'
