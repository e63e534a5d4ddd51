-- A number in its field: which numbers have room there. Assumes nothing.
use Rattle.std.proofs.Common.{◌≡◌, ℕ, suc, ◌<◌, ◌≤◌, List, length, ℤ, pos, negsuc, nat_abs, Ok, Err, Result, ap, arith, lit<}
use Rattle.columns.proofs.Sizes.{length_decimal_le, sfits_shows}
use Rattle.columns.specs.Columns.{numeral, Reads}
use Rattle.columns.specs.declared.Unread.{Unread}
use Rattle.columns.specs.declared.Unread.TheVariants.{NoNumber, TooLarge}
use Rattle.kinds.specs.Kinds.{field, widest}
use Rattle.kinds.specs.Numbers.{ReadsNumber}
use Rattle.std.specs.Result.{result_ok}

-- A number that is written has room in a field.
pub length_numeral_le : (z : ℤ) → nat_abs z ≤ widest → length (numeral z) ≤ field
length_numeral_le (pos n) h = length_decimal_le 12 n (lit< tt) (omega arith)
length_numeral_le (negsuc n) h = omega (arith, length_decimal_le 11 (suc n) (lit< tt) (omega arith))

-- So no field is too short for it; y is the number as the code passes it on.
pub not_refused : (before : List ℕ) (y z : ℤ) → y ≡ z → length before ≡ field → nat_abs z ≤ widest → length before < length (numeral y) → ⊥
not_refused before y z same len small short = omega (arith, ap (λ x. length (numeral x)) same, length_numeral_le z small)

-- What is read of a field is its number.
pub reads_number : (column : List ℕ) (r : Result ℤ Unread) → length column ≡ field → Reads column r → ReadsNumber column (result_ok r)
reads_number column (Ok z) len h = (len, h)
reads_number column (Err NoNumber) len h = λ z s. h z s.1
reads_number column (Err TooLarge) len h = λ z s. h.2 (sfits_shows column h.0 (omega (arith, len)) h.1)
