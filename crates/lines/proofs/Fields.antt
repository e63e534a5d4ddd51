-- What reading a field tells of the number or the end that it shows. Assumes nothing.
use Rattle.std.proofs.Common.{◌≡◌, ℕ, zero, suc, ◌*◌, ◌≤◌, Bool, List, length, take, replicate, ℤ, Some, None, Ok, Err, Decides, Result, refl, ap, ◌∙◌, subst, mul-suc, arith}
use Rattle.columns.proofs.Shown.{one_number, blank_shows_none}
use Rattle.columns.proofs.Sizes.{sfits_shows}
use Rattle.columns.specs.Columns.{Shows, Reads}
use Rattle.columns.specs.declared.Unread.{Unread}
use Rattle.columns.specs.declared.Unread.TheVariants.{NoNumber, TooLarge}
use Rattle.kinds.proofs.ShownRows.{one_row}
use Rattle.kinds.specs.Kinds.{field, ShowsRow}
use Rattle.kinds.specs.Rows.{Row}
use Rattle.lines.specs.Fields.{pin_width, ShowsPin, ReadsPin, OneEnd}
use Rattle.lines.specs.Lines.{IsPin}
use Rattle.lines.specs.declared.cause.TextCause.{TextCause}
use Rattle.std.proofs.lemmas.List.{take-replicate}
use Rattle.std.specs.Result.{is_ok, result_eq, result_or, result_unwrap_or}
use Rattle.std.specs.Ordering.{int_eq}
use Rattle.std.proofs.lemmas.Bool.Decides.{Decides-int_eq}
use mathlib.Core.Bool.{false≢true}

-- four columns that are refused show no number: none is too large there
refused_no_pin : (columns : List ℕ) (u : Unread) → Reads columns (Err u) → (z : ℤ) → ShowsPin columns z → ⊥
refused_no_pin columns NoNumber none z shows = none z shows.shown
refused_no_pin columns TooLarge large z shows = large.2 (sfits_shows columns large.0 (omega (arith, shows.wide)) large.1)

-- what is read of four columns is their number, or that they show none
pub reads_pin : (columns : List ℕ) (r : Result ℤ Unread) → length columns ≡ pin_width → Reads columns r → ReadsPin columns (result_or r (Err TextCause.Field))
reads_pin columns (Ok z) wide shows = record { wide = wide; shown = shows }
reads_pin columns (Err u) wide refused = (refl, refused_no_pin columns u refused)

-- a number is read exactly where the columns show one
pub decides_some_pin : (columns : List ℕ) (r : Result ℤ TextCause) → ReadsPin columns r → Decides (is_ok r) (IsPin columns)
decides_some_pin columns (Ok z) shows = (λ t. (z, shows), λ some. refl)
decides_some_pin columns (Err c) refused = (λ t. absurd (false≢true t), λ some. absurd (refused.1 some.0 some.1))

-- the number that the columns show is what was read of them
pub pin_or : (columns : List ℕ) (r : Result ℤ TextCause) (d z : ℤ) → ReadsPin columns r → ShowsPin columns z → result_unwrap_or r d ≡ z
pin_or columns (Ok y) d z reads shows = one_number columns y z reads.shown shows.shown
pin_or columns (Err c) d z reads shows = absurd (reads.1 z shows)

-- what is read is a number exactly where the columns show it
pub decides_pin : (columns : List ℕ) (r : Result ℤ TextCause) (z : ℤ) (eq : TextCause → TextCause → Bool) → ReadsPin columns r → Decides (result_eq int_eq eq r (Ok z)) (ShowsPin columns z)
decides_pin columns (Ok y) z eq reads =
    let same = Decides-int_eq y z in
    (λ t. subst (ShowsPin columns) (same.0 t) reads, λ shows. same.1 (one_number columns y z reads.shown shows.shown))
decides_pin columns (Err c) z eq refused = (λ t. absurd (false≢true t), λ shows. absurd (refused.1 z shows))

-- spaces show no row of some numbers
blank_no_row : (k : ℕ) (columns : List ℕ) (r : Row k) → 1 ≤ k → columns ≡ replicate (field * k) 32 → ShowsRow k columns r → ⊥
blank_no_row zero columns r some blank shows = omega arith
blank_no_row (suc k) columns r some blank shows =
    let first : take field columns ≡ replicate field 32 = ap (take field) blank ∙ take-replicate field (field * suc k) 32 (omega (arith, mul-suc field k)) in
    blank_shows_none field r.0 (subst (λ c. Shows c r.0) first shows.1)

-- columns show one end at most
pub one_end : (k : ℕ) → 1 ≤ k → OneEnd k
one_end k some columns None None h g = refl
one_end k some columns None (Some r) h g = absurd (blank_no_row k columns r some h g)
one_end k some columns (Some r) None h g = absurd (blank_no_row k columns r some g h)
one_end k some columns (Some r) (Some r') h g = ap Some (one_row k columns r r' h g)
