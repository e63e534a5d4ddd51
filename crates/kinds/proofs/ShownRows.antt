-- Rows that columns show, from their fields. Assumes nothing.
use Rattle.std.proofs.Common.{◌≡◌, ℕ, zero, suc, ◌≤◌, List, ◌++◌, length, take, drop, ℤ, refl, ap, ap₂, arith, length-append, length-drop, length-take}
use Rattle.columns.proofs.Shown.{one_number}
use Rattle.kinds.specs.Kinds.{field, ShowsRow}
use Rattle.kinds.specs.Numbers.{ShowsNumber}
use Rattle.kinds.specs.Rows.{Row}
use Rattle.std.proofs.lemmas.List.{drop_all, drop_at, take_all, take_at}

-- A field is the row of its number.
pub row_one : (column : List ℕ) (z : ℤ) → ShowsNumber column z → ShowsRow 1 column (z, tt)
row_one column z h =
    let most : length column ≤ 12 = omega (arith, h.0) in
    (omega (arith, h.0), rw take_all h.1, drop_all 12 column most)

-- A row begins with the field of its first number.
pub first_number : (k : ℕ) (columns : List ℕ) (r : Row (suc k)) → ShowsRow (suc k) columns r → ShowsNumber (take field columns) r.0
first_number k columns r h = (simp length-take (omega (arith, h.0)), h.1)

-- A row of one number is a field.
pub only_number : (columns : List ℕ) (r : Row 1) → ShowsRow 1 columns r → ShowsNumber columns r.0
only_number columns r h =
    let len : length columns ≡ 12 = omega (arith, h.0, simp length-drop at (ap length h.2)) in
    let most : length columns ≤ 12 = omega arith in
    (len, rw take_all at h.1)

-- Columns whose first field shows no number show no row.
pub none_first : (k : ℕ) (columns first : List ℕ) → first ≡ take field columns → ((z : ℤ) → ShowsNumber first z → ⊥) → (r : Row (suc k)) → ShowsRow (suc k) columns r → ⊥
none_first k columns first is none r h = none r.0 (rw is (first_number k columns r h))

-- Nor do two fields of which the second shows none.
pub none_second : (columns second : List ℕ) → second ≡ drop field columns → ((z : ℤ) → ShowsNumber second z → ⊥) → (r : Row 2) → ShowsRow 2 columns r → ⊥
none_second columns second is none r h = none r.1.0 (rw is (only_number _ r.1 h.2))

-- A field and the row behind it are a row.
pub row_more : (k : ℕ) (front back : List ℕ) (z : ℤ) (r : Row k) → ShowsNumber front z → ShowsRow k back r → ShowsRow (suc k) (front ++ back) (z, r)
row_more k front back z r first more = (
  omega (arith, first.0, length-append front back),
  rw (take_at front back 12 first.0) first.1,
  rw (drop_at front back 12 first.0) more,
)

-- Columns show one row at most.
pub one_row : (k : ℕ) (columns : List ℕ) (r r' : Row k) → ShowsRow k columns r → ShowsRow k columns r' → r ≡ r'
one_row zero columns r r' h g = refl
one_row (suc k) columns r r' h g =
    ap₂ (λ (z : ℤ) (more : Row k). (z, more)) (one_number (take field columns) r.0 r'.0 h.1 g.1)
    (one_row k (drop field columns) r.1 r'.1 h.2 g.2)
