-- Why an E line shows its fault. Assumes nothing.
use Rattle.std.proofs.Common.{◌≡◌, ℕ, ◌+◌, ◌^◌, ◌<◌, ◌≤◌, List, length, take, drop, set, ℤ, pos, sym, ap, ◌∙◌, subst, arith, length-set}
use Rattle.columns.proofs.Sizes.{length_decimal_le}
use Rattle.columns.specs.Columns.{numeral, Shows, Set}
use Rattle.reader.specs.Faults.{FaultLine}
use Rattle.std.proofs.lemmas.List.{take-take, drop-take, take_more_set}

-- a number that has room in its columns is not refused: what `WritesAt` says of a refusal, of columns that lie within the text, cannot be; y is n as the code passes it on
pub not_refused : {Within : Type 0} (y : ℤ) (n width : ℕ) → (Within → length (numeral y) ≤ width → ⊥) → Within → y ≡ pos n → 0 < width → n < 10 ^ width → ⊥
not_refused y n width refused within e some small = refused within (subst (λ z. length (numeral z) ≤ width) (sym e) (length_decimal_le width n some small))

-- columns in front of those that were written are as before
columns_before : (i m n : ℕ) (xs ys : List ℕ) → i + m ≤ n → take n xs ≡ take n ys → take m (drop i xs) ≡ take m (drop i ys)
columns_before i m n xs ys h e =
    sym (drop-take i m xs) ∙ ap (drop i) (sym (take-take (i + m) n xs h) ∙ ap (take (i + m)) e ∙ take-take (i + m) n ys h) ∙ drop-take i m ys

-- the letter and the three numbers, one after the other; l, m and n are the numbers as the code passes them on
pub fault_line : (layer cause line : ℕ) (l m n : ℤ) (before first second after : List ℕ) → l ≡ pos layer → m ≡ pos cause → n ≡ pos line → length before ≡ 15 → Set l 1 4 (set before 0 69) first → Set m 5 4 first second → Set n 9 6 second after → FaultLine layer cause line after
fault_line layer cause line l m n before first second after is-layer is-cause is-line long by-layer by-cause by-line =
    let kept = columns_before 1 4 9 after second (omega arith) by-line.front ∙ columns_before 1 4 5 second first (omega arith) by-cause.front in
    record {
      long = by-line.len ∙ by-cause.len ∙ by-layer.len ∙ length-set before 0 69 ∙ long;
      letter =
          columns_before 0 1 9 after second (omega arith) by-line.front
          ∙ columns_before 0 1 5 second first (omega arith) by-cause.front
          ∙ by-layer.front
          ∙ take_more_set before 0 69 (omega arith);
      shows_layer = subst (Shows (take 4 (drop 1 after))) is-layer (subst (λ c. Shows c l) (sym kept) by-layer.shown);
      shows_cause = subst (Shows (take 4 (drop 5 after))) is-cause (subst (λ c. Shows c m) (sym (columns_before 5 4 9 after second (omega arith) by-line.front)) by-cause.shown);
      shows_line = subst (Shows (take 6 (drop 9 after))) is-line by-line.shown;
    }
