-- Cells that agree between the pins are one: what is read from the ones is read from the others. Assumes nothing.
use Rattle.std.proofs.Common.{◌≡◌, ℕ, List, Some, Option, sym, ap, ◌∙◌, subst, inl, inr}
use Rattle.kinds.specs.Rows.{Row}
use Rattle.graph.specs.Schedules.{Pin, Record, NotAbove, OnPins}
use Rattle.graph.specs.Tables.{Cells, LeastLength, ZeroDiagonal, Table, Agree, negated, lesser, greater}
use Rattle.graph.specs.Tables.{range_low, range_high, cut_low, cut_high, updated, Refused, FinalTime}
use Rattle.graph.specs.Laws.{CellsThatAgreeAreOne}

-- agreement goes both ways
pub agree_sym : (k n : ℕ) (d e : Cells k) → Agree k n d e → Agree k n e d
agree_sym k n d e same u v p q = sym (same u v p q)

module _ (k n : ℕ) (d e : Cells k) (same : Agree k n d e) where
  -- the diagonal of the others is zero too
  pub diagonal_agrees : ZeroDiagonal k n d → ZeroDiagonal k n e
  diagonal_agrees h u p = sym (same u u p p) ∙ h u p

  -- cells that agree with a table are one
  pub table_agrees : (rs : List (Record k)) → Table k n rs d → Table k n rs e
  table_agrees rs t = record {
    least = λ u v p q. subst (LeastLength k rs u v) (same u v p q) (t.least u v p q);
    diagonal = diagonal_agrees t.diagonal;
  }

  -- a pair of pins has one range, by its low end
  pub range_low_agrees : (i j : ℕ) → Pin n i → Pin n j → range_low k d i j ≡ range_low k e i j
  range_low_agrees i j p q = ap (negated k) (same i j p q)

  -- and by its high end
  pub range_high_agrees : (i j : ℕ) → Pin n i → Pin n j → range_high k d i j ≡ range_high k e i j
  range_high_agrees i j p q = same j i q p

  -- a record is cut to one low end
  pub cut_low_agrees : (r : Record k) → OnPins k n r → cut_low k d r ≡ cut_low k e r
  cut_low_agrees r on = ap (greater k r.low) (range_low_agrees r.first r.second on.first_pin on.second_pin)

  -- and to one high end
  pub cut_high_agrees : (r : Record k) → OnPins k n r → cut_high k d r ≡ cut_high k e r
  cut_high_agrees r on = ap (lesser k r.high) (range_high_agrees r.first r.second on.first_pin on.second_pin)

  -- a record that is refused by the ones is refused by the others
  pub refused_agrees : (r : Record k) → OnPins k n r → Refused k d r → Refused k e r
  refused_agrees r on (inl h) =
      inl (subst (λ (c : Option (Row k)). NotAbove k r.low c → ⊥)
      (range_high_agrees r.first r.second on.first_pin on.second_pin) h)
  refused_agrees r on (inr h) =
      inr (subst (λ (c : Option (Row k)). NotAbove k c r.high → ⊥)
      (range_low_agrees r.first r.second on.first_pin on.second_pin) h)

  -- the formula turns them into cells that agree: each cell that it reads is the same
  pub updated_agrees : (r : Record k) → OnPins k n r → Agree k n (updated k d r) (updated k e r)
  updated_agrees r on u v pu pv =
      let cell = same u v pu pv in
      let to-first = same u r.first pu on.first_pin in
      let to-second = same u r.second pu on.second_pin in
      let from_First = same r.first v on.first_pin pv in
      let from_Second = same r.second v on.second_pin pv in
      cc (cut_low_agrees r on, cut_high_agrees r on)

  -- a final time by the ones is one by the others
  pub final_agrees : (v : ℕ) (t : Row k) → Pin n v → FinalTime k n d v t → FinalTime k n e v t
  final_agrees v t pv f =
      let (u, pu, at-u) = f.reached in
      record {
        reached = (u, pu, sym (same u v pu pv) ∙ at-u);
        least = λ x px. subst (NotAbove k (Some t)) (same x v px pv) (f.least x px);
      }

-- part by part, both ways
pub cells_that_agree_are_one : CellsThatAgreeAreOne
cells_that_agree_are_one k n d e same =
    let back : Agree k n e d = agree_sym k n d e same in
    record {
      diagonal = (diagonal_agrees k n d e same, diagonal_agrees k n e d back);
      table = λ rs. (table_agrees k n d e same rs, table_agrees k n e d back rs);
      range = λ i j p q. (range_low_agrees k n d e same i j p q, range_high_agrees k n d e same i j p q);
      cut = λ r on. (cut_low_agrees k n d e same r on, cut_high_agrees k n d e same r on);
      refusal = λ r on. (refused_agrees k n d e same r on, refused_agrees k n e d back r on);
      update = updated_agrees k n d e same;
      final = λ v t p. (final_agrees k n d e same v t p, final_agrees k n e d back v t p);
    }
