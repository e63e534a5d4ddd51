-- Lemmas on a number that is written into some columns of a text. Assumes nothing.
use Rattle.std.proofs.Common.{◌≡◌, ℕ, ◌+◌, ◌-◌, ◌≤◌, List, ◌++◌, length, take, drop, ℤ, Ok, Err, Result, sym, ap, ◌∙◌, subst, arith, length-append, length-drop, take-append-drop, length-take}
use borrow.Rule.Slice.PartMut.{put_mid}
use Rattle.columns.specs.Columns.{numeral, Shows, Writes, Set, WritesAt}
use Rattle.columns.specs.declared.NoRoom.{NoRoom}
use Rattle.std.proofs.lemmas.Slice.{between-put_mid, drop-put_mid, take-put_mid_below}

-- a column written as a part of the text; k is its width as the code has it
set_part : (z : ℤ) (start width k : ℕ) (text part : List ℕ) (r : Result (Unit {0}) NoRoom) → k ≡ width → start + width ≤ length text → Writes z (take k (drop start text)) part r → WritesAt z start width text (put_mid start k text part) r
set_part z start width k text part (Ok _) same within h =
    let reach : start ≤ length text = omega arith in
    let long : length part ≡ k = h.1 ∙ simp (length-take, length-drop) (omega arith) in
    let back : start + width - start ≡ width = omega arith in
    let shown = rw back at (between-put_mid start k text part (start + width) reach (omega arith)) in
    record {
      within = within;
      shown = subst (λ p. Shows p z) (sym shown) h.0;
      front = take-put_mid_below start k text part start (omega arith) reach;
      back = drop-put_mid start k text part (start + width) (omega arith) reach long;
      len = simp (length-append, length-take, length-drop) (omega arith);
    }
set_part z start width k text part (Err _) same within h = (
  ap (λ p. put_mid start k text p) h.0 ∙ ap (λ l. take start text ++ l) (take-append-drop k (drop start text)) ∙ take-append-drop start text,
  λ _ room. omega (arith, simp (length-take, length-drop) at h.1),
)

-- the same, where y is the number as the code passes it on
pub writes_at : (y z : ℤ) (start width k : ℕ) (text part : List ℕ) (r : Result (Unit {0}) NoRoom) → y ≡ z → k ≡ width → start + width ≤ length text → Writes y (take k (drop start text)) part r → WritesAt z start width text (put_mid start k text part) r
writes_at y z start width k text part r e same within h = subst (λ x. WritesAt x start width text (put_mid start k text part) r) e (set_part y start width k text part r same within h)

-- where the numeral has room, it is written and not refused; y is the number as the code passes it on
pub set_with_room : (y z : ℤ) (start width : ℕ) (before after : List ℕ) (r : Result (Unit {0}) NoRoom) → y ≡ z → start + width ≤ length before → length (numeral z) ≤ width → WritesAt y start width before after r → Set z start width before after
set_with_room y z start width before after (Ok _) e within room h = subst (λ x. Set x start width before after) e h
set_with_room y z start width before after (Err refusal) e within room h =
    absurd ((subst (λ x. WritesAt x start width before after (Err refusal)) e h).1 within room)
