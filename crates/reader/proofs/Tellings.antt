-- Why reading on and on hands out just the lines of the sheet. Assumes nothing.
use Rattle.std.proofs.Common.{◌≡◌, ℕ, zero, suc, ◌+◌, ◌-◌, ◌<◌, List, [], ◌∷◌, ◌++◌, length, get_or, take, drop, Some, None, Option, sym, refl, ap, ◌∙◌, subst, ap₂, ⊎_elim, append_assoc, arith, length-append, take-append-drop, drop_at}
use Rattle.lines.specs.Lines.{letter}
use Rattle.reader.specs.Readings.{Begun, rest, Ahead, HandsOut, Reading, comes_to_end, meets_fault, hands_out, TellsTheSheet}
use Rattle.reader.specs.Sheets.{Holds, ends, faults, goes_on, Told, as_whole, by_lines}
use Rattle.reader.specs.Texts.{Readable, UnreadableBy, Ended, OneLine, SplitInto, with_newline}
use Rattle.lines.specs.declared.cause.TextCause.{TextCause}
use Rattle.reader.specs.declared.fault.Fault.{Fault}
use Rattle.lines.specs.declared.line.Line.{Line}
use Rattle.reader.specs.declared.reader.Reader.{Reader}
use Rattle.std.proofs.lemmas.List.{drop-drop}
use Rattle.std.proofs.lemmas.Bool.Decides.{eqb_tells}
use Rattle.std.specs.List.{flat_map}

-- a line with one byte more in front
one_line_more : (b : ℕ) (bytes : List ℕ) → (b ≡ 10 → ⊥) → OneLine bytes → OneLine (b ∷ bytes)
one_line_more b bytes other one zero h e = other e
one_line_more b bytes other one (suc i) h e = one i (omega arith) e

-- what is left of an ended text is ended
ended_rest : (b : ℕ) (xs : List ℕ) → Ended (b ∷ xs) → 0 < length xs → Ended xs
ended_rest b [] e some = absurd (omega arith)
ended_rest b (x ∷ xs) e some =
    let here : suc (length xs) - 1 ≡ length xs = omega arith in
    let there : suc (suc (length xs)) - 1 ≡ suc (length xs) = omega arith in
    ap (λ i. get_or (x ∷ xs) i 0) here ∙ sym (ap (λ i. get_or (b ∷ (x ∷ xs)) i 0) there) ∙ e

-- a newline in front is an empty line more
newline_more : (xs : List ℕ) (lines : List (List ℕ)) → SplitInto xs lines → SplitInto (10 ∷ xs) ([] ∷ lines)
newline_more xs lines h = record { together = ap (λ l. 10 ∷ l) h.together; each = (λ i lt e. omega arith, h.each) }

-- another byte in front is one more of the first line
byte_more : (b : ℕ) (xs : List ℕ) → Ended (b ∷ xs) → (b ≡ 10 → ⊥) → (lines : List (List ℕ)) → SplitInto xs lines → (more : List (List ℕ)) × SplitInto (b ∷ xs) more
byte_more b xs ended other [] h = absurd (other (subst (λ l. Ended (b ∷ l)) (sym h.together) ended))
byte_more b xs ended other (l ∷ ls) h =
    ((b ∷ l) ∷ ls, record { together = ap (λ m. b ∷ m) h.together; each = (one_line_more b l other h.each.0, h.each.1) })

-- every ended text has its lines
lines_of : (xs : List ℕ) → (0 < length xs → Ended xs) → (lines : List (List ℕ)) × SplitInto xs lines
lines_of [] ended = ([], record { together = refl; each = tt })
lines_of (b ∷ xs) ended =
    let whole = ended (omega arith) in
    let (lines, h) = lines_of xs (ended_rest b xs whole) in
    ⊎_elim
    (λ is. ([] ∷ lines, subst (λ x. SplitInto (x ∷ xs) ([] ∷ lines)) (sym is.1) (newline_more xs lines h)))
    (λ other. byte_more b xs whole other.1 lines h)
    (eqb_tells b 10)

-- the back of an ended text is ended
ended_after : (xs ys : List ℕ) → Ended (xs ++ ys) → 0 < length ys → Ended ys
ended_after [] ys e some = e
ended_after (x ∷ xs) ys e some = ended_after xs ys (ended_rest x (xs ++ ys) e (simp length-append (omega arith))) some

-- a readable text has no fault as a whole
pub readable_not_unreadable : (text : List ℕ) (c : TextCause) (n : ℕ) → Readable text → UnreadableBy text c n → ⊥
readable_not_unreadable text TextCause.Length n readable h = omega (arith, readable.short)
readable_not_unreadable text TextCause.Newline n readable h = h.2 readable.ended
readable_not_unreadable text TextCause.Layout n readable h = h
readable_not_unreadable [] TextCause.Turn n readable h = omega (arith, readable.ended)
readable_not_unreadable (x ∷ xs) TextCause.Turn n readable h = omega (arith, h.0)
readable_not_unreadable text TextCause.Count n readable h = h
readable_not_unreadable text TextCause.Field n readable h = h

module _ {V : Type 0} (s : Reader V) (bytes : List ℕ) (ahead : Ahead s bytes) where
  -- the line ahead is the first of what is left
  lines_ahead : (more : List (List ℕ)) → SplitInto ahead.after more → SplitInto (rest s) (bytes ∷ more)
  lines_ahead more h = record {
    together = append_assoc bytes (10 ∷ []) (flat_map with_newline more) ∙ ap (λ l. bytes ++ (10 ∷ l)) h.together ∙ sym ahead.ends;
    each = (ahead.one, h.each);
  }

  -- what follows it has its lines too
  lines_behind : (more : List (List ℕ)) × SplitInto ahead.after more
  lines_behind =
      let left : 0 < length (rest s) = subst (λ l. 0 < length l) (sym ahead.ends) (simp length-append (omega arith)) in
      let whole = subst Ended (sym (take-append-drop s.place s.text.now)) ahead.readable.ended in
      let back = subst Ended ahead.ends (ended_after (take s.place s.text.now) (rest s) whole left) in
      lines_of ahead.after (λ some. ended_rest 10 ahead.after (ended_after bytes (10 ∷ ahead.after) back (omega arith)) some)

-- past the line handed out, the reader has left what followed it
rest_after : {V : Type 0} (k : ℕ) (s t : Reader V) (line : Line) (h : HandsOut k s t line) → rest t ≡ h.ahead.after
rest_after k s t line h =
    let n = length h.bytes in
    let on : t.place ≡ s.place + (n + 1) = h.place ∙ omega arith in
    ap₂ (λ p x. drop p x.now) on h.text
    ∙ sym (drop-drop (n + 1) s.place s.text.now)
    ∙ ap (drop (n + 1)) h.ahead.ends
    ∙ sym (drop-drop 1 n (h.bytes ++ (10 ∷ h.ahead.after)))
    ∙ ap (drop 1) (drop_at h.bytes (10 ∷ h.ahead.after) n refl)

-- reading on from a place of a readable text hands out the lines that are left
reading_on : {V : Type 0} (k : ℕ) {s : Reader V} {ls : List Line} {f : Option Fault} → Readable s.text.now → Reading k s ls f → (lines : List (List ℕ)) × SplitInto (rest s) lines × Holds k s.last s.line lines ls f
reading_on k readable (comes_to_end s t h) = ([], record { together = sym h.1; each = tt }, ends s.last s.line)
reading_on k readable (meets_fault s t f h) =
    ⊎_elim
    (λ whole. absurd (readable_not_unreadable s.text.now f.cause f.line readable whole.1))
    (λ stops.
    let (more, behind) = lines_behind s stops.bytes stops.ahead in
    (stops.bytes ∷ more, lines_ahead s stops.bytes stops.ahead more behind, faults s.last s.line stops.bytes more f stops.faulty stops.number))
    h.0
reading_on k readable (hands_out s t line ls f h on) =
    let (more, behind, holds) = reading_on k (subst (λ x. Readable x.now) (sym h.text) readable) on in
    let next = subst (λ n. Holds k (Some (letter line)) n more ls f) h.number (subst (λ l. Holds k l t.line more ls f) h.last holds) in (
      h.bytes ∷ more,
      lines_ahead s h.bytes h.ahead more (subst (λ l. SplitInto l more) (rest_after k s t line h) behind),
      goes_on s.last s.line h.bytes more line ls f h.good next,
    )

-- from the start of a readable text, all of it is left
from_start : {V : Type 0} (k : ℕ) (text : List ℕ) (s : Reader V) (ls : List Line) (f : Option Fault) → Begun text s → Readable s.text.now → Reading k s ls f → Told k text ls f
from_start k text s ls f begun readable r =
    let (lines, all, holds) = reading_on k readable r in
    let whole : rest s ≡ text = ap (λ p. drop p s.text.now) begun.place ∙ begun.text in
    by_lines lines ls f
    (subst Readable begun.text readable)
    (subst (λ l. SplitInto l lines) whole all)
    (subst (λ n. Holds k None n lines ls f) begun.number (subst (λ l. Holds k l s.line lines ls f) begun.last holds))

-- the first answer tells whether the text has a fault as a whole
told_from_start : {V : Type 0} (k : ℕ) (text : List ℕ) {s : Reader V} {ls : List Line} {f : Option Fault} → Begun text s → Reading k s ls f → Told k text ls f
told_from_start k text begun (comes_to_end s t h) = from_start k text s [] None begun h.0 (comes_to_end s t h)
told_from_start k text begun (meets_fault s t f h) =
    ⊎_elim
    (λ whole. as_whole f (subst (λ x. UnreadableBy x f.cause f.line) begun.text whole.1))
    (λ stops. from_start k text s [] (Some f) begun stops.ahead.readable (meets_fault s t f h))
    h.0
told_from_start k text begun (hands_out s t line ls f h on) = from_start k text s (line ∷ ls) f begun h.ahead.readable (hands_out s t line ls f h on)

-- reading on and on hands out just the lines of the sheet, up to its first fault
pub tells_the_sheet : {V : Type 0} (text : List ℕ) (s : Reader V) → Begun text s → TellsTheSheet text s
tells_the_sheet text s begun k ls f = told_from_start k text begun
