-- Bytes in their place have one answer: a line that is taken apart from them is known but for where it lies. Assumes nothing.
use Rattle.std.proofs.Common.{◌≡◌, ℕ, ◌*◌, cond, eqb, List, [], ◌∷◌, ◌++◌, get_or, take, drop, pos, Ok, Err, Option, sym, refl, ap, ◌∙◌, subst, ap₂}
use Rattle.kinds.specs.Kinds.{field}
use Rattle.lines.specs.Checks.{Good, Faulty, OneAnswer}
use Rattle.lines.specs.Fields.{ShowsPin}
use Rattle.lines.specs.Lines.{letter, letter_byte, fields, record_fields, RecordLaidOut, LaidOut, Parts, InTurn, IsPin, IsEnd, Numbers, OwnCount, field_bytes}
use Rattle.lines.specs.declared.cause.TextCause.{TextCause}
use Rattle.lines.specs.declared.line.Letter.{Letter}
use Rattle.lines.specs.declared.line.Letter.TheVariants.{N, P, R, C}
use Rattle.lines.specs.declared.line.Line.{Line}
use Rattle.lines.specs.declared.line.Line.TheVariants.{Pins, Name, Constraint, Commit}
use Rattle.lines.specs.declared.line.RecordFields.{RecordFields}
use Rattle.std.proofs.lemmas.List.{drop_at, take_at}
use Rattle.std.specs.List.{AllByRecursion}

-- the letter of a byte
abbrev byte_letter : ℕ → Letter
byte_letter b = cond (eqb b 78) N (cond (eqb b 80) P (cond (eqb b 82) R C))

-- a letter is known from its byte
byte_letter_of : (l : Letter) → byte_letter (letter_byte l) ≡ l
byte_letter_of N = refl
byte_letter_of P = refl
byte_letter_of R = refl
byte_letter_of C = refl

-- what follows the letter, cut into fields
abbrev record_cut : ℕ → List ℕ → List (List ℕ)
record_cut k xs = take 4 xs ∷ take 4 (drop 4 xs) ∷ take (field * k) (drop 4 (drop 4 xs)) ∷ drop (field * k) (drop 4 (drop 4 xs)) ∷ []

abbrev cut : ℕ → Letter → List ℕ → List (List ℕ)
cut k N xs = take 4 xs ∷ drop 4 xs ∷ []
cut k P xs = take 4 xs ∷ drop 1 (drop 4 xs) ∷ []
cut k R xs = record_cut k xs
cut k C xs = record_cut k xs

-- the four fields of a record
record_is_cut :
    (k : ℕ) (r : RecordFields) → RecordLaidOut k r
    → r.first.now ∷ r.second.now ∷ r.low.now ∷ r.high.now ∷ [] ≡ record_cut k (record_fields r)
record_is_cut k r laid =
    let both = r.low.now ++ r.high.now in
    let after = drop_at r.first.now (r.second.now ++ both) 4 laid.first in
    let ends = ap (drop 4) after ∙ drop_at r.second.now both 4 laid.second in
    let e = take_at r.first.now (r.second.now ++ both) 4 laid.first in
    let f = ap (take 4) after ∙ take_at r.second.now both 4 laid.second in
    let g = ap (take (field * k)) ends ∙ take_at r.low.now r.high.now (field * k) laid.low in
    let h = ap (drop (field * k)) ends ∙ drop_at r.low.now r.high.now (field * k) laid.low in
    cc (e, f, g, h)

-- the fields of a line are cut from what follows its letter
fields_are_cut : (k : ℕ) (line : Line) → LaidOut k line → field_bytes line ≡ cut k (letter line) (fields line)
fields_are_cut k (Pins line pins count) laid = cc (take_at pins.now count.now 4 laid.0, drop_at pins.now count.now 4 laid.0)
fields_are_cut k (Name line pin name) laid =
    let after = ap (drop 1) (drop_at pin.now (32 ∷ name.now) 4 laid) in
    cc (take_at pin.now (32 ∷ name.now) 4 laid, after)
fields_are_cut k (Constraint line r) laid = record_is_cut k r laid
fields_are_cut k (Commit line r) laid = record_is_cut k r laid

-- the numbers of a line, by its letter and its fields
abbrev NumbersBy : ℕ → Letter → List (List ℕ) → Type 0
NumbersBy k N xs = AllByRecursion IsPin xs
NumbersBy k P xs = IsPin (get_or xs 0 [])
NumbersBy k R xs = AllByRecursion IsPin (take 2 xs) × AllByRecursion (IsEnd k) (drop 2 xs)
NumbersBy k C xs = AllByRecursion IsPin (take 2 xs) × AllByRecursion (IsEnd k) (drop 2 xs)

numbers_by : (k : ℕ) (line : Line) → Numbers k line → NumbersBy k (letter line) (field_bytes line)
numbers_by k (Pins line pins count) h = h
numbers_by k (Name line pin name) h = h
numbers_by k (Constraint line r) h = h
numbers_by k (Commit line r) h = h

by_numbers : (k : ℕ) (line : Line) → NumbersBy k (letter line) (field_bytes line) → Numbers k line
by_numbers k (Pins line pins count) h = h
by_numbers k (Name line pin name) h = h
by_numbers k (Constraint line r) h = h
by_numbers k (Commit line r) h = h

-- the count of an N line, by its letter and its fields
abbrev CountBy : ℕ → Letter → List (List ℕ) → Type 0
CountBy k N xs = ShowsPin (get_or xs 1 []) (pos k)
CountBy k P xs = Unit {0}
CountBy k R xs = Unit {0}
CountBy k C xs = Unit {0}

count_by : (k : ℕ) (line : Line) → OwnCount k line → CountBy k (letter line) (field_bytes line)
count_by k (Pins line pins count) h = h
count_by k (Name line pin name) h = h
count_by k (Constraint line r) h = h
count_by k (Commit line r) h = h

by_count : (k : ℕ) (line : Line) → CountBy k (letter line) (field_bytes line) → OwnCount k line
by_count k (Pins line pins count) h = h
by_count k (Name line pin name) h = h
by_count k (Constraint line r) h = h
by_count k (Commit line r) h = h

module _ (k : ℕ) (bytes : List ℕ) (line line' : Line) (p : Parts k bytes line) (q : Parts k bytes line') where
  -- two lines of the same bytes have one letter
  one_letter : letter line ≡ letter line'
  one_letter =
      sym (byte_letter_of (letter line))
      ∙ ap (λ l. byte_letter (get_or l 0 0)) (p.together ∙ sym q.together)
      ∙ byte_letter_of (letter line')

  -- and the same fields
  one_fields : field_bytes line ≡ field_bytes line'
  one_fields =
      fields_are_cut k line p.layout
      ∙ ap₂ (cut k) one_letter (ap (drop 1) (p.together ∙ sym q.together))
      ∙ sym (fields_are_cut k line' q.layout)

  -- what is asked of the one line is asked of the other
  turn_over : (last : Option Letter) → InTurn last (letter line) → InTurn last (letter line')
  turn_over last = subst (InTurn last) one_letter

  numbers_over : Numbers k line → Numbers k line'
  numbers_over h = by_numbers k line' (subst (λ l. NumbersBy k l (field_bytes line')) one_letter (subst (NumbersBy k (letter line)) one_fields (numbers_by k line h)))

  count_over : OwnCount k line → OwnCount k line'
  count_over h = by_count k line' (subst (λ l. CountBy k l (field_bytes line')) one_letter (subst (CountBy k (letter line)) one_fields (count_by k line h)))

-- a good line shows no cause
good_not_faulty : (k : ℕ) (last : Option Letter) (n : ℕ) (bytes : List ℕ) (line : Line) (c : TextCause) → Good k last n bytes line → Faulty k last bytes c → ⊥
good_not_faulty k last n bytes line TextCause.Length good h = h
good_not_faulty k last n bytes line TextCause.Newline good h = h
good_not_faulty k last n bytes line TextCause.Layout good h = h line good.parts
good_not_faulty k last n bytes line TextCause.Turn good (other, parts, turn) = turn (turn_over k bytes line other good.parts parts last good.turn)
good_not_faulty k last n bytes line TextCause.Field good (other, parts, turn, numbers) =
    numbers (numbers_over k bytes line other good.parts parts good.numbers)
good_not_faulty k last n bytes line TextCause.Count good (other, parts, turn, numbers, count) =
    count (count_over k bytes line other good.parts parts good.count)

-- bytes that are no line of a letter show no later cause
layout_cause : (k : ℕ) (last : Option Letter) (bytes : List ℕ) (c : TextCause) → Faulty k last bytes TextCause.Layout → Faulty k last bytes c → TextCause.Layout ≡ c
layout_cause k last bytes TextCause.Length none h = absurd h
layout_cause k last bytes TextCause.Newline none h = absurd h
layout_cause k last bytes TextCause.Layout none h = refl
layout_cause k last bytes TextCause.Turn none (x, p, turn) = absurd (none x p)
layout_cause k last bytes TextCause.Field none (x, p, turn, numbers) = absurd (none x p)
layout_cause k last bytes TextCause.Count none (x, p, turn, numbers, count) = absurd (none x p)

-- two causes of the same bytes are one: what the later one passed, the earlier one passed too
one_cause : (k : ℕ) (last : Option Letter) (bytes : List ℕ) (c c' : TextCause) → Faulty k last bytes c → Faulty k last bytes c' → c ≡ c'
one_cause k last bytes TextCause.Length c' h g = absurd h
one_cause k last bytes TextCause.Newline c' h g = absurd h
one_cause k last bytes TextCause.Layout c' h g = layout_cause k last bytes c' h g
one_cause k last bytes TextCause.Turn TextCause.Length h g = absurd g
one_cause k last bytes TextCause.Turn TextCause.Newline h g = absurd g
one_cause k last bytes TextCause.Turn TextCause.Layout h g = sym (layout_cause k last bytes TextCause.Turn g h)
one_cause k last bytes TextCause.Turn TextCause.Turn h g = refl
one_cause k last bytes TextCause.Turn TextCause.Field (x, p, turn) (y, q, turn', numbers') = absurd (turn (turn_over k bytes y x q p last turn'))
one_cause k last bytes TextCause.Turn TextCause.Count (x, p, turn) (y, q, turn', numbers', count') = absurd (turn (turn_over k bytes y x q p last turn'))
one_cause k last bytes TextCause.Field TextCause.Length h g = absurd g
one_cause k last bytes TextCause.Field TextCause.Newline h g = absurd g
one_cause k last bytes TextCause.Field TextCause.Layout h g = sym (layout_cause k last bytes TextCause.Field g h)
one_cause k last bytes TextCause.Field TextCause.Turn (x, p, turn, numbers) (y, q, turn') = absurd (turn' (turn_over k bytes x y p q last turn))
one_cause k last bytes TextCause.Field TextCause.Field h g = refl
one_cause k last bytes TextCause.Field TextCause.Count (x, p, turn, numbers) (y, q, turn', numbers', count') = absurd (numbers (numbers_over k bytes y x q p numbers'))
one_cause k last bytes TextCause.Count TextCause.Length h g = absurd g
one_cause k last bytes TextCause.Count TextCause.Newline h g = absurd g
one_cause k last bytes TextCause.Count TextCause.Layout h g = sym (layout_cause k last bytes TextCause.Count g h)
one_cause k last bytes TextCause.Count TextCause.Turn (x, p, turn, numbers, count) (y, q, turn') = absurd (turn' (turn_over k bytes x y p q last turn))
one_cause k last bytes TextCause.Count TextCause.Field (x, p, turn, numbers, count) (y, q, turn', numbers') = absurd (numbers' (numbers_over k bytes x y p q numbers))
one_cause k last bytes TextCause.Count TextCause.Count h g = refl

-- lines that are good in one place are alike, a good line shows no cause, and two causes are one
pub one_answer : (k : ℕ) → OneAnswer k
one_answer k last n bytes (Ok line) (Ok line') h g = record {
  same_number = h.numbered ∙ sym g.numbered;
  same_letter = one_letter k bytes line line' h.parts g.parts;
  same_fields = one_fields k bytes line line' h.parts g.parts;
}
one_answer k last n bytes (Ok line) (Err c) h g = good_not_faulty k last n bytes line c h g
one_answer k last n bytes (Err c) (Ok line) h g = good_not_faulty k last n bytes line c g h
one_answer k last n bytes (Err c) (Err c') h g = one_cause k last bytes c c' h g
