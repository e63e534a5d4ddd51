-- Why a text has one telling: it has one list of lines, and each line one answer. Assumes nothing.
use Rattle.std.proofs.Common.{◌≡◌, ℕ, suc, ◌+◌, List, [], ◌∷◌, ◌++◌, length, Some, None, Ok, Err, Option, sym, refl, ap, ◌∙◌, subst, ap₂, append_assoc, arith, length-append}
use Rattle.lines.proofs.OneAnswer.{one_answer}
use Rattle.lines.specs.declared.cause.TextCause.{TextCause}
use Rattle.lines.specs.declared.line.Letter.{Letter}
use Rattle.lines.specs.declared.line.Line.{Line}
use Rattle.reader.proofs.Tellings.{readable_not_unreadable}
use Rattle.reader.specs.Sheets.{Holds, ends, faults, goes_on, Told, as_whole, by_lines, AlikeLines, OneTelling}
use Rattle.reader.specs.Texts.{OneLine, UnreadableBy, SplitInto, with_newline}
use Rattle.reader.specs.declared.fault.Fault.{Fault}
use Rattle.std.specs.List.{flat_map}

-- what is left of a line is one
one_line_rest : (b : ℕ) (bytes : List ℕ) → OneLine (b ∷ bytes) → OneLine bytes
one_line_rest b bytes one i h e = one (suc i) (omega arith) e

-- up to its first newline, a text is one line
first_line : (a b xs ys : List ℕ) → OneLine a → OneLine b → a ++ (10 ∷ xs) ≡ b ++ (10 ∷ ys) → (a ≡ b) × (xs ≡ ys)
first_line [] [] xs ys p q e = (refl, cc)
first_line [] (b ∷ bs) xs ys p q e = absurd (q 0 (omega arith) (cc))
first_line (a ∷ cs) [] xs ys p q e = absurd (p 0 (omega arith) (cc))
first_line (a ∷ cs) (b ∷ bs) xs ys p q e =
    let heads : a ≡ b = cc in
    let tails : cs ++ (10 ∷ xs) ≡ bs ++ (10 ∷ ys) = cc in
    let (same, rest) = first_line cs bs xs ys (one_line_rest a cs p) (one_line_rest b bs q) tails in
    (ap₂ (λ x l. x ∷ l) heads same, rest)

-- a text is cut into lines in one way
one_split : (text : List ℕ) (lines lines' : List (List ℕ)) → SplitInto text lines → SplitInto text lines' → lines ≡ lines'
one_split text [] [] p q = refl
one_split text [] (l ∷ ls) p q = absurd (omega (arith, simp length-append at (ap length (q.together ∙ sym p.together))))
one_split text (l ∷ ls) [] p q = absurd (omega (arith, simp length-append at (ap length (p.together ∙ sym q.together))))
one_split text (l ∷ ls) (l' ∷ ls') p q =
    let e = sym (append_assoc l (10 ∷ []) (flat_map with_newline ls)) ∙ p.together ∙ sym q.together ∙ append_assoc l' (10 ∷ []) (flat_map with_newline ls') in
    let (same, rest) = first_line l l' (flat_map with_newline ls) (flat_map with_newline ls') p.each.0 q.each.0 e in
    let more = one_split (flat_map with_newline ls) ls ls' (record { together = refl; each = p.each.1 }) (record { together = sym rest; each = q.each.1 }) in
    ap₂ (λ x y. x ∷ y) same more

-- faults with one cause and one line are one
same_fault : (f f' : Fault) → f.cause ≡ f'.cause → f.line ≡ f'.line → f ≡ f'
same_fault f f' p q = ap₂ (λ (c : TextCause) (l : ℕ). record { cause = c; line = l }) p q

-- a text as a whole has one fault
one_fault : (text : List ℕ) (c c' : TextCause) (n n' : ℕ) → UnreadableBy text c n → UnreadableBy text c' n' → (c ≡ c') × (n ≡ n')
one_fault text TextCause.Length TextCause.Length n n' p q = (refl, p.1 ∙ sym q.1)
one_fault text TextCause.Length TextCause.Newline n n' p q = absurd (omega arith)
one_fault text TextCause.Length TextCause.Layout n n' p q = absurd q
one_fault text TextCause.Length TextCause.Turn n n' p q = absurd (omega arith)
one_fault text TextCause.Length TextCause.Count n n' p q = absurd q
one_fault text TextCause.Length TextCause.Field n n' p q = absurd q
one_fault text TextCause.Newline TextCause.Length n n' p q = absurd (omega arith)
one_fault text TextCause.Newline TextCause.Newline n n' p q = (refl, p.3 ∙ sym q.3)
one_fault text TextCause.Newline TextCause.Layout n n' p q = absurd q
one_fault text TextCause.Newline TextCause.Turn n n' p q = absurd (omega arith)
one_fault text TextCause.Newline TextCause.Count n n' p q = absurd q
one_fault text TextCause.Newline TextCause.Field n n' p q = absurd q
one_fault text TextCause.Layout c' n n' p q = absurd p
one_fault text TextCause.Turn TextCause.Length n n' p q = absurd (omega arith)
one_fault text TextCause.Turn TextCause.Newline n n' p q = absurd (omega arith)
one_fault text TextCause.Turn TextCause.Layout n n' p q = absurd q
one_fault text TextCause.Turn TextCause.Turn n n' p q = (refl, p.1 ∙ sym q.1)
one_fault text TextCause.Turn TextCause.Count n n' p q = absurd q
one_fault text TextCause.Turn TextCause.Field n n' p q = absurd q
one_fault text TextCause.Count c' n n' p q = absurd p
one_fault text TextCause.Field c' n n' p q = absurd p

-- lines from a place on hold one telling
one_holding :
    (k : ℕ) {last : Option Letter} {n : ℕ} {lines : List (List ℕ)} {ls ls' : List Line} {f f' : Option Fault}
    → Holds k last n lines ls f → Holds k last n lines ls' f' → AlikeLines ls ls' × (f ≡ f')
one_holding k (ends last n) (ends last' n') = (tt, refl)
one_holding k (faults last n bytes more f h e) (faults last' n' bytes' more' f' h' e') =
    (tt, ap Some (same_fault f f' (one_answer k last n bytes (Err f.cause) (Err f'.cause) h h') (e ∙ sym e')))
one_holding k (faults last n bytes more f h e) (goes_on last' n' bytes' more' line ls f' h' on) =
    absurd (one_answer k last n bytes (Err f.cause) (Ok line) h h')
one_holding k (goes_on last n bytes more line ls f h on) (faults last' n' bytes' more' f' h' e') =
    absurd (one_answer k last n bytes (Ok line) (Err f'.cause) h h')
one_holding k (goes_on last n bytes more line ls f h on) (goes_on last' n' bytes' more' line' ls' f' h' on') =
    let alike = one_answer k last n bytes (Ok line) (Ok line') h h' in
    let (rest, same) = one_holding k on (subst (λ l. Holds k (Some l) (n + 1) more ls' f') (sym alike.same_letter) on') in
    ((alike, rest), same)

-- a fault of the text as a whole comes before any line, so that the two do not mix
one_told : (k : ℕ) (text : List ℕ) {ls ls' : List Line} {f f' : Option Fault} → Told k text ls f → Told k text ls' f' → AlikeLines ls ls' × (f ≡ f')
one_told k text (as_whole f p) (as_whole f' q) =
    let (cause, line) = one_fault text f.cause f'.cause f.line f'.line p q in
    (tt, ap Some (same_fault f f' cause line))
one_told k text (as_whole f p) (by_lines lines ls f' readable split holds) =
    absurd (readable_not_unreadable text f.cause f.line readable p)
one_told k text (by_lines lines ls f readable split holds) (as_whole f' q) =
    absurd (readable_not_unreadable text f'.cause f'.line readable q)
one_told k text (by_lines lines ls f readable split holds) (by_lines lines' ls' f' readable' split' holds') =
    one_holding k (subst (λ l. Holds k None 1 l ls f) (one_split text lines lines' split split') holds) holds'

-- a text has one telling
pub one_telling : (k : ℕ) (text : List ℕ) → OneTelling k text
one_telling k text ls ls' f f' p q = one_told k text p q
