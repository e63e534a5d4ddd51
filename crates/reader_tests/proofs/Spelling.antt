-- What one escape after the other stands for. Assumes nothing.
use Rattle.std.proofs.Common.{◌≡◌, ℕ, ◌+◌, ◌*◌, ◌<◌, ◌≤◌, List, [], ◌∷◌, ◌++◌, length, get_or, drop, Some, sym, refl, ap, ◌∙◌, subst, append_assoc, append-nil, arith}
use Rattle.reader_tests.specs.Escapes.{hexit, Spells, Digit, First}
use Rattle.reader_tests.specs.Escapes.Spells.{nothing, newline, backslash, by_digits, itself}
use Rattle.std.proofs.lemmas.List.{drop_more, take_rest}
use Rattle.std.specs.List.{between}

-- a text from the place i on is its byte there and what follows it
drop_byte : (text : List ℕ) (i byte : ℕ) → i < length text → get_or text i 0 ≡ byte → drop i text ≡ byte ∷ drop (i + 1) text
drop_byte text i byte lt is = drop_more text i 0 lt ∙ ap (λ b. b ∷ drop (i + 1) text) is

-- a text is its first byte and the rest
pub after_one : (text : List ℕ) (a : ℕ) → 1 ≤ length text → get_or text 0 0 ≡ a → a ∷ between 1 (length text) text ≡ text
after_one text a long first = sym (drop_byte text 0 a (omega arith) first ∙ ap (λ l. a ∷ l) (sym (take_rest text 1)))

-- a text is its first three bytes and the rest
after_three : (text : List ℕ) (a b d : ℕ) → 3 ≤ length text → get_or text 0 0 ≡ a → get_or text 1 0 ≡ b → get_or text 2 0 ≡ d → a ∷ b ∷ d ∷ between 3 (length text) text ≡ text
after_three text a b d long first second third =
    sym (drop_byte text 0 a (omega arith) first ∙ ap (λ l. a ∷ l) (drop_byte text 1 b (omega arith) second ∙ ap (λ l. b ∷ l) (drop_byte text 2 d (omega arith) third ∙ ap (λ l. d ∷ l) (sym (take_rest text 3)))))

module _ (text : List ℕ) where
  -- a text whose first byte is no backslash stands for that byte
  pub first_itself : 1 ≤ length text → (get_or text 0 0 ≡ 92 → ⊥) → First text (get_or text 0 0) (between 1 (length text) text)
  first_itself long other =
      let rest = between 1 (length text) text in
      subst (λ l. First l (get_or text 0 0) rest) (after_one text (get_or text 0 0) long refl) (record { shorter = omega arith; spelled = λ bytes. itself (get_or text 0 0) rest bytes other })

  -- after a backslash, n stands for a newline
  pub first_newline : 1 ≤ length text → get_or text 0 0 ≡ 110 → First (92 ∷ text) 10 (between 1 (length text) text)
  first_newline long n =
      let rest = between 1 (length text) text in
      subst (λ l. First (92 ∷ l) 10 rest) (after_one text 110 long n) (record { shorter = omega arith; spelled = newline rest })

  -- after a backslash, another stands for one
  pub first_backslash : 1 ≤ length text → get_or text 0 0 ≡ 92 → First (92 ∷ text) 92 (between 1 (length text) text)
  first_backslash long again =
      let rest = between 1 (length text) text in
      subst (λ l. First (92 ∷ l) 92 rest) (after_one text 92 long again) (record { shorter = omega arith; spelled = backslash rest })

  -- after a backslash and x, two digits stand for the byte of that number
  pub first_by_digits : (high low : ℕ) → 3 ≤ length text → get_or text 0 0 ≡ 120 → Digit (get_or text 1 0) (Some high) → Digit (get_or text 2 0) (Some low) → First (92 ∷ text) (high * 16 + low) (between 3 (length text) text)
  first_by_digits high low long x h l =
      let rest = between 3 (length text) text in
      subst (λ t. First (92 ∷ t) (high * 16 + low) rest) (after_three text 120 (hexit high) (hexit low) long x h.1 l.1)
      (record { shorter = omega arith; spelled = λ bytes. by_digits high low rest bytes h.0 l.0 })

-- the loop's invariant: the text stands for the bytes and then for whatever the rest stands for
abbrev pub Sofar : List ℕ → List ℕ → List ℕ → Type 0
Sofar text bytes rest = (more : List ℕ) → Spells rest more → Spells text (bytes ++ more)

-- one byte more, which the rest begins with
pub sofar_more : (text bytes rest grown after : List ℕ) (byte : ℕ) → Sofar text bytes rest → First rest byte after → grown ≡ bytes ++ byte ∷ [] → Sofar text grown after
sofar_more text bytes rest grown after byte sofar first is more h =
    subst (Spells text) (sym (ap (λ l. l ++ more) is ∙ append_assoc bytes (byte ∷ []) more)) (sofar (byte ∷ more) (first.spelled more h))

-- nothing is left
pub sofar_all : (text bytes rest : List ℕ) → Sofar text bytes rest → length rest ≡ 0 → Spells text bytes
sofar_all text bytes [] sofar none = subst (Spells text) (append-nil bytes) (sofar [] nothing)
sofar_all text bytes (b ∷ rest) sofar none = absurd (omega arith)
