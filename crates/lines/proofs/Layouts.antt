-- What the bytes of a line tell of its letter and its fields. Assumes nothing.
use Rattle.std.proofs.Common.{◌≡◌, ℕ, ◌<◌, List, ◌∷◌, ◌++◌, length, get_or, drop, Some, Option, sym, ap, ◌∙◌, subst, ap₂, arith, length-append}
use Rattle.std.proofs.lemmas.Slice.{first_rest}
use Rattle.std.specs.List.{between}
use Rattle.lines.specs.Lines.{letter, letter_byte, fields, record_fields, RecordLaidOut, LaidOut, Parts, Apart, number}
use Rattle.lines.specs.declared.line.Line.{Line}
use Rattle.lines.specs.declared.line.Line.TheVariants.{Pins, Name, Constraint, Commit}
use Rattle.lines.specs.declared.line.RecordFields.{RecordFields}

module _ (k b : ℕ) (bytes : List ℕ) where
  -- the first byte is the letter
  pub letter_first : (line : Line) → Parts k (b ∷ bytes) line → letter_byte (letter line) ≡ b
  letter_first line p = ap (λ l. get_or l 0 0) p.together

  -- the other bytes are the fields
  pub fields_rest : (line : Line) → Parts k (b ∷ bytes) line → fields line ≡ bytes
  fields_rest line p = ap (drop 1) p.together

-- bytes of another length are no N line
pub no_pins : (k : ℕ) (bytes : List ℕ) → (length bytes ≡ 8 → ⊥) → (line : Line) → Parts k (78 ∷ bytes) line → ⊥
no_pins k bytes off (Pins line pins count) p =
    off (sym (ap length (fields_rest k 78 bytes _ p)) ∙ length-append pins.now count.now ∙ omega (arith, p.layout.0, p.layout.1))
no_pins k bytes off (Name line pin name) p = omega (arith, letter_first k 78 bytes _ p)
no_pins k bytes off (Constraint line r) p = omega (arith, letter_first k 78 bytes _ p)
no_pins k bytes off (Commit line r) p = omega (arith, letter_first k 78 bytes _ p)

-- bytes whose fifth is no space are no P line
pub no_name : (k : ℕ) (bytes : List ℕ) → ((pin name : List ℕ) → length pin ≡ 4 → pin ++ (32 ∷ name) ≡ bytes → ⊥) → (line : Line) → Parts k (80 ∷ bytes) line → ⊥
no_name k bytes none (Pins line pins count) p = omega (arith, letter_first k 80 bytes _ p)
no_name k bytes none (Name line pin name) p = none pin.now name.now p.layout (fields_rest k 80 bytes _ p)
no_name k bytes none (Constraint line r) p = omega (arith, letter_first k 80 bytes _ p)
no_name k bytes none (Commit line r) p = omega (arith, letter_first k 80 bytes _ p)

-- bytes that are no fields of a record are no R or C line
pub no_record : (k b : ℕ) (bytes : List ℕ) → (b ≡ 78 → ⊥) → (b ≡ 80 → ⊥) → ((r : RecordFields) → record_fields r ≡ bytes → RecordLaidOut k r → ⊥) → (line : Line) → Parts k (b ∷ bytes) line → ⊥
no_record k b bytes n p none (Pins line pins count) h = n (sym (letter_first k b bytes _ h))
no_record k b bytes n p none (Name line pin name) h = p (sym (letter_first k b bytes _ h))
no_record k b bytes n p none (Constraint line r) h = none r (fields_rest k b bytes _ h) h.layout
no_record k b bytes n p none (Commit line r) h = none r (fields_rest k b bytes _ h) h.layout

-- bytes are the first one and then the rest
uncons : (b : ℕ) (xs : List ℕ) → 0 < length xs → get_or xs 0 0 ≡ b → b ∷ between 1 (length xs) xs ≡ xs
uncons b xs some first = sym (first_rest xs 0 some ∙ ap (λ x. x ∷ between 1 (length xs) xs) first)

module _ (k n b : ℕ) (xs : List ℕ) (some : 0 < length xs) (first : get_or xs 0 0 ≡ b) where
  -- what is taken apart from the letter and the rest is taken apart from the bytes
  pub apart_first : (r : Option Line) → Apart k n (b ∷ between 1 (length xs) xs) r → Apart k n xs r
  apart_first r = subst (λ l. Apart k n l r) (uncons b xs some first)

  -- a line of that letter and of those fields is what the bytes are
  pub apart_line : (line : Line) → letter_byte (letter line) ≡ b → fields line ≡ between 1 (length xs) xs → LaidOut k line → number line ≡ n → Apart k n xs (Some line)
  apart_line line l f laid same = (record { together = ap₂ (λ x y. x ∷ y) l f ∙ uncons b xs some first; layout = laid }, same)
