-- What one turn of a reader finds in its text. Assumes nothing.
use Rattle.std.proofs.Common.{ℕ, suc, ◌∷◌, ◌++◌, take, drop, sym, ap, ◌∙◌, take-append-drop, drop-cons}
use Rattle.reader.specs.Readings.{Ahead, rest}
use Rattle.reader.specs.Texts.{Readable, NewlineAt}
use Rattle.reader.specs.declared.reader.Reader.{Reader}

-- what stands before the first newline is the line ahead of a reader
pub line_ahead : {V : Type 0} (s : Reader V) (n : ℕ) → Readable s.text.now → NewlineAt (rest s) n → Ahead s (take n (rest s))
line_ahead s n readable first =
    let newline = drop-cons (rest s) n 0 first.within ∙ ap (λ b. b ∷ drop (suc n) (rest s)) first.here in
    record {
      readable = readable;
      after = drop (suc n) (rest s);
      ends = sym (take-append-drop n (rest s)) ∙ ap (λ l. take n (rest s) ++ l) newline;
      one = first.before;
    }
