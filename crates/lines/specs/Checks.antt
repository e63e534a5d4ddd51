-- When bytes are a line that may stand where it does. Assumes nothing.
--     Good k last n bytes line   the bytes are the line numbered n, which may follow a line with the letter `last`
--     Faulty k last bytes c      the first cause by which the bytes are no such line: c, in the order 32, 33, 35, 34
--     Judged k last n bytes r    r is the good line that the bytes are, or their first cause
--     AlikeAnswers r r'          the answers are lines that are alike, or the same cause
--     OneAnswer k                bytes in their place have one answer, of lines that are alike
use Rattle.std.specs.Prelude.{◌≡◌, ℕ, List, Ok, Err, Option, Result}
use Rattle.lines.specs.Lines.{letter, number, Alike, Parts, InTurn, Numbers, OwnCount}
use Rattle.lines.specs.declared.cause.TextCause.{TextCause}
use Rattle.lines.specs.declared.line.Letter.{Letter}
use Rattle.lines.specs.declared.line.Line.{Line}

pub record Good (k : ℕ) (last : Option Letter) (n : ℕ) (bytes : List ℕ) (line : Line) : Type 0 where
  pub parts : Parts k bytes line
  pub numbered : number line ≡ n
  pub turn : InTurn last (letter line)
  pub numbers : Numbers k line
  pub count : OwnCount k line

abbrev pub Faulty : ℕ → Option Letter → List ℕ → TextCause → Type 0
Faulty k last bytes TextCause.Length = ⊥
Faulty k last bytes TextCause.Newline = ⊥
Faulty k last bytes TextCause.Layout = (line : Line) → Parts k bytes line → ⊥
Faulty k last bytes TextCause.Turn = (line : Line) × Parts k bytes line × (InTurn last (letter line) → ⊥)
Faulty k last bytes TextCause.Field = (line : Line) × Parts k bytes line × InTurn last (letter line) × (Numbers k line → ⊥)
Faulty k last bytes TextCause.Count = (line : Line) × Parts k bytes line × InTurn last (letter line) × Numbers k line × (OwnCount k line → ⊥)

abbrev pub Judged : ℕ → Option Letter → ℕ → List ℕ → Result Line TextCause → Type 0
Judged k last n bytes (Ok line) = Good k last n bytes line
Judged k last n bytes (Err c) = Faulty k last bytes c

abbrev pub AlikeAnswers : Result Line TextCause → Result Line TextCause → Type 0
AlikeAnswers (Ok line) (Ok line') = Alike line line'
AlikeAnswers (Ok line) (Err c) = ⊥
AlikeAnswers (Err c) (Ok line) = ⊥
AlikeAnswers (Err c) (Err c') = c ≡ c'

abbrev pub OneAnswer : ℕ → Type 0
OneAnswer k =
    (last : Option Letter) (n : ℕ) (bytes : List ℕ) (r r' : Result Line TextCause)
    → Judged k last n bytes r → Judged k last n bytes r' → AlikeAnswers r r'
