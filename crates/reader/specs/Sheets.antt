-- What a sheet holds, line after line. Assumes nothing.
--     Holds k last n lines ls f  the lines from number n on hold ls, and then comes the fault f, or the end where f is absent
--     Told k text ls f           a telling: the text holds the lines ls up to its first fault f, or to its end where f is absent
--     AlikeLines ls ls'          the lines are alike, one by one
--     OneTelling k text          two tellings of the text agree on the fault and, line by line, on number, letter and fields
use Rattle.std.specs.Prelude.{◌≡◌, ℕ, ◌+◌, List, [], ◌∷◌, Some, None, Option}
use Rattle.lines.specs.Checks.{Good, Faulty}
use Rattle.lines.specs.Lines.{letter, Alike}
use Rattle.lines.specs.declared.line.Letter.{Letter}
use Rattle.lines.specs.declared.line.Line.{Line}
use Rattle.reader.specs.Texts.{Readable, UnreadableBy, SplitInto}
use Rattle.reader.specs.declared.fault.Fault.{Fault}

pub data Holds (k : ℕ) : Option Letter → ℕ → List (List ℕ) → List Line → Option Fault → Type 0 where
  ends : (last : Option Letter) (n : ℕ) → Holds k last n [] [] None
  faults : (last : Option Letter) (n : ℕ) (bytes : List ℕ) (more : List (List ℕ)) (f : Fault) → Faulty k last bytes f.cause → f.line ≡ n → Holds k last n (bytes ∷ more) [] (Some f)
  goes_on : (last : Option Letter) (n : ℕ) (bytes : List ℕ) (more : List (List ℕ)) (line : Line) (ls : List Line) (f : Option Fault) → Good k last n bytes line → Holds k (Some (letter line)) (n + 1) more ls f → Holds k last n (bytes ∷ more) (line ∷ ls) f

-- a fault of the text as a whole comes before any line
pub data Told (k : ℕ) (text : List ℕ) : List Line → Option Fault → Type 0 where
  as_whole : (f : Fault) → UnreadableBy text f.cause f.line → Told k text [] (Some f)
  by_lines : (lines : List (List ℕ)) (ls : List Line) (f : Option Fault) → Readable text → SplitInto text lines → Holds k None 1 lines ls f → Told k text ls f

abbrev pub AlikeLines : List Line → List Line → Type 0
AlikeLines [] [] = Unit {0}
AlikeLines [] (line' ∷ ls') = ⊥
AlikeLines (line ∷ ls) [] = ⊥
AlikeLines (line ∷ ls) (line' ∷ ls') = Alike line line' × AlikeLines ls ls'

abbrev pub OneTelling : ℕ → List ℕ → Type 0
OneTelling k text = (ls ls' : List Line) (f f' : Option Fault) → Told k text ls f → Told k text ls' f' → AlikeLines ls ls' × (f ≡ f')
