-- What a reader answers, and where it then stands. Assumes nothing.
--     Begun whole s          the reader s stands at the start of the whole text
--     rest s                 what the reader has not read yet
--     Before s r             r is the fault of the text as a whole, which comes before any line, or that it has none
--     Ahead s bytes          the next line of what is left
--     HandsOut k s t line    the reader s hands out its next line, and is then t
--     Stops k s f            the reader s meets the fault f at its next line
--     Next k s t r           r is what the reader s answers, and it is then t
--     Reading k s ls f       call after call, the reader s hands out the lines ls, and then the fault f, or none where f is absent
--     TellsTheSheet text s   reading on and on from s hands out just the lines of the sheet, up to its first fault
use Rattle.std.specs.Prelude.{◌≡◌, ℕ, ◌+◌, ◌⊎◌, List, [], ◌∷◌, ◌++◌, length, drop, Some, None, Ok, Err, Option, Result}
use Rattle.lines.specs.Lines.{letter}
use Rattle.lines.specs.Checks.{Good, Faulty}
use Rattle.reader.specs.Sheets.{Told}
use Rattle.reader.specs.Texts.{Readable, UnreadableBy, OneLine}
use Rattle.reader.specs.declared.fault.Fault.{Fault}
use Rattle.lines.specs.declared.line.Line.{Line}
use Rattle.reader.specs.declared.reader.Reader.{Reader}

pub record Begun {V : Type 0} (whole : List ℕ) (s : Reader V) : Type 0 where
  pub text : s.text.now ≡ whole
  pub place : s.place ≡ 0
  pub number : s.line ≡ 1
  pub last : s.last ≡ None

abbrev pub rest : {V : Type 0} → Reader V → List ℕ
rest s = drop s.place s.text.now

abbrev pub Before : {V : Type 0} → Reader V → Result (Unit {0}) Fault → Type 0
Before s (Ok _) = Readable s.text.now
Before s (Err f) = (s.place ≡ 0) × UnreadableBy s.text.now f.cause f.line

pub record Ahead {V : Type 0} (s : Reader V) (bytes : List ℕ) : Type 0 where
  pub readable : Readable s.text.now
  pub after : List ℕ
  pub ends : rest s ≡ bytes ++ (10 ∷ after)
  pub one : OneLine bytes

pub record HandsOut {V : Type 0} (k : ℕ) (s t : Reader V) (line : Line) : Type 0 where
  pub bytes : List ℕ
  pub ahead : Ahead s bytes
  pub good : Good k s.last s.line bytes line
  pub text : t.text ≡ s.text
  pub place : t.place ≡ s.place + length bytes + 1
  pub number : t.line ≡ s.line + 1
  pub last : t.last ≡ Some (letter line)

pub record Stops {V : Type 0} (k : ℕ) (s : Reader V) (f : Fault) : Type 0 where
  pub bytes : List ℕ
  pub ahead : Ahead s bytes
  pub faulty : Faulty k s.last bytes f.cause
  pub number : f.line ≡ s.line

abbrev pub Next : {V : Type 0} → ℕ → Reader V → Reader V → Result (Option Line) Fault → Type 0
Next k s t (Ok None) = Readable s.text.now × (rest s ≡ []) × (t ≡ s)
Next k s t (Ok (Some line)) = HandsOut k s t line
Next k s t (Err f) = (Before s (Err f) ⊎ Stops k s f) × (t ≡ s)

pub data Reading {V : Type 0} (k : ℕ) : Reader V → List Line → Option Fault → Type 0 where
  comes_to_end : (s t : Reader V) → Next k s t (Ok None) → Reading k s [] None
  meets_fault : (s t : Reader V) (f : Fault) → Next k s t (Err f) → Reading k s [] (Some f)
  hands_out : (s t : Reader V) (line : Line) (ls : List Line) (f : Option Fault) → Next k s t (Ok (Some line)) → Reading k t ls f → Reading k s (line ∷ ls) f

abbrev pub TellsTheSheet : {V : Type 0} → List ℕ → Reader V → Type 0
TellsTheSheet text s = (k : ℕ) (ls : List Line) (f : Option Fault) → Reading k s ls f → Told k text ls f
