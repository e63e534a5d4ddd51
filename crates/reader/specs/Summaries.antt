-- What a sheet holds, in numbers. Assumes nothing.
--     has l line                 the line begins with the letter l
--     many l ls                  how many of the lines do
--     ShowsPins z line           an N line shows z as the number of pins
--     Counted ls s               s counts the lines ls
--     Few s                      the counts can go up by one
--     Noted line before after    `after` counts one line more than `before`
--     Surveyed k text r          r counts the lines of the sheet, or is its first fault
--     summary_text s             the four numbers, each on a line of its own behind its name
use Rattle.std.specs.Prelude.{◌≡◌, ℕ, ◌+◌, ◌<◌, Bool, cond, List, ◌++◌, ℤ, codes, Some, None, Ok, Err, count_by, Result, ◌==◌}
use Rattle.std.specs.Fmt.{decimal, signed_decimal}
use Rattle.lines.specs.Fields.{ShowsPin}
use Rattle.lines.specs.Lines.{letter, rank}
use Rattle.reader.specs.Sheets.{Told}
use Rattle.reader.specs.Texts.{limit}
use Rattle.reader.specs.declared.fault.Fault.{Fault}
use Rattle.lines.specs.declared.line.Letter.{Letter}
use Rattle.lines.specs.declared.line.Letter.TheVariants.{P, R, C}
use Rattle.lines.specs.declared.line.Line.{Line}
use Rattle.lines.specs.declared.line.Line.TheVariants.{Pins, Name, Constraint, Commit}
use Rattle.reader.specs.declared.summary.Summary.{Summary}
use Rattle.std.specs.List.{AllByRecursion}

abbrev pub has : Letter → Line → Bool
has l line = rank (letter line) == rank l

abbrev pub many : Letter → List Line → ℕ
many l ls = count_by (has l) ls

abbrev pub ShowsPins : ℤ → Line → Type 0
ShowsPins z (Pins line pins count) = ShowsPin pins.now z
ShowsPins z (Name line pin name) = Unit {0}
ShowsPins z (Constraint line r) = Unit {0}
ShowsPins z (Commit line r) = Unit {0}

pub record Counted (ls : List Line) (s : Summary) : Type 0 where
  pub pins : AllByRecursion (ShowsPins s.pins) ls
  pub names : s.names ≡ many P ls
  pub constraints : s.constraints ≡ many R ls
  pub commits : s.commits ≡ many C ls

pub record Few (s : Summary) : Type 0 where
  pub names : s.names < limit
  pub constraints : s.constraints < limit
  pub commits : s.commits < limit

-- the number on an N line is taken over
abbrev pub NotedPins : Line → ℤ → ℤ → Type 0
NotedPins (Pins line pins count) before after = (z : ℤ) → ShowsPin pins.now z → after ≡ z
NotedPins (Name line pin name) before after = after ≡ before
NotedPins (Constraint line r) before after = after ≡ before
NotedPins (Commit line r) before after = after ≡ before

pub record Noted (line : Line) (before after : Summary) : Type 0 where
  pub pins : NotedPins line before.pins after.pins
  pub names : after.names ≡ before.names + cond (has P line) 1 0
  pub constraints : after.constraints ≡ before.constraints + cond (has R line) 1 0
  pub commits : after.commits ≡ before.commits + cond (has C line) 1 0

abbrev pub Surveyed : ℕ → List ℕ → Result Summary Fault → Type 0
Surveyed k text (Ok s) = (ls : List Line) × Told k text ls None × Counted ls s
Surveyed k text (Err f) = (ls : List Line) × Told k text ls (Some f)

abbrev pub summary_text : Summary → List ℕ
summary_text s = codes "pins " ++ (signed_decimal s.pins ++ (codes "\nnames " ++ (decimal s.names ++ (codes "\nconstraints " ++ (decimal s.constraints ++ (codes "\ncommits " ++ decimal s.commits))))))
