-- A line of a sheet by its columns. Assumes nothing.
--     letter line         the letter with which the line begins
--     number line         the line's number in the text
--     letter_byte l       the letter as a byte
--     fields line         the line's fields put together again
--     whole line          the line's bytes: its letter and then its fields
--     LaidOut k line      each field has its columns, for a kind of k numbers
--     Parts k bytes line  the bytes are the line's, as laid out
--     rank l              the place of a letter in the order of a sheet
--     InTurn last l       a line with the letter l may follow one with the letter `last`; none stands before the first
--     IsPin columns       the columns show a pin or a count
--     IsEnd k columns     the columns show an end of k numbers
--     Numbers k line      each field of the line that is to be a number is one
--     OwnCount k line     an N line shows k as the count of numbers
--     field_bytes line    the bytes of each field, in turn
--     Alike line line'    the lines agree on number, letter and the bytes of each field
use Rattle.std.specs.Prelude.{◌≡◌, ℕ, ◌*◌, ◌<◌, ◌≤◌, List, [], ◌∷◌, ◌++◌, length, ℤ, pos, Some, None, Option}
use Rattle.kinds.specs.Kinds.{field}
use Rattle.kinds.specs.Rows.{Row}
use Rattle.lines.specs.Fields.{pin_width, ShowsPin, ShowsEnd}
use Rattle.lines.specs.declared.line.Letter.{Letter}
use Rattle.lines.specs.declared.line.Letter.TheVariants.{N, P, R, C}
use Rattle.lines.specs.declared.line.Line.{Line}
use Rattle.lines.specs.declared.line.Line.TheVariants.{Pins, Name, Constraint, Commit}
use Rattle.lines.specs.declared.line.RecordFields.{RecordFields}
use Rattle.std.specs.List.{AllByRecursion}

abbrev pub letter : Line → Letter
letter (Pins line pins count) = N
letter (Name line pin name) = P
letter (Constraint line fields) = R
letter (Commit line fields) = C

abbrev pub number : Line → ℕ
number (Pins line pins count) = line
number (Name line pin name) = line
number (Constraint line fields) = line
number (Commit line fields) = line

abbrev pub letter_byte : Letter → ℕ
letter_byte N = 78
letter_byte P = 80
letter_byte R = 82
letter_byte C = 67

abbrev pub record_fields : RecordFields → List ℕ
record_fields r = r.first.now ++ (r.second.now ++ (r.low.now ++ r.high.now))

abbrev pub fields : Line → List ℕ
fields (Pins line pins count) = pins.now ++ count.now
fields (Name line pin name) = pin.now ++ (32 ∷ name.now)
fields (Constraint line r) = record_fields r
fields (Commit line r) = record_fields r

abbrev pub whole : Line → List ℕ
whole line = letter_byte (letter line) ∷ fields line

pub record RecordLaidOut (k : ℕ) (r : RecordFields) : Type 0 where
  pub first : length r.first.now ≡ pin_width
  pub second : length r.second.now ≡ pin_width
  pub low : length r.low.now ≡ field * k
  pub high : length r.high.now ≡ field * k

abbrev pub LaidOut : ℕ → Line → Type 0
LaidOut k (Pins line pins count) = (length pins.now ≡ pin_width) × (length count.now ≡ pin_width)
LaidOut k (Name line pin name) = length pin.now ≡ pin_width
LaidOut k (Constraint line r) = RecordLaidOut k r
LaidOut k (Commit line r) = RecordLaidOut k r

pub record Parts (k : ℕ) (bytes : List ℕ) (line : Line) : Type 0 where
  pub together : whole line ≡ bytes
  pub layout : LaidOut k line

abbrev pub rank : Letter → ℕ
rank N = 0
rank P = 1
rank R = 2
rank C = 3

abbrev pub InTurn : Option Letter → Letter → Type 0
InTurn None l = l ≡ N
InTurn (Some last) l = (0 < rank l) × (rank last ≤ rank l)

-- some number, or some end, is shown
abbrev pub IsPin : List ℕ → Type 0
IsPin columns = (z : ℤ) × ShowsPin columns z

abbrev pub IsEnd : ℕ → List ℕ → Type 0
IsEnd k columns = (e : Option (Row k)) × ShowsEnd k columns e

abbrev pub RecordNumbers : ℕ → RecordFields → Type 0
RecordNumbers k r = AllByRecursion IsPin (r.first.now ∷ r.second.now ∷ []) × AllByRecursion (IsEnd k) (r.low.now ∷ r.high.now ∷ [])

abbrev pub Numbers : ℕ → Line → Type 0
Numbers k (Pins line pins count) = AllByRecursion IsPin (pins.now ∷ count.now ∷ [])
Numbers k (Name line pin name) = IsPin pin.now
Numbers k (Constraint line r) = RecordNumbers k r
Numbers k (Commit line r) = RecordNumbers k r

abbrev pub OwnCount : ℕ → Line → Type 0
OwnCount k (Pins line pins count) = ShowsPin count.now (pos k)
OwnCount k (Name line pin name) = Unit {0}
OwnCount k (Constraint line r) = Unit {0}
OwnCount k (Commit line r) = Unit {0}

abbrev pub field_bytes : Line → List (List ℕ)
field_bytes (Pins line pins count) = pins.now ∷ count.now ∷ []
field_bytes (Name line pin name) = pin.now ∷ name.now ∷ []
field_bytes (Constraint line r) = r.first.now ∷ r.second.now ∷ r.low.now ∷ r.high.now ∷ []
field_bytes (Commit line r) = r.first.now ∷ r.second.now ∷ r.low.now ∷ r.high.now ∷ []

-- where in memory the fields lie is left out
pub record Alike (line line' : Line) : Type 0 where
  pub same_number : number line ≡ number line'
  pub same_letter : letter line ≡ letter line'
  pub same_fields : field_bytes line ≡ field_bytes line'

-- r is the line numbered n that the bytes are, or absent where they are none
abbrev pub Apart : ℕ → ℕ → List ℕ → Option Line → Type 0
Apart k n bytes None = (line : Line) → Parts k bytes line → ⊥
Apart k n bytes (Some line) = Parts k bytes line × (number line ≡ n)

-- the same of a line with no end, from what follows its letter
abbrev pub LettersApart : ℕ → ℕ → List ℕ → Option Line → Type 0
LettersApart byte n bytes r = (k : ℕ) → Apart k n (byte ∷ bytes) r

-- r is the fields that follow the letter of an R or C line, or absent where the bytes are none
abbrev pub RecordApart : ℕ → List ℕ → Option RecordFields → Type 0
RecordApart k bytes None = (r : RecordFields) → record_fields r ≡ bytes → RecordLaidOut k r → ⊥
RecordApart k bytes (Some r) = (record_fields r ≡ bytes) × RecordLaidOut k r
