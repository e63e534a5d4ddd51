-- The text of a sheet by its bytes. Assumes nothing.
--     limit                     the most bytes that a sheet may have
--     newlines text             how many bytes 10 there are
--     Ended text                the last byte is a byte 10
--     Readable text             the text as a whole may be read line by line
--     UnreadableBy text c n     the cause c of the text as a whole, told with the line number n
--     Unreadable text r         r is the fault of the text as a whole, or that it is readable
--     OneLine bytes             no byte is a byte 10
--     FirstNewline text r       r is the place of the first byte 10, counted from 0, absent where there is none
--     with_newline bytes        a line and the byte 10 that ends it
--     SplitInto text lines      the text is these lines, each ended by a byte 10
use Rattle.std.specs.Prelude.{◌≡◌, ℕ, ◌+◌, ◌-◌, ◌<◌, ◌≤◌, List, [], ◌∷◌, ◌++◌, length, take, Some, None, Ok, Err, count_by, Option, Result, ◌≢◌, nat_eq, slice_index}
use Rattle.lines.specs.declared.cause.TextCause.{TextCause}
use Rattle.reader.specs.declared.fault.Fault.{Fault}
use Rattle.std.specs.List.{flat_map, AllByRecursion}

abbrev pub limit : ℕ
limit = 32_768

abbrev pub newlines : List ℕ → ℕ
newlines text = count_by (λ b. nat_eq b 10) text

-- an empty text has no last byte, and is not ended
abbrev pub Ended : List ℕ → Type 0
Ended text = slice_index text (length text - 1) ≡ 10

pub record Readable (text : List ℕ) : Type 0 where
  pub short : length text ≤ limit
  pub ended : Ended text

-- a text above the limit has no line to name, and an empty one lacks its N line
abbrev pub UnreadableBy : List ℕ → TextCause → ℕ → Type 0
UnreadableBy text TextCause.Length n = (limit < length text) × (n ≡ 0)
UnreadableBy text TextCause.Newline n = (0 < length text) × (length text ≤ limit) × (Ended text → ⊥) × (n ≡ newlines text + 1)
UnreadableBy text TextCause.Layout n = ⊥
UnreadableBy text TextCause.Turn n = (length text ≡ 0) × (n ≡ 1)
UnreadableBy text TextCause.Count n = ⊥
UnreadableBy text TextCause.Field n = ⊥

abbrev pub Unreadable : List ℕ → Result (Unit {0}) Fault → Type 0
Unreadable text (Ok _) = Readable text
Unreadable text (Err f) = UnreadableBy text f.cause f.line

abbrev pub OneLine : List ℕ → Type 0
OneLine bytes = (i : ℕ) → i < length bytes → slice_index bytes i ≢ 10

pub record NewlineAt (text : List ℕ) (r : ℕ) : Type 0 where
  pub within : r < length text
  pub here : slice_index text r ≡ 10
  pub before : OneLine (take r text)

abbrev pub FirstNewline : List ℕ → Option ℕ → Type 0
FirstNewline text None = OneLine text
FirstNewline text (Some r) = NewlineAt text r

abbrev pub with_newline : List ℕ → List ℕ
with_newline bytes = bytes ++ (10 ∷ [])

-- an ended text has one list of lines
pub record SplitInto (text : List ℕ) (lines : List (List ℕ)) : Type 0 where
  pub together : flat_map with_newline lines ≡ text
  pub each : AllByRecursion OneLine lines
