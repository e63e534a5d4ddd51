-- A fault as a line of text, and in words. Assumes nothing.
--     FaultLine layer cause line bytes             an E line by its columns: layer in 2 to 5, cause in 6 to 9, line in 10 to 15
--     TextFaultLine f bytes                        the E line of a fault of a text
--     WritesFault layer cause line before after r  r is what writing the line answers, and the bytes are then `after`
--     WritesTextFault f before after r             the same of a fault of a text
--     fault_words f                                which line shows the fault, and what is wrong
use Rattle.std.specs.Prelude.{◌≡◌, ℕ, ◌≤◌, List, [], ◌∷◌, ◌++◌, length, take, drop, pos, Ok, Err, Result, codes}
use Rattle.std.specs.Fmt.{decimal}
use Rattle.columns.specs.Columns.{Shows}
use Rattle.columns.specs.declared.NoRoom.{NoRoom}
use Rattle.lines.specs.Causes.{cause_words, layer_number, text_cause_number, text_layer}
use Rattle.reader.specs.declared.fault.Fault.{Fault}

pub record FaultLine (layer cause line : ℕ) (bytes : List ℕ) : Type 0 where
  pub long : length bytes ≡ 15
  pub letter : take 1 bytes ≡ 69 ∷ []
  pub shows_layer : Shows (take 4 (drop 1 bytes)) (pos layer)
  pub shows_cause : Shows (take 4 (drop 5 bytes)) (pos cause)
  pub shows_line : Shows (take 6 (drop 9 bytes)) (pos line)

abbrev pub TextFaultLine : Fault → List ℕ → Type 0
TextFaultLine f bytes = FaultLine (layer_number (text_layer f.cause)) (text_cause_number f.cause) f.line bytes

abbrev pub WritesFault : (layer cause line : ℕ) → List ℕ → List ℕ → Result (Unit {0}) NoRoom → Type 0
WritesFault layer cause line before after (Ok _) = FaultLine layer cause line after
WritesFault layer cause line before after (Err _) = (after ≡ before) × (length before ≡ 15 → line ≤ 999_999 → ⊥)

abbrev pub WritesTextFault : Fault → List ℕ → List ℕ → Result (Unit {0}) NoRoom → Type 0
WritesTextFault f before after r = WritesFault (layer_number (text_layer f.cause)) (text_cause_number f.cause) f.line before after r

abbrev pub fault_words : Fault → List ℕ
fault_words f = codes "line " ++ (decimal f.line ++ (codes ": " ++ cause_words f.cause))
