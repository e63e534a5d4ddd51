-- The numbers of the text's causes and of all layers, the layer of each cause, and its words. Assumes nothing.
--     text_cause_number c  the number by which a cause of the text is told
--     layer_number l       the number by which a layer is told
--     text_layer c         the layer to which a cause of the text belongs
--     cause_words c        what is wrong with the text, in words
use Rattle.std.specs.Prelude.{ℕ, List, codes}
use Rattle.lines.specs.declared.cause.TextCause.{TextCause}
use Rattle.lines.specs.declared.cause.Layer.{Layer}

abbrev pub text_cause_number : TextCause → ℕ
text_cause_number TextCause.Length = 30
text_cause_number TextCause.Newline = 31
text_cause_number TextCause.Layout = 32
text_cause_number TextCause.Turn = 33
text_cause_number TextCause.Count = 34
text_cause_number TextCause.Field = 35

abbrev pub layer_number : Layer → ℕ
layer_number Layer.Field = 1
layer_number Layer.Line = 2
layer_number Layer.Sheet = 3
layer_number Layer.Call = 4

abbrev pub text_layer : TextCause → Layer
text_layer TextCause.Length = Layer.Sheet
text_layer TextCause.Newline = Layer.Sheet
text_layer TextCause.Layout = Layer.Line
text_layer TextCause.Turn = Layer.Sheet
text_layer TextCause.Count = Layer.Sheet
text_layer TextCause.Field = Layer.Field

abbrev pub cause_words : TextCause → List ℕ
cause_words TextCause.Length = codes "the text has more than 32768 bytes"
cause_words TextCause.Newline = codes "the last line lacks its newline"
cause_words TextCause.Layout = codes "unknown letter, or columns not as laid out"
cause_words TextCause.Turn = codes "line out of turn, or no N line"
cause_words TextCause.Count = codes "the count of numbers is not the kind's"
cause_words TextCause.Field = codes "a field is not a number"
