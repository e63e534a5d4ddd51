use Rattle.std.proofs.Common.{◌∙◌, w64, rules}
use Rattle.std.proofs.lemmas.Int.{to_z-of_z}
use Rattle.reader.proofs.Surveys.{noted_pins}
use Rattle.reader.proofs.summary.Summary.note.Goals as goal

pub returns-in-Pins : goal.returns-in-Pins
returns-in-Pins c =
    noted_pins c.args.line.now c.in-Pins.line c.in-Pins.pins c.in-Pins.count c.args.self.now _ c.in-Pins.is
    (λ z shows. to_z-of_z w64 c.number_of-self.result (search rules) ∙ c.number_of-self.ensures z shows)
