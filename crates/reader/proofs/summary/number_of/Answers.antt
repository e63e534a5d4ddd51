use Rattle.std.proofs.Common.{pos, ◌∙◌, w64, rules}
use Rattle.lines.proofs.Fields.{pin_or}
use Rattle.std.proofs.lemmas.Int.{to_z-of_z}
use Rattle.reader.proofs.summary.number_of.Goals as goal

pub returns : goal.returns
returns c z shows =
    to_z-of_z w64 c.unwrap_or.result (search rules)
    ∙ c.unwrap_or.ensures
    ∙ pin_or c.args.columns.now c.pin.result (pos 0) z c.pin.ensures.value shows
