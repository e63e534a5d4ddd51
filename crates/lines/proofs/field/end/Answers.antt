use Rattle.lines.proofs.Fields.{one_end}
use Rattle.lines.proofs.field.end.Goals as goal

pub returns : goal.returns
returns g c = record { value = c.read_end.ensures; one_end = one_end g.T.Time.COUNT g.met.T.Time.counted.0 }
