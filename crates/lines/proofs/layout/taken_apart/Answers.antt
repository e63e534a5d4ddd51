use Rattle.std.proofs.Common.{rules}
use Rattle.lines.proofs.Layouts.{apart_first}
use Rattle.lines.proofs.layout.taken_apart.Goals as goal

pub returns-in-78 : goal.returns-in-78
returns-in-78 g c = apart_first g.T.Time.COUNT c.args.line 78 c.args.bytes.now (search rules) (search rules) _ (c.pins_line.ensures _)

pub returns-in-80 : goal.returns-in-80
returns-in-80 g c = apart_first g.T.Time.COUNT c.args.line 80 c.args.bytes.now (search rules) (search rules) _ (c.name_line.ensures _)
