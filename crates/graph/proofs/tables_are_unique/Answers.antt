use Rattle.graph.proofs.Unique.{tables_are_unique}
use Rattle.graph.proofs.tables_are_unique.Goals as goal

pub returns : goal.returns
returns c = record { unique = tables_are_unique }
