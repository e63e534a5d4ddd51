use Rattle.graph.proofs.Prefixes.{a_table_or_a_least_conflict}
use Rattle.graph.proofs.a_table_or_a_least_conflict.Goals as goal

pub returns : goal.returns
returns c = record { either = a_table_or_a_least_conflict }
