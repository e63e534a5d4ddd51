use Rattle.graph.proofs.Tables.{the_update_is_the_table}
use Rattle.graph.proofs.the_update_is_the_table.Goals as goal

pub returns : goal.returns
returns c = record { table = the_update_is_the_table }
