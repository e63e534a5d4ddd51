use Rattle.graph.proofs.Tables.{no_records_have_a_table}
use Rattle.graph.proofs.no_records_have_a_table.Goals as goal

pub returns : goal.returns
returns c = record { table = no_records_have_a_table }
