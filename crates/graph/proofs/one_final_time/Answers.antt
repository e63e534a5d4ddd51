use Rattle.graph.proofs.Finals.{one_final_time}
use Rattle.graph.proofs.one_final_time.Goals as goal

pub returns : goal.returns
returns c = record { unique = one_final_time }
