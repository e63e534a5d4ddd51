use Rattle.graph.proofs.Finals.{final_times_meet_the_list}
use Rattle.graph.proofs.final_times_meet_the_list.Goals as goal

pub returns : goal.returns
returns c = record { meets = final_times_meet_the_list }
