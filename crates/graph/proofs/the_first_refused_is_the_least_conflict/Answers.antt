use Rattle.graph.proofs.Ranges.{the_first_refused_is_the_least_conflict}
use Rattle.graph.proofs.the_first_refused_is_the_least_conflict.Goals as goal

pub returns : goal.returns
returns c = record { conflict = the_first_refused_is_the_least_conflict }
