use Rattle.graph.proofs.Ranges.{a_range_is_what_schedules_have}
use Rattle.graph.proofs.a_range_is_what_schedules_have.Goals as goal

pub returns : goal.returns
returns c = record { range = a_range_is_what_schedules_have }
