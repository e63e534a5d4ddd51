use Rattle.graph.proofs.Keeping.{meeting_is_keeping_the_legs}
use Rattle.graph.proofs.meeting_is_keeping_the_legs.Goals as goal

pub returns : goal.returns
returns c = record { meets = meeting_is_keeping_the_legs }
