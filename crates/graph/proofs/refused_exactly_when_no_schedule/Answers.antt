use Rattle.graph.proofs.Ranges.{refused_exactly_when_no_schedule}
use Rattle.graph.proofs.refused_exactly_when_no_schedule.Goals as goal

pub returns : goal.returns
returns c = record { refused = refused_exactly_when_no_schedule }
