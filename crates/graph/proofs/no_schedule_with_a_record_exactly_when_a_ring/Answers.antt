use Rattle.graph.proofs.Rings.{no_schedule_with_a_record_exactly_when_a_ring}
use Rattle.graph.proofs.no_schedule_with_a_record_exactly_when_a_ring.Goals as goal

pub returns : goal.returns
returns c = record { ring = no_schedule_with_a_record_exactly_when_a_ring }
