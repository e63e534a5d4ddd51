use Rattle.graph.proofs.Sizes.{a_ring_has_at_most_n_steps}
use Rattle.graph.proofs.a_ring_has_at_most_n_steps.Goals as goal

pub returns : goal.returns
returns c = record { bound = a_ring_has_at_most_n_steps }
