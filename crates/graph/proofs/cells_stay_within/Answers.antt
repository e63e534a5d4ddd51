use Rattle.graph.proofs.Sizes.{cells_stay_within}
use Rattle.graph.proofs.cells_stay_within.Goals as goal

pub returns : goal.returns
returns c = record { bound = cells_stay_within }
