use Rattle.graph.proofs.Agreement.{cells_that_agree_are_one}
use Rattle.graph.proofs.cells_that_agree_are_one.Goals as goal

pub returns : goal.returns
returns c = record { one = cells_that_agree_are_one }
