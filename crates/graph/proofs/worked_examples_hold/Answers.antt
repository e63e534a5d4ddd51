use Rattle.graph.proofs.Worked.{worked_examples_hold}
use Rattle.graph.proofs.worked_examples_hold.Goals as goal

pub returns : goal.returns
returns c = record { examples = worked_examples_hold }
