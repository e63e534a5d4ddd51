use Rattle.std.proofs.Common.{arith}
use Rattle.columns.proofs.Reading.{no_number_minus_zero}
use Rattle.columns.proofs.below_zero.Goals as goal

pub returns-in-0 : goal.returns-in-0
returns-in-0 c = no_number_minus_zero _ (omega arith)
