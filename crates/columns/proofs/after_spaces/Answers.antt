use Rattle.std.proofs.Common.{arith}
use Rattle.columns.proofs.Shown.{spaced_more}
use Rattle.columns.proofs.after_spaces.Goals as goal

pub loop-rest-preserved : goal.loop-rest-preserved
loop-rest-preserved c = spaced_more _ _ c.loop-rest.invariant (omega arith)
