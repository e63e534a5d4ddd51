use Rattle.std.proofs.Common.{arith}
use Rattle.columns.proofs.Writing.{left_more}
use Rattle.columns.proofs.put_digits.Goals as goal

pub loop-place-preserved : goal.loop-place-preserved
loop-place-preserved c = left_more _ _ c.loop-place.place _ _ (omega arith) (omega arith) c.loop-place.invariant
