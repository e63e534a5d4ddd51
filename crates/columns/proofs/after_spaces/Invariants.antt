use Rattle.std.proofs.Common.{length}
use Rattle.columns.proofs.Shown.{Spaced}
use Rattle.columns.proofs.after_spaces.Given as goal

abbrev pub invariant-loop-rest : goal.invariant-loop-rest
invariant-loop-rest l = Spaced l.column l.rest

abbrev pub decreases-loop-rest : goal.decreases-loop-rest
decreases-loop-rest l = length l.rest
