use Rattle.columns.proofs.Writing.{Left}
use Rattle.columns.proofs.put_digits.Given as goal

abbrev pub invariant-loop-place : goal.invariant-loop-place
invariant-loop-place l = Left l.number l.digits l.place l.rest
