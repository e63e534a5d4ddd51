use Rattle.columns.proofs.Reading.{Sofar}
use Rattle.columns.proofs.magnitude.Given as goal

abbrev pub invariant-loop-byte : goal.invariant-loop-byte
invariant-loop-byte l = Sofar l.digits l.byte-index l.number
