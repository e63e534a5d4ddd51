use Rattle.std.proofs.Common.{true-eqb}
use Rattle.reader_tests.proofs.Spelling.{sofar_all}
use Rattle.reader_tests.proofs.escapes.decoded.Goals as goal

pub returns : goal.returns
returns c = sofar_all _ _ _ c.loop-rest.invariant (true-eqb _ 0 c.loop-rest-test.ensures)
