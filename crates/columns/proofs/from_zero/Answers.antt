use Rattle.columns.proofs.Reading.{names_fitting}
use Rattle.columns.proofs.from_zero.Goals as goal

pub returns : goal.returns
returns c = rw c.or.ensures (names_fitting _ _ c.try_from.ensures)
