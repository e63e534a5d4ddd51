use Rattle.columns.proofs.Shown.{one_number, reads_from_names, writes_back}
use Rattle.columns.proofs.read.Goals as goal

pub returns : goal.returns
returns c =
    let value = reads_from_names _ _ c.read_numeral.result c.after_spaces.ensures c.read_numeral.ensures in
    record { value = value; one_number = one_number; writes_back = writes_back _ _ value }
