use Rattle.kinds.proofs.ShownRows.{only_number}
use Rattle.kinds.proofs.plain.PlainWritten.read.Goals as goal

pub returns-in_err-read : goal.returns-in_err-read
returns-in_err-read c =
    record {
      value = rw c.from_residual.ensures (λ r h. c.in_err-read.ensures.value r.0 (only_number _ r h));
    }
