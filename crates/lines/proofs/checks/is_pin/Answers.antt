use Rattle.lines.proofs.Fields.{decides_some_pin}
use Rattle.lines.proofs.checks.is_pin.Goals as goal

pub returns : goal.returns
returns c = rw c.is_ok.ensures.value (decides_some_pin c.args.columns.now c.pin.result c.pin.ensures.value)
