use Rattle.kinds.proofs.Fields.{reads_number}
use Rattle.kinds.proofs.field.read.Goals as goal

pub returns : goal.returns
returns c =
    let h = reads_number c.args.column.now c.read.result c.if-column-ne-FIELD.false c.read.ensures.value in
    record { value = rw c.ok.ensures.value h }
