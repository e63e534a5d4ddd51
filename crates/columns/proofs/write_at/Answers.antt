use Rattle.std.proofs.Common.{arith, w64}
use Rattle.columns.proofs.Setting.{writes_at}
use Rattle.columns.proofs.write_at.Goals as goal
use Rattle.std.proofs.lemmas.Int.{to_z-of_z}

pub returns : goal.returns
returns c = record {
  value = writes_at _ c.args.number c.args.start c.args.width _ c.args.text.now c.write.new.column c.write.result (to_z-of_z w64 c.args.number c.ranges.number) (omega arith) (omega arith) c.write.ensures.value;
}
