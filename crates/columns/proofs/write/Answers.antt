use Rattle.std.proofs.Common.{arith, w64}
use Rattle.std.proofs.lemmas.Int.{to_z-of_z}
use Rattle.columns.proofs.Shown.{one_column, reads_one}
use Rattle.columns.proofs.Writing.{writes_all}
use Rattle.columns.proofs.write.Goals as goal

pub returns : goal.returns
returns c =
    let same = to_z-of_z w64 c.args.number c.ranges.number in
    let place = rw c.in_ok-start.ensures.ok_part at c.checked_sub.ensures in
    let value = writes_all _ _ same _ c.unsigned_abs-magnitude.ensures.value c.args.column.now _ c.put_sign.new.front _ (omega (arith, place, c.split_at_mut-front.ensures.front_len)) c.in_ok-put_sign.ensures c.put_digits.ensures in
    record { value = value; one_column = one_column; reads_back = λ again. reads_one _ _ again value.0 c.ranges.number }
