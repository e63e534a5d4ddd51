use Rattle.std.proofs.Common.{◌∙◌, arith, w64, SFits, rules}
use Rattle.std.proofs.lemmas.Int.{to_z-of_z}
use Rattle.kinds.proofs.Fields.{not_refused}
use Rattle.kinds.proofs.ShownRows.{row_one, row_more}
use Rattle.kinds.proofs.guarded.GuardedWritten.write.Goals as goal

pub returns-in_err-write : goal.returns-in_err-write
returns-in_err-write c =
    let fits : SFits w64 c.args.self.picoseconds = search rules in
    absurd (not_refused _ _ c.args.self.picoseconds (to_z-of_z w64 _ fits) c.split_at_mut-first.ensures.front_len c.in_ok-admit.ensures.value.1.0 c.in_err-write.ensures.value.1)

pub returns-in_err-write-2 : goal.returns-in_err-write-2
returns-in_err-write-2 c =
    let fits : SFits w64 c.args.self.guard = search rules in
    let admitted = c.in_ok-admit.ensures.value in
    let back : _ = omega (arith, c.split_at_mut-first.ensures.back_len, admitted.0) in
    absurd (not_refused _ _ c.args.self.guard (to_z-of_z w64 _ fits) back admitted.1.1.0 c.in_err-write-2.ensures.value.1)

pub returns : goal.returns
returns c =
    let fits : SFits w64 c.args.self.picoseconds = search rules in
    let fits' : SFits w64 c.args.self.guard = search rules in
    let admitted = c.in_ok-admit.ensures.value in
    let split = c.split_at_mut-first.ensures in
    let first = simp to_z-of_z at c.in_ok-write.ensures.value in
    let second = simp to_z-of_z at c.in_ok-write-2.ensures.value in
    let back : _ = omega (arith, second.1, split.back_len, admitted.0) in
    record { value = (admitted.1, row_more 1 _ _ _ _ (first.1 ∙ split.front_len, first.0) (row_one _ _ (back, second.0))) }
