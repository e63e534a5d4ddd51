use Rattle.std.proofs.Common.{w64, SFits, rules}
use Rattle.kinds.proofs.ShownRows.{row_one, none_first, none_second}
use Rattle.kinds.proofs.guarded.GuardedWritten.read.Goals as goal
use Rattle.std.proofs.lemmas.Int.{to_z-of_z}

pub returns-in_err-read : goal.returns-in_err-read
returns-in_err-read c =
    let none = none_first 1 c.args.columns.now c.in_ok-first.first.now c.in_ok-first.ensures.cases.1 c.in_err-read.ensures.value in
    record { value = rw c.from_residual-in_err-read.ensures none }

pub returns-in_err-read-2 : goal.returns-in_err-read-2
returns-in_err-read-2 c =
    let none = none_second c.args.columns.now c.in_ok-first.second.now c.in_ok-first.ensures.cases.2 c.in_err-read-2.ensures.value in
    record { value = rw c.from_residual-in_err-read-2.ensures none }

pub returns : goal.returns
returns c =
    let split = c.in_ok-first.ensures.cases in
    let fits : SFits w64 c.in_ok-read.field-0 = search rules in
    let fits' : SFits w64 c.in_ok-read-2.field-0 = search rules in
    let first = rw split.1 at c.in_ok-read.ensures.value in
    let second = rw split.2 at c.in_ok-read-2.ensures.value in
    record { value = simp to_z-of_z (split.0, first.1, row_one _ _ second) }
