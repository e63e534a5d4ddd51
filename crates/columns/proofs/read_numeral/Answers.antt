use Rattle.std.proofs.Common.{arith, ltb-true}
use Rattle.std.proofs.lemmas.Result.{err_from_is_err_and}
use Rattle.columns.proofs.Reading.{names_minus, names_plain}
use Rattle.columns.proofs.Shown.{some_from_first, cons_from_first}
use Rattle.columns.proofs.read_numeral.Goals as goal

pub returns-in_err-magnitude-in-45 : goal.returns-in_err-magnitude-in-45
returns-in_err-magnitude-in-45 c =
    let p = err_from_is_err_and c.from_residual.result c.from_residual.ensures.1 in
    rw (p.1, p.2) (names_minus _ _ _ (cons_from_first _ 45 (omega arith) (omega arith)) c.in_err-magnitude-in-45.ensures)

pub returns-in_err-magnitude-in_default : goal.returns-in_err-magnitude-in_default
returns-in_err-magnitude-in_default c =
    let p = err_from_is_err_and c.from_residual-in_err-magnitude-in_default.result c.from_residual-in_err-magnitude-in_default.ensures.1 in
    rw (p.1, p.2) (names_plain _ _ (λ dash. grind (arith, ltb-true, some_from_first c.args.text.now (omega arith))) c.in_err-magnitude-in_default.ensures)
