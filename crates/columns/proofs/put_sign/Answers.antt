use Rattle.std.proofs.Common.{arith, ltb-false}
use Rattle.columns.proofs.Writing.{puts_none, puts_minus}
use Rattle.columns.proofs.put_sign.Goals as goal

pub returns-in-len1-up : goal.returns-in-len1-up
returns-in-len1-up c =
    rw c.if-negative.true (puts_minus _ _ (c.fill.ensures.after (λ y same. same)) (omega (arith, ltb-false)))

pub returns-else-negative : goal.returns-else-negative
returns-else-negative c = rw c.if-negative.false (puts_none _ _ (c.fill.ensures.after (λ y same. same)))
