use Rattle.std.proofs.Common.{arith, ltb-false, ltb-true}
use Rattle.columns.proofs.Reading.{no_number_empty, no_number_zero_first, no_number_other, sofar_more, sofar_all}
use Rattle.columns.proofs.magnitude.Goals as goal

pub returns-in-empty : goal.returns-in-empty
returns-in-empty c = no_number_empty _ (omega (arith, ltb-true))

pub returns-in-empty-2 : goal.returns-in-empty-2
returns-in-empty-2 c = no_number_zero_first _ (omega arith) (omega (arith, ltb-false))

pub returns-then-not-is_ascii_digit : goal.returns-then-not-is_ascii_digit
returns-then-not-is_ascii_digit c =
    no_number_other _ c.loop-byte.byte-index (omega arith) (λ digit. grind (arith, c.if-not-is_ascii_digit.ensures.cases))

pub loop-byte-preserved : goal.loop-byte-preserved
loop-byte-preserved c =
    sofar_more _ _ c.loop-byte.number _ (omega arith) c.if-not-is_ascii_digit.ensures.cases c.with_digit-number.ensures c.loop-byte.invariant

pub returns : goal.returns
returns c = rw c.ok_or.ensures.value (sofar_all _ _ c.loop-byte.byte-index (omega arith) c.loop-byte.invariant)
