use Rattle.std.proofs.Common.{arith}
use Rattle.std.proofs.lemmas.Grind.{common_steps}
use Rattle.columns.proofs.Decimals.{decimal_digit}
use Rattle.columns.proofs.Sizes.{length_decimal_power}
use Rattle.columns.proofs.digit_count.Goals as goal

pub returns : goal.returns
returns c = grind (arith, common_steps, length_decimal_power, decimal_digit)
