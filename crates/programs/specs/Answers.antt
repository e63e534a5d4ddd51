-- A program's answer, and whether it was delivered. Assumes nothing.
--     Delivered a r   r is an error where the answer is one
use Rattle.std.specs.Prelude.{◌≡◌, false, Ok, Err, Result}
use Rattle.programs.specs.declared.answer.Answer.{Answer}

abbrev pub Delivered : {E : Type 0} → Answer → Result (Unit {0}) E → Type 0
Delivered a (Ok _) = a.failed ≡ false
Delivered a (Err _) = Unit {0}
