use Rattle.std.proofs.Common.{refl, rules}
use Rattle.kinds.proofs.Fields.{not_refused}
use Rattle.kinds.proofs.plain.PlainWritten.write.Goals as goal

pub returns-in_err-write : goal.returns-in_err-write
returns-in_err-write c =
    absurd (not_refused _ _ _ refl c.in_ok-admit.ensures.value.0 (search rules) c.in_err-write.ensures.value.1)
