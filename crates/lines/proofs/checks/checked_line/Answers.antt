use Rattle.lines.proofs.OneAnswer.{one_answer}
use Rattle.lines.proofs.checks.checked_line.Goals as goal

pub returns : goal.returns
returns g c = record { judged = c.judge.ensures; one_answer = one_answer g.T.Time.COUNT }
