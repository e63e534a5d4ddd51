use Rattle.std.proofs.Common.{◌-◌, length}
use Rattle.reader.proofs.Surveys.{Sofar}
use Rattle.reader.proofs.summary.survey.Given as goal

abbrev pub invariant-loop-line : goal.invariant-loop-line
invariant-loop-line g l = Sofar g.T.Time.COUNT l.initial.reader l.reader l.summary

abbrev pub decreases-loop-line : goal.decreases-loop-line
decreases-loop-line g l = length l.reader.text.now - l.reader.place
