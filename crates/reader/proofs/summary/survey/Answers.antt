use Rattle.std.proofs.Common.{Ok, Err, sym, ap, ◌∙◌, subst}
use Rattle.reader.proofs.Surveys.{sofar_none, sofar_more, few, surveyed_all, surveyed_fault}
use Rattle.reader.specs.Readings.{HandsOut, Next}
use Rattle.reader.specs.Summaries.{Surveyed}
use Rattle.reader.proofs.summary.survey.Given as given
use Rattle.reader.proofs.summary.survey.Goals as goal
use Rattle.reader.proofs.summary.survey.Goals.{In-Some}
use Rattle.std.proofs.lemmas.Result.{err_from_is_err_and}

-- the reader handed out the line that the loop notes
handed : (g : given.Over) (c : In-Some g) → HandsOut g.T.Time.COUNT c.loop-line.reader c.next_line.new.self c.in-Some.line
handed g c = subst (λ o. Next g.T.Time.COUNT c.loop-line.reader c.next_line.new.self (Ok o)) c.in-Some.is c.in_ok-line.ensures.next

pub loop-line-init : goal.loop-line-init
loop-line-init g c = sofar_none g.T.Time.COUNT c.args.text.now c.new-reader.result c.default-summary.result c.new-reader.ensures.begun c.default-summary.ensures

pub note-requires : goal.note-requires
note-requires g c = few g.T.Time.COUNT _ _ _ c.loop-line.summary c.in-Some.line c.loop-line.invariant (handed g (goal.at.note-requires g c).In-Some)

pub loop-line-preserved : goal.loop-line-preserved
loop-line-preserved g c = sofar_more g.T.Time.COUNT _ _ _ _ c.in-Some.line c.loop-line.invariant (handed g (goal.at.loop-line-preserved g c).In-Some) _ c.note.ensures

pub returns : goal.returns
returns g c = record {
  sheet = surveyed_all g.T.Time.COUNT c.args.text.now c.new-reader.result c.loop-line.reader c.next_line.new.self c.loop-line.summary c.new-reader.ensures.tells_the_sheet c.loop-line.invariant _ c.in_default.is c.in_ok-line.ensures.next;
}

pub returns-in_err-line : goal.returns-in_err-line
returns-in_err-line g c =
    let p = err_from_is_err_and c.from_residual.result c.from_residual.ensures.1 in
    let k = g.T.Time.COUNT in
    let fault = surveyed_fault k c.args.text.now c.new-reader.result c.loop-line.reader c.next_line.new.self c.loop-line.summary c.new-reader.ensures.tells_the_sheet c.loop-line.invariant c.in_err-line.field-0.0 c.in_err-line.ensures.next in
    record { sheet = subst (Surveyed k c.args.text.now) (sym (p.1 ∙ ap Err p.2)) fault }
