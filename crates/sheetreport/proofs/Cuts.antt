-- Why what is kept of a text is a sheet, or has its first fault, just as the whole text does. Assumes nothing.
use Rattle.std.proofs.Common.{◌≡◌, ℕ, ◌+◌, ◌<◌, ◌≤◌, Bool, true, false, leb, List, length, Some, None, Ok, Err, Option, Result, IfOk, IfSome, OnOk, refl, ap, ◌∙◌, subst, arith, leb-false, leb-true, length-take}
use Rattle.lines.specs.declared.cause.TextCause.{TextCause}
use Rattle.lines.specs.declared.line.Line.{Line}
use Rattle.programs.specs.Inputs.{kept}
use Rattle.programs.specs.declared.request.Kind.{Kind}
use Rattle.reader.specs.Sheets.{Told, as_whole, by_lines}
use Rattle.reader.specs.Summaries.{Surveyed}
use Rattle.reader.specs.Texts.{UnreadableBy, limit}
use Rattle.reader.specs.declared.fault.Fault.{Fault}
use Rattle.reader.specs.declared.summary.Summary.{Summary}
use Rattle.sheetreport.specs.Reports.{numbers, Prints, said, status, SurveyedIn, Ran}
use Rattle.std.proofs.lemmas.List.{take_all}
use Rattle.std.specs.Io.KnownBytes.{Appends}
use Rattle.std.specs.Process.{exit_status}
use Rattle.std.specs.declared.process.ExitCode.{ExitCode}

-- a text above the limit has no other fault than its length
too_long : (text whole : List ℕ) (c : TextCause) (n : ℕ) → limit < length text → limit < length whole → UnreadableBy text c n → UnreadableBy whole c n
too_long text whole TextCause.Length n long all h = (all, h.1)
too_long text whole TextCause.Newline n long all h = absurd (omega (arith, h.1))
too_long text whole TextCause.Layout n long all h = h
too_long text whole TextCause.Turn n long all h = absurd (omega (arith, h.0))
too_long text whole TextCause.Count n long all h = h
too_long text whole TextCause.Field n long all h = h

told_above : (k : ℕ) (text whole : List ℕ) (ls : List Line) (f : Option Fault) → limit < length text → limit < length whole → Told k text ls f → Told k whole ls f
told_above k text whole _ _ long all (as_whole f h) = as_whole f (too_long text whole f.cause f.line long all h)
told_above k text whole _ _ long all (by_lines lines ls f readable _ _) = absurd (omega (arith, readable.short))

told_whole : (k : ℕ) (whole : List ℕ) (ls : List Line) (f : Option Fault) (b : Bool) → leb (length whole) limit ≡ b → Told k (kept limit whole) ls f → Told k whole ls f
told_whole k whole ls f true e told =
    let short : length whole ≤ limit + 1 = omega (arith, leb-true) in
    subst (λ l. Told k l ls f) (take_all (limit + 1) whole short) told
told_whole k whole ls f false e told =
    let all : limit < length whole = omega (arith, leb-false) in
    let long : limit < length (kept limit whole) = simp length-take (omega arith) in
    told_above k (kept limit whole) whole ls f long all told

surveyed_whole : (k : ℕ) (whole : List ℕ) (r : Result Summary Fault) → Surveyed k (kept limit whole) r → Surveyed k whole r
surveyed_whole k whole (Ok s) h = (h.0, told_whole k whole h.0 None (leb (length whole) limit) refl h.1, h.2)
surveyed_whole k whole (Err f) h = (h.0, told_whole k whole h.0 (Some f) (leb (length whole) limit) refl h.1)

-- what is kept is a sheet, or has its first fault, as the input is and has, where its bytes are known
pub surveyed_known : (k : Kind) (known : Option (List ℕ)) (text slice : List ℕ) (n : ℕ) (r : Result Summary Fault) → n ≡ limit → IfSome known (λ whole. text ≡ kept n whole) → slice ≡ text → Surveyed (numbers k) slice r → SurveyedIn k known r
surveyed_known k None text slice n r most cut same surveyed = tt
surveyed_known k (Some whole) text slice n r most cut same surveyed =
    let first : slice ≡ kept limit whole = same ∙ cut ∙ ap (λ m. kept m whole) most in
    surveyed_whole (numbers k) whole r (subst (λ t. Surveyed (numbers k) t r) first surveyed)

pub ran : {E : Type 0} (k : Kind) (known : Option (List ℕ)) (sheet : Result Summary Fault) (r : Result ExitCode E) (o p e f : Option (List ℕ)) → SurveyedIn k known sheet → IfOk r (λ code. exit_status code ≡ status sheet) → OnOk r (Prints sheet o p) → OnOk r (Appends e f (said sheet)) → IfOk r (λ code. Ran k known code o p e f)
ran k known sheet (Err _) o p e f surveyed ends prints says = tt
ran k known sheet (Ok code) o p e f surveyed ends prints says = record {
  sheet = sheet;
  surveyed = surveyed;
  status = ends;
  prints = prints;
  says = says;
}
