use Rattle.sheetreport.proofs.Cuts.{surveyed_known}
use Rattle.sheetreport.proofs.report.read_sheet.Goals as goal

pub returns-clause-sheet : goal.returns-clause-sheet
returns-clause-sheet g c = surveyed_known c.args.kind _ _ _ _ c.surveyed.result c.most_bytes.ensures c.in_ok-text.ensures.first c.as_slice.ensures.value c.surveyed.ensures
