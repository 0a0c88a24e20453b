use Rattle.pj_reports.proofs.ReportLaws.{text_report-lines}
use Rattle.pj_reports.proofs.laws.text_is_its_lines.Goals as goal

pub returns : goal.returns
returns c = text_report-lines
