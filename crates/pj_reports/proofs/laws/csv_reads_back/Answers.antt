use Rattle.pj_reports.proofs.ReportLaws.{csv_report-read}
use Rattle.pj_reports.proofs.laws.csv_reads_back.Goals as goal

pub returns : goal.returns
returns c = csv_report-read
