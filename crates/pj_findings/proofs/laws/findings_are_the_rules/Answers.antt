use Rattle.pj_findings.proofs.FindingLaws.{ascend, kept, of_rules}
use Rattle.pj_findings.proofs.laws.findings_are_the_rules.Goals as goal

pub returns : goal.returns
returns c = record { ascend = ascend; kept = kept; of_rules = of_rules }
