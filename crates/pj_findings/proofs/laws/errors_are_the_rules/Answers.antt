use Rattle.pj_findings.proofs.ErrorLaws.{errors_ascend, errors_kept, none_has_both}
use Rattle.pj_findings.proofs.laws.errors_are_the_rules.Goals as goal

pub returns : goal.returns
returns c = record { ascend = errors_ascend 0; kept = errors_kept; either = none_has_both }
