use Rattle.pj_workers.proofs.EndLaws.{errors_tell, findings_denoted}
use Rattle.pj_workers.proofs.laws.findings_are_denoted.Goals as goal

pub returns : goal.returns
returns c =
    let own = c.files_are_their_rules.ensures.of_rules in
    let rules = c.rules_find_what_they_denote.ensures in
    record { findings = findings_denoted own rules.nodes; errors = errors_tell own rules.codes }
