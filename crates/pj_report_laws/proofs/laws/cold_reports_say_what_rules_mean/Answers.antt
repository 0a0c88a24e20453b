use Rattle.pj_report_laws.proofs.SayingLaws.{cold_says}
use Rattle.pj_report_laws.proofs.laws.cold_reports_say_what_rules_mean.Goals as goal

pub returns : goal.returns
returns c =
    let nodes = c.rules_find_nodes.ensures in
    let files = c.files_are_their_rules.ensures in
    let found = c.findings_are_denoted.ensures in
    cold_says (record {
      ascend = nodes.ascend;
      stand = nodes.spots;
      no_tree = c.files_without_tree_have_one_error.ensures;
      inactive = c.inactive_rules_mean_nothing.ensures;
      in_order = files.in_order;
      own = files.of_rules;
      have_rules = files.have_rules;
      errors_have_rules = files.errors_have_rules;
      packages = files.package_name;
      reasons = c.rules_find_what_they_denote.ensures.reasons;
      denoted = found.findings;
      codes = found.errors;
    })
