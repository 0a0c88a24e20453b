use Rattle.pj_workers.proofs.OrderLaws.{errors_have_rules, have_packages, have_rules, in_order, names_own, of_rule}
use Rattle.pj_workers.proofs.laws.files_are_their_rules.Goals as goal

pub returns : goal.returns
returns c =
    let nodes = c.nodes_are_the_items.ensures in
    let findings = c.findings_are_the_rules.ensures in
    let errors = c.errors_are_the_rules.ensures in
    record {
      in_order = in_order nodes.ascend findings.ascend errors.ascend;
      of_rules = of_rule nodes.ascend findings.kept errors.kept errors.either;
      have_rules = have_rules findings.of_rules;
      errors_have_rules = errors_have_rules;
      package_name = have_packages;
      names = names_own;
    }
