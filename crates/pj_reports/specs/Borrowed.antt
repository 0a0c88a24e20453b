-- What borrowed rows hold, for private clauses.
use Rattle.pj_names.specs.declared.rule_row.RuleRow.{RuleRow}
use Rattle.pj_reports.specs.Shown.{Problem}
use Rattle.pj_reports.specs.declared.shown.Problem as declared
use Rattle.pj_reports.specs.declared.shown.RuleShown as declared_rule

abbrev pub problem_seen : declared.Problem → Problem
problem_seen p = record { path = p.path.now; package_name = p.package.now; finding = p.finding.now }

abbrev pub rule_seen : declared_rule.RuleShown → RuleRow
rule_seen r = record { name = r.name.now; message = r.message.now; priority = r.priority; rule_set = r.rule_set.now }
