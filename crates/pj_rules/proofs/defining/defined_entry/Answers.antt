use Rattle.std.proofs.Common.{◌∙◌, sym, subst}
use Rattle.pj_rules.specs.Defining.{IsDefinedAs}
use Rattle.pj_rules.proofs.defining.defined_entry.Goals as goal

pub returns-in_ok-rule-clause-entry : goal.returns-in_ok-rule-clause-entry
returns-in_ok-rule-clause-entry c = IsDefinedAs.an_xpath_rule (sym c.is_xpath_rule.ensures ∙ c.if-is_xpath_rule.true) c.in_ok-rule.ensures.rule

pub returns-in_ok-entry-clause-entry : goal.returns-in_ok-entry-clause-entry
returns-in_ok-entry-clause-entry c =
    subst (IsDefinedAs c.args.rule_set.now c.args.name.now c.args.rule) (sym c.in_ok-entry.ensures)
    (IsDefinedAs.another_rule (sym c.is_xpath_rule.ensures ∙ c.if-is_xpath_rule.false))
