-- For private clauses: the fault of a path pattern.
use Rattle.std.specs.Prelude.{◌≡◌}
use Rattle.pj_rule_sets.specs.Patterns.{whole}
use Rattle.pj_rule_texts.specs.Values.{Text}
use Rattle.pj_rules.specs.declared.fault.RuleFault.{RuleFault}
use Rattle.pj_rules.specs.declared.fault.RuleWhat.TheVariants.{PatternRefused}
use Rattle.pj_xpatterns.specs.Meaning.{IsNoPattern}

-- the text is no pattern
pub record IsPatternFault (path text : Text) (fault : RuleFault) : Type 0 where
  pub place : fault.path ≡ path
  pub what : fault.what ≡ PatternRefused text
  pub is_none : IsNoPattern (whole text)
