-- For private clauses: what stands for a rule that a file defines, and why nothing does.
use Rattle.std.specs.Prelude.{◌≡◌, Bool, true, false, List}
use Rattle.pj_outside.specs.Files.{Files}
use Rattle.pj_rule_sets.specs.Lists.{not_an_xpath_rule}
use Rattle.pj_rule_sets.specs.declared.entry.Entry.{Entry}
use Rattle.pj_rule_sets.specs.declared.entry.Entry.TheVariants as entry
use Rattle.pj_rule_texts.specs.Rules.{is_xpath_rule}
use Rattle.pj_rule_texts.specs.Values.{Text}
use Rattle.pj_rule_texts.specs.declared.rule.RuleTexts.{RuleTexts}
use Rattle.pj_rule_texts.specs.declared.written.Part.TheVariants as part
use Rattle.pj_rule_texts.specs.declared.written.WrittenRule.{WrittenRule}
use Rattle.pj_rules.specs.Effective.{CannotDefine, Defines, PartFault}
use Rattle.pj_rules.specs.declared.fault.RuleFault.{RuleFault}
use Rattle.pj_rules.specs.declared.fault.RuleWhat.{RuleWhat}
use Rattle.pj_rules.specs.declared.progress.Progress.{Progress}

pub data IsDefinedAs (rule_set name : Text) (rule : WrittenRule) : Entry → Type 0 where
  an_xpath_rule : {texts : RuleTexts} → is_xpath_rule rule ≡ true → Defines rule_set name rule texts → IsDefinedAs rule_set name rule (entry.Rule texts)
  another_rule : is_xpath_rule rule ≡ false → IsDefinedAs rule_set name rule (not_an_xpath_rule name)

pub record HasNoEntry (rule_set name : Text) (rule : WrittenRule) (w : RuleWhat) : Type 0 where
  pub is_xpath : is_xpath_rule rule ≡ true
  pub cannot : CannotDefine rule_set name rule w

-- the fault of a definition, wherever it stands
abbrev pub IsDefinitionFault : Text → Text → Progress → WrittenRule → RuleFault → Type 0
IsDefinitionFault path rule_set progress rule fault = (files : Files) (is_top : Bool) (open_ : List Text) → PartFault files is_top open_ path rule_set progress (part.Rule rule) fault
