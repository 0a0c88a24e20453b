-- What refusals become, and what they say.
use Rattle.std.specs.Prelude.{⊤, ◌≡◌, Some}
use Rattle.pj_rule_sets.specs.Faults as expressions
use Rattle.pj_rule_sets.specs.declared.fault.ExpressionFault.{ExpressionFault}
use Rattle.pj_rule_texts.specs.declared.file_fault.FileRefused.{FileRefused}
use Rattle.pj_rule_texts.specs.declared.file_fault.FileRefused.TheVariants as file
use Rattle.pj_rule_texts.specs.Values.{Text}
use Rattle.pj_rule_texts.specs.declared.rule.RuleTexts.{RuleTexts}
use Rattle.pj_rules.specs.Effective.{what_of_expressions, what_of_file}
use Rattle.pj_rules.specs.declared.fault.RuleFault.{RuleFault}
use Rattle.pj_rules.specs.declared.fault.RuleWhat.{RuleWhat}
use Rattle.pj_rules.specs.declared.fault.RuleRefused.{RuleRefused}
use Rattle.pj_rules.specs.declared.fault.RuleRefused.TheVariants.{Rule, TooManyRules, Failed, Memory}

-- a fact of the fault, where the refusal is one; the tree or memory can fail as well
abbrev pub IfFault : (RuleFault → Type 0) → RuleRefused → Type 0
IfFault fact (Rule fault) = fact fault
IfFault fact (TooManyRules count) = ⊥
IfFault fact Failed = ⊤
IfFault fact Memory = ⊤

-- the same of a call that reads no file, which does not fail otherwise but for memory
abbrev pub IfOwn : (RuleFault → Type 0) → RuleRefused → Type 0
IfOwn fact (Rule fault) = fact fault
IfOwn fact (TooManyRules count) = ⊥
IfOwn fact Failed = ⊥
IfOwn fact Memory = ⊤

abbrev pub refused_file : Text → FileRefused → RuleRefused
refused_file path (file.Fault fault) = Rule (record { path = path; what = what_of_file fault })
refused_file path file.Failed = Failed
refused_file path file.Memory = Memory

-- why texts make no rule that can be used
abbrev pub IsUnsound : RuleTexts → RuleWhat → Type 0
IsUnsound texts w = (fault : ExpressionFault) × expressions.IsFault texts fault × (what_of_expressions texts.row.name fault ≡ Some w)
