-- Why a load is refused.
use Rattle.std.specs.Prelude.{⊤, ℕ, List}
use Rattle.pj_outside.specs.Files.{Files}
use Rattle.pj_rule_texts.specs.Values.{Text}
use Rattle.pj_rules.specs.Load.{AreTooMany, IsFirstFault}
use Rattle.pj_rules.specs.declared.fault.RuleRefused.{RuleRefused}
use Rattle.pj_rules.specs.declared.fault.RuleRefused.TheVariants.{Rule, TooManyRules, Failed, Memory}

-- the first fault in the order of reading, or that there are too many rules; of a failed tree and of want of memory the files say nothing
abbrev pub IsRefused : Files → List Text → ℕ → Text → RuleRefused → Type 0
IsRefused files paths minimum marker (Rule fault) = IsFirstFault files paths fault
IsRefused files paths minimum marker (TooManyRules count) = AreTooMany files paths minimum marker count
IsRefused files paths minimum marker Failed = ⊤
IsRefused files paths minimum marker Memory = ⊤
