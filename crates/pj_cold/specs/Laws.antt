-- What follows from the definitions.
use Rattle.std.specs.Prelude.{ℕ, Bool, List}
use Rattle.std.specs.List.{AllByRecursion}
use Rattle.pj_outside.specs.Files.{Bytes, Files}
use Rattle.pj_reports.specs.declared.report.Report.{Report}
use Rattle.pj_rule_sets.specs.Rules.{EffectiveRules}
use Rattle.pj_rules.specs.Load.{IsEffective}
use Rattle.pj_workers.specs.Calls.{RuleCallsOnly, asks_nothing}
use Rattle.pj_workers.specs.Cold.{FileSettles, SourceSettles, World}
use Rattle.pj_workers.specs.JavaReplies.{java_replies}
use Rattle.pj_workers.specs.Rules.{AreRulesOf, Rule}
use Rattle.pj_xexpressions.specs.declared.pmd_function.PmdFunction.{PmdFunction}
use Rattle.pj_cold.specs.Cold.{IsColdOf}

-- What a set of rules means at each source comes to something over a world of classes.
abbrev pub SetSettles : World → Files → EffectiveRules → Type 0
SetSettles world sources set = (rules : List Rule) → AreRulesOf set rules → AllByRecursion (FileSettles java_replies world rules) sources

-- The rules of a set call only such functions of PMD.
abbrev pub SetCallsOnly : (PmdFunction → Bool) → EffectiveRules → Type 0
SetCallsOnly may set = (rules : List Rule) → AreRulesOf set rules → AllByRecursion (RuleCallsOnly may) rules

-- Where what these functions reply in each source comes to something, what the rules mean does.
abbrev pub SetSettlesByReplies : Type 0
SetSettlesByReplies = (may : PmdFunction → Bool) (world : World) (sources : Files) (set : EffectiveRules) → SetCallsOnly may set → AllByRecursion (SourceSettles may java_replies world) sources → SetSettles world sources set

-- So it is with rules that do not look at types: what they mean comes to something in every world.
abbrev pub SetSettlesWithoutTypes : Type 0
SetSettlesWithoutTypes = (world : World) (sources : Files) (set : EffectiveRules) → SetCallsOnly asks_nothing set → SetSettles world sources set

-- The rules that rulesets come to have a cold report of every list of sources, in every world of classes over which what they mean comes to something.
abbrev pub SomeReport : Type 0
SomeReport = (files : Files) (paths : List Bytes) (minimum : ℕ) (marker : Bytes) (set : EffectiveRules) → IsEffective files paths minimum marker set → (world : World) (sources : Files)
    → SetSettles world sources set → (report : Report) × IsColdOf world sources set report
