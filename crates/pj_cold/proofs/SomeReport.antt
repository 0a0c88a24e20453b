-- Rules that rulesets come to have a cold report.
use Rattle.std.proofs.Common.{Bool, List, [], ◌∷◌, refl}
use Rattle.std.specs.List.{AllByRecursion, AllZip}
use Rattle.pj_outside.specs.Files.{Bytes, Files}
use Rattle.pj_rule_sets.specs.Expressions.{IsSound}
use Rattle.pj_rule_sets.specs.Rules.{EffectiveRule, texts_of}
use Rattle.pj_rules.specs.Laws.{RulesAreSound}
use Rattle.pj_workers.specs.Calls.{RuleCallsOnly, asks_nothing}
use Rattle.pj_workers.specs.Cold.{FileSettles, SourceSettles, World}
use Rattle.pj_workers.specs.Laws.{SettleByReplies, SettleWithoutTypes, SettledCold}
use Rattle.pj_workers.specs.JavaReplies.{java_replies}
use Rattle.pj_workers.specs.Rules.{IsRuleOf, Rule, source_of}
use Rattle.pj_xexpressions.specs.declared.pmd_function.PmdFunction.{PmdFunction}
use Rattle.pj_cold.specs.Laws.{SetSettlesByReplies, SetSettlesWithoutTypes, SomeReport}

-- rules that can be used are rules with expressions
spelled : (marker : Bytes) (rules : List EffectiveRule) → AllByRecursion (λ (rule : EffectiveRule). IsSound (texts_of rule)) rules → (all : List Rule) × AllZip (IsRuleOf marker) rules all
spelled marker [] h = ([], tt)
spelled marker (rule ∷ rules) h =
    let (all, are) = spelled marker rules h.1 in (
      record { source = source_of marker rule; query = h.0.query; suppression = h.0.suppression } ∷ all,
      (record { source = refl; spelled = h.0.spell }, are),
    )

pub some_report : RulesAreSound → SettledCold → SomeReport
some_report sound cold files paths minimum marker set effective world held settle =
    let (all, are) = spelled set.marker set.rules (sound files paths minimum marker set effective) in
    let (report, is) = cold java_replies world held all set.unusable (settle all are) in
    (report, record { rules = all; are_rules = are; cold = is })

sources_settle : SettleByReplies → (may : PmdFunction → Bool) (world : World) (rules : List Rule) → AllByRecursion (RuleCallsOnly may) rules → (sources : Files) → AllByRecursion (SourceSettles may java_replies world) sources
    → AllByRecursion (FileSettles java_replies world rules) sources
sources_settle by_replies may world rules only [] settle = tt
sources_settle by_replies may world rules only (source ∷ sources) settle = (by_replies java_replies may world source.0 source.1 rules only settle.0, sources_settle by_replies may world rules only sources settle.1)

pub set_settles : SettleByReplies → SetSettlesByReplies
set_settles by_replies may world sources set only settle rules are = sources_settle by_replies may world rules (only rules are) sources settle

without_types : SettleWithoutTypes → (world : World) (rules : List Rule) → AllByRecursion (RuleCallsOnly asks_nothing) rules → (sources : Files) → AllByRecursion (FileSettles java_replies world rules) sources
without_types settle world rules only [] = tt
without_types settle world rules only (source ∷ sources) = (settle world source.0 source.1 rules only, without_types settle world rules only sources)

pub set_settles_without_types : SettleWithoutTypes → SetSettlesWithoutTypes
set_settles_without_types settle world sources set only rules are = without_types settle world rules (only rules are) sources
