use Rattle.std.proofs.Common.{◌≡◌, ◌+◌, ◌≤◌, List, arith, length, rules, subst, take}
use Rattle.std.proofs.lemmas.List.{take_all}
use Rattle.pj_rule_sets.specs.Rules.{EffectiveRule}
use Rattle.pj_workers.proofs.Kept.{HaveRules, one_more_rule}
use Rattle.pj_workers.proofs.laws.sets_have_rules.Goals as goal

pub loop-rule-preserved : goal.loop-rule-preserved
loop-rule-preserved c =
    let all : c.as_slice-rule-items.result.now ≡ c.args.rules.now.rules = search rules in
    subst (λ (l : List EffectiveRule). HaveRules c.args.rules.now.marker (take c.loop-rule.rule-index l) → HaveRules c.args.rules.now.marker (take (c.loop-rule.rule-index + 1) l)) all
    (one_more_rule c.args.rules.now.marker c.as_slice-rule-items.result.now c.loop-rule.rule-index c.rule-item.result c.expressions.result.now c.loop-rule-test.true c.rule-item.is c.expressions.ensures)
    c.loop-rule.invariant

pub returns : goal.returns
returns c =
    let all : c.as_slice-rule-items.result.now ≡ c.args.rules.now.rules = search rules in
    let far : length c.as_slice-rule-items.result.now ≤ c.loop-rule.rule-index = omega (arith, c.loop-rule-test.false) in
    subst (λ (l : List EffectiveRule). HaveRules c.args.rules.now.marker l)
    (take_all c.loop-rule.rule-index c.args.rules.now.rules (subst (λ (l : List EffectiveRule). length l ≤ c.loop-rule.rule-index) all far)) c.loop-rule.invariant
