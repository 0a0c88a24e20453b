use Rattle.std.proofs.Common.{◌≡◌, true, sym, subst}
use Rattle.std.specs.Arc.{arc_value}
use Rattle.pj_rule_sets.specs.Usable.{IsUsable, have_same_sources}
use Rattle.pj_rule_sets.proofs.Sources.{usable_same}
use Rattle.pj_rule_sets.proofs.usable.UsableRule.with_same.Goals as goal

pub invariant_of-result : goal.invariant_of-result
invariant_of-result c =
    let old = c.self.inside in
    let texts = c.args.texts in
    let same : have_same_sources old.texts texts ≡ true = subst (λ t. have_same_sources t texts ≡ true) (sym c.self.view_is) c.requires in
    subst (IsUsable texts) (sym c.in_ok-expressions.ensures.cases) (usable_same old.texts texts (arc_value old.expressions) same c.self.invariant)

pub returns-clause-sound : goal.returns-clause-sound
returns-clause-sound c =
    let old = c.self.inside in
    let texts = c.args.texts in
    let same : have_same_sources old.texts texts ≡ true = subst (λ t. have_same_sources t texts ≡ true) (sym c.self.view_is) c.requires in
    (usable_same old.texts texts (arc_value old.expressions) same c.self.invariant).sound
