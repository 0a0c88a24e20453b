use Rattle.std.proofs.Common.{◌≡◌, ◌<◌, List, length, get_or, sym, ap, subst, ◌∙◌}
use Rattle.std.specs.List.{HoldsAt}
use Rattle.pj_rule_sets.specs.Rules.{EffectiveRule}
use Rattle.pj_rule_texts.specs.Values.{Text}
use Rattle.pj_rule_keys.specs.Keys.{FitsKey, HasRoom, key_of}
use Rattle.pj_rule_keys.proofs.Written.{at_any, ok_as}
use Rattle.pj_rule_keys.proofs.key.rule_key.Goals as goal

pub returns-clause-value : goal.returns-clause-value
returns-clause-value c =
    let found : EffectiveRule = c.index-list-rule.result in
    let list : List EffectiveRule = c.as_slice-list.result.now in
    let rules : List EffectiveRule = c.args.rules.now.rules in
    let marker : Text = c.args.rules.now.marker in
    let same : list ≡ rules = c.as_slice-list.ensures ∙ c.rules.ensures in
    let lt : c.args.rule < length list = subst (λ (l : List EffectiveRule). c.args.rule < length l) (sym same) c.requires in
    let there : (d : EffectiveRule) → found ≡ get_or rules c.args.rule d = λ d. c.index-list-rule.is ∙ at_any list c.args.rule found d lt ∙ ap (λ (l : List EffectiveRule). get_or l c.args.rule d) same in
    ok_as (λ key. key ≡ key_of c.marker-marker.result.now found) (λ key. HoldsAt (λ (r : EffectiveRule). key ≡ key_of marker r) rules c.args.rule)
    (λ key e d. e ∙ (λ i. key_of (c.marker-marker.ensures i) (there d i))) c.key_made.result c.key_made.ensures.value

pub returns-clause-room : goal.returns-clause-room
returns-clause-room c =
    let found : EffectiveRule = c.index-list-rule.result in
    let list : List EffectiveRule = c.as_slice-list.result.now in
    let rules : List EffectiveRule = c.args.rules.now.rules in
    let marker : Text = c.args.rules.now.marker in
    let same : list ≡ rules = c.as_slice-list.ensures ∙ c.rules.ensures in
    let lt : c.args.rule < length list = subst (λ (l : List EffectiveRule). c.args.rule < length l) (sym same) c.requires in
    let there : (d : EffectiveRule) → found ≡ get_or rules c.args.rule d = λ d. c.index-list-rule.is ∙ at_any list c.args.rule found d lt ∙ ap (λ (l : List EffectiveRule). get_or l c.args.rule d) same in
    ok_as (λ key. HasRoom c.marker-marker.result.now × FitsKey found) (λ key. HasRoom marker × HoldsAt FitsKey rules c.args.rule)
    (λ key h. (subst (λ (t : Text). HasRoom t) c.marker-marker.ensures h.0, λ d. subst (λ (r : EffectiveRule). FitsKey r) (there d) h.1)) c.key_made.result c.key_made.ensures.room
