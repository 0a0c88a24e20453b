use Rattle.std.proofs.Common.{◌≡◌, ℕ, List, [], ◌∷◌, ◌++◌, length, ap, ◌∙◌}
use Rattle.std.specs.Prelude.{flat_map}
use Rattle.std.specs.Fmt.{decimal}
use Rattle.pj_rule_sets.specs.Rules.{EffectiveRule}
use Rattle.pj_rule_keys.specs.Keys.{rule_texts, spelled}
use Rattle.pj_rule_keys.proofs.Written.{pair_bytes, rules_bytes, three_put}
use Rattle.pj_rule_keys.proofs.key.list_key_bytes.Goals as goal

pub returns-clause-value : goal.returns-clause-value
returns-clause-value c =
    let marker = c.args.marker.now in
    let rules = c.args.rules.now in
    let count = decimal (length rules) in
    let p = c.put_text.new.out.items in
    let q = c.put_number.new.out.items in
    let one : p ≡ [] ++ spelled marker = c.in_ok-put_text.ensures.put ∙ (λ i. c.new-out.ensures.items i ++ spelled (c.as_str.ensures i)) in
    three_put [] p q c.put_rules.new.out.items (spelled marker) (spelled count) _ one c.in_ok-put_number.ensures c.in_ok-put_rules.ensures.put
    ∙ ap (λ (l : List ℕ). spelled marker ++ (spelled count ++ l)) (rules_bytes rules)
    ∙ pair_bytes marker count (flat_map (λ (r : EffectiveRule). decimal r.top ∷ rule_texts r) rules)
