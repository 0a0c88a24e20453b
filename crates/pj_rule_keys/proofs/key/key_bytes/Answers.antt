use Rattle.std.proofs.Common.{◌≡◌, ℕ, List, [], ◌++◌, ap, ◌∙◌}
use Rattle.std.specs.Prelude.{codes}
use Rattle.pj_rule_keys.specs.Keys.{rule_texts, spelled}
use Rattle.pj_rule_keys.proofs.Written.{pair_bytes, three_put}
use Rattle.pj_rule_keys.proofs.key.key_bytes.Goals as goal

pub returns-clause-value : goal.returns-clause-value
returns-clause-value c =
    let marker = c.args.marker.now in
    let p = c.put_text.new.out.items in
    let q = c.put_text-2.new.out.items in
    let one : p ≡ [] ++ spelled (codes "java-17") = c.in_ok-put_text.ensures.put ∙ ap (λ (l : List ℕ). l ++ spelled (codes "java-17")) c.new-out.ensures.items in
    let two : q ≡ p ++ spelled marker = c.in_ok-put_text-2.ensures.put ∙ ap (λ (t : List ℕ). p ++ spelled t) c.as_str.ensures in
    three_put [] p q c.put_rule.new.out.items (spelled (codes "java-17")) (spelled marker) _ one two c.in_ok-put_rule.ensures.put ∙ pair_bytes (codes "java-17") marker (rule_texts c.args.rule.now)
