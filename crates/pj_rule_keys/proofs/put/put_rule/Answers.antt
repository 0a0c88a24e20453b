use Rattle.std.proofs.Common.{◌≡◌, ℕ, ◌<◌, ◌^◌, List, ◌++◌, length, ap, subst, ◌∙◌}
use Rattle.std.specs.List.{All}
use Rattle.pj_rule_texts.specs.Values.{Text}
use Rattle.pj_rule_texts.specs.declared.properties.Property.{Property}
use Rattle.pj_rule_sets.specs.Rules.{EffectiveRule}
use Rattle.pj_rule_keys.specs.Keys.{rule_texts, HasRoom, FitsProperty, FitsKey}
use Rattle.pj_rule_keys.proofs.Written.{all_spelled, property_list_bytes, text_list_bytes, rule_bytes, five_put}
use Rattle.pj_rule_keys.proofs.put.put_rule.Goals as goal

pub returns-clause-put : goal.returns-clause-put
returns-clause-put c =
    let inside = c.rule.inside in
    let r : EffectiveRule = record { top = inside.top; row = inside.row; xpath = inside.xpath; properties = inside.properties; exclude = inside.exclude; include = inside.include } in
    let o = c.args.out.now.items in
    let p = c.put_row.new.out.items in
    let q = c.put_query.new.out.items in
    let m = c.put_property_list.new.out.items in
    let s = c.put_text_list.new.out.items in
    let t = c.put_text_list-2.new.out.items in
    let three : m ≡ q ++ property_list_bytes r.properties = c.in_ok-put_property_list.ensures.put ∙ ap (λ (l : List Property). q ++ property_list_bytes l) c.as_slice.ensures in
    let four : s ≡ m ++ text_list_bytes r.exclude = c.in_ok-put_text_list.ensures.put ∙ ap (λ (l : List Text). m ++ text_list_bytes l) c.as_slice-2.ensures in
    let five : t ≡ s ++ text_list_bytes r.include = c.in_ok-put_text_list-2.ensures.put ∙ ap (λ (l : List Text). s ++ text_list_bytes l) c.as_slice-3.ensures in
    let all : t ≡ o ++ all_spelled (rule_texts r) = five_put o p q m s t _ _ _ _ _ c.in_ok-put_row.ensures.put c.in_ok-put_query.ensures.put three four five ∙ ap (λ (l : List ℕ). o ++ l) (rule_bytes r) in
    subst (λ (x : EffectiveRule). t ≡ o ++ all_spelled (rule_texts x)) c.rule.view_is all

pub returns-clause-room : goal.returns-clause-room
returns-clause-room c =
    let inside = c.rule.inside in
    let r : EffectiveRule = record { top = inside.top; row = inside.row; xpath = inside.xpath; properties = inside.properties; exclude = inside.exclude; include = inside.include } in
    let row = c.in_ok-put_row.ensures.room in
    let query = c.in_ok-put_query.ensures.room in
    let fits : FitsKey r = record {
      name = row.0;
      rule_set = row.1;
      message = row.2;
      priority = query.0;
      xpath = query.1;
      property_count = subst (λ (l : List Property). length l < 2 ^ 64) c.as_slice.ensures c.in_ok-put_property_list.ensures.count;
      properties = subst (λ (l : List Property). All FitsProperty l) c.as_slice.ensures c.in_ok-put_property_list.ensures.room;
      exclude_count = subst (λ (l : List Text). length l < 2 ^ 64) c.as_slice-2.ensures c.in_ok-put_text_list.ensures.count;
      exclude = subst (λ (l : List Text). All HasRoom l) c.as_slice-2.ensures c.in_ok-put_text_list.ensures.room;
      include_count = subst (λ (l : List Text). length l < 2 ^ 64) c.as_slice-3.ensures c.in_ok-put_text_list-2.ensures.count;
      include = subst (λ (l : List Text). All HasRoom l) c.as_slice-3.ensures c.in_ok-put_text_list-2.ensures.room;
    } in
    subst (λ (x : EffectiveRule). FitsKey x) c.rule.view_is fits
