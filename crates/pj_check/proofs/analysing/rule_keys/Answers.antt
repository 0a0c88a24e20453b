use Rattle.std.proofs.Common.{◌≡◌, ◌∙◌, ◌≤◌, ◌<◌, ◌++◌, List, [], ◌∷◌, length, map, ap, arith, rules, subst}
use Rattle.std.specs.List.{All}
use Rattle.std.proofs.lemmas.List.{take_all}
use Rattle.pj_rule_keys.specs.Keys.{FitsKey, HasRoom, key_of}
use Rattle.pj_rule_sets.specs.Rules.{EffectiveRule}
use Rattle.pj_check.proofs.Keys.{one_key_more, room_more}
use Rattle.pj_check.proofs.analysing.rule_keys.Goals as goal

pub rule_key-requires : goal.rule_key-requires
rule_key-requires c =
    let count : c.len-count.result ≡ length c.args.rules.now.rules = c.len-count.ensures ∙ ap length c.rules.ensures in omega arith

pub loop-number-preserved : goal.loop-number-preserved
loop-number-preserved c =
    let set = c.args.rules.now in
    let at = c.loop-number.number in
    let key = c.in_ok-rule_key.field-0 in
    let count : c.len-count.result ≡ length set.rules = c.len-count.ensures ∙ ap length c.rules.ensures in
    let inside : at < length set.rules = omega arith in
    let grown : c.push.new.self ≡ c.loop-number.keys ++ key ∷ [] = search rules in
    record {
      keys = one_key_more set.marker set.rules at c.loop-number.keys c.push.new.self key inside c.in_ok-rule_key.ensures.value c.loop-number.invariant.keys grown;
      room = room_more set.marker set.rules at inside c.loop-number.invariant.room c.in_ok-rule_key.ensures.room;
    }

pub returns-clause-keys : goal.returns-clause-keys
returns-clause-keys c =
    let set = c.args.rules.now in
    let count : c.len-count.result ≡ length set.rules = c.len-count.ensures ∙ ap length c.rules.ensures in
    let whole : length set.rules ≤ c.loop-number.number = omega arith in
    c.loop-number.invariant.keys ∙ ap (map (λ (rule : EffectiveRule). key_of set.marker rule)) (take_all c.loop-number.number set.rules whole)

pub returns-clause-room : goal.returns-clause-room
returns-clause-room c =
    let set = c.args.rules.now in
    let count : c.len-count.result ≡ length set.rules = c.len-count.ensures ∙ ap length c.rules.ensures in
    let whole : length set.rules ≤ c.loop-number.number = omega arith in
    subst (λ (l : List EffectiveRule). All (λ (rule : EffectiveRule). HasRoom set.marker × FitsKey rule) l) (take_all c.loop-number.number set.rules whole) c.loop-number.invariant.room
