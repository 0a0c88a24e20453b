use Rattle.std.proofs.Common.{◌≡◌, ◌<◌, ◌++◌, ◌∙◌, ℕ, Bool, List, [], ◌∷◌, ap, arith, false, filter, get_or, length, map, rules}
use Rattle.std.specs.Prelude.{if◌then◌else◌}
use Rattle.std.proofs.lemmas.List.{length-map}
use Rattle.pj_rule_sets.specs.Active.{is_active, is_active_at}
use Rattle.pj_rule_sets.specs.Rules.{EffectiveRule}
use Rattle.pj_workers.specs.Chosen.{numbers_to}
use Rattle.pj_workers.proofs.Ran.{active_more}
use Rattle.pj_workers.proofs.numbers.active_numbers.Goals as goal

pub loop-number-preserved : goal.loop-number-preserved
loop-number-preserved c =
    let set = c.args.rules.now in
    let path = c.args.path.now in
    let i = c.loop-number.number in
    let b : Bool = get_or c.as_slice-flags.result.now i false in
    let active : EffectiveRule → Bool = λ rule. is_active rule path in
    let each : c.as_slice-flags.result.now ≡ map active set.rules = search rules in
    let long : length c.as_slice-flags.result.now ≡ length set.rules = ap length each ∙ length-map set.rules active in
    let below : i < length set.rules = omega (arith, long) in
    let put : c.put_number.new.numbers ≡ (if b then c.loop-number.numbers ++ i ∷ [] else c.loop-number.numbers) = search rules in
    active_more set path i b false c.loop-number.numbers c.put_number.new.numbers below (ap (λ (l : List Bool). get_or l i false) each) c.loop-number.invariant put

pub returns : goal.returns
returns c =
    let set = c.args.rules.now in
    let path = c.args.path.now in
    let active : EffectiveRule → Bool = λ rule. is_active rule path in
    let each : c.as_slice-flags.result.now ≡ map active set.rules = search rules in
    let long : length c.as_slice-flags.result.now ≡ length set.rules = ap length each ∙ length-map set.rules active in
    let ends : c.loop-number.number ≡ length set.rules = omega (arith, long) in
    c.loop-number.invariant ∙ ap (λ (n : ℕ). filter (λ k. is_active_at set k path) (numbers_to n)) ends
