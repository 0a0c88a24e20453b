use Rattle.std.proofs.Common.{◌≡◌, ◌≤◌, ◌<◌, ◌++◌, ◌∙◌, List, [], ◌∷◌, Ok, add-one, ap, arith, false, get_or, length, map, refl, rules, subst, sym, take}
use Rattle.std.proofs.lemmas.List.{map-append, take_all}
use Rattle.std.proofs.lemmas.List.Elements.{All-get_or}
use Rattle.pj_findings.specs.declared.run.RuleRun.{RuleRun}
use Rattle.pj_names.proofs.AskingLaws.{asks-stop}
use Rattle.pj_rule_sets.specs.Active.{is_active}
use Rattle.pj_rule_sets.specs.Rules.{EffectiveRule}
use Rattle.pj_workers.specs.Chosen.{chosen}
use Rattle.pj_workers.specs.FileMeaning.{rule_at}
use Rattle.pj_workers.specs.JavaReplies.{java_replies}
use Rattle.pj_workers.specs.Results.{RestsOn, came_to}
use Rattle.pj_workers.specs.Rules.{IsRuleOf, Rule}
use Rattle.pj_workers.specs.Views.{file_seen}
use Rattle.pj_workers.proofs.Activity.{active_at, known_asks, known_rests}
use Rattle.pj_workers.proofs.Chosen.{chosen_beside, chosen_short}
use Rattle.pj_workers.proofs.Resting.{AreRested, rests_before}
use Rattle.pj_workers.proofs.Running.{turn_begin, turn_ends, turn_refused, turn_stops, turn_then, zip_last}
use Rattle.pj_workers.proofs.runs.runs_with.Goals as goal

pub returns-in_err-active-clause-asks : goal.returns-in_err-active-clause-asks
returns-in_err-active-clause-asks g c = λ meant are. asks-stop (search rules)

pub rule_run-requires-clause-right : goal.rule_run-requires-clause-right
rule_run-requires-clause-right g c = c.loop-number.invariant.right

pub loop-number-init : goal.loop-number-init
loop-number-init g c =
    let meaning = rule_at java_replies c.args.file.now.path.now (Ok (file_seen c.args.file.now)) in
    let t = g.O.Oracle.tells c.args.oracle.now in
    record {
      asks = λ meant are. turn_begin meaning (chosen c.args.which.now meant) t (came_to c.new-runs.result) (ap came_to c.new-runs.ensures);
      rest = λ meant are. subst (λ (runs : List RuleRun). AreRested t meaning [] runs) (sym c.new-runs.ensures) tt;
      right = c.requires.right;
    }

pub loop-number-preserved : goal.loop-number-preserved
loop-number-preserved g c =
    let meaning = rule_at java_replies c.args.file.now.path.now (Ok (file_seen c.args.file.now)) in
    let R = IsRuleOf c.args.file.now.marker.now in
    let t = g.O.Oracle.tells c.args.oracle.now in
    let u = g.O.Oracle.tells c.loop-number.oracle in
    let v = g.O.Oracle.tells c.rule_run.new.oracle in
    let i = c.loop-number.number-index in
    let which = c.args.which.now in
    let n = get_or which i 0 in
    let rule = c.index-rules-place.result in
    let run = c.in_ok-of_rule.of_rule in
    let kept = c.loop-number.invariant in
    let each : c.as_slice.result.now ≡ map (λ (r : EffectiveRule). is_active r c.args.file.now.path.now) c.args.rules.now = search rules in
    let low = All-get_or (λ n. n < length c.args.rules.now) which i 0 c.loop-number-test.true c.requires.numbers in
    let known = active_at c.args.file.now.path.now c.args.rules.now c.as_slice.result.now n rule false each low c.index-rules-place.is in
    let grown : c.loop-number.runs ++ run ∷ [] ≡ c.push.new.self = search rules in
    let come : came_to c.loop-number.runs ++ run.rows ∷ [] ≡ came_to c.push.new.self = sym (map-append (λ (r : RuleRun). r.rows) c.loop-number.runs (run ∷ [])) ∙ ap came_to grown in
    record {
      asks = λ meant are.
          let next = chosen_beside R c.args.rules.now meant which i n rule are c.requires.numbers c.loop-number-test.true refl c.index-rules-place.is in
          turn_then meaning (chosen which meant) t (came_to c.loop-number.runs) (came_to c.push.new.self) i next.0 run.rows u v next.2 (kept.asks meant are)
          (known_asks c.args.file.now.marker.now c.args.file.now.path.now (file_seen c.args.file.now) rule next.0 _ next.1 known (c.in_ok-of_rule.ensures.asks next.0 next.1)) come;
      rest = λ meant are.
          let next = chosen_beside R c.args.rules.now meant which i n rule are c.requires.numbers c.loop-number-test.true refl c.index-rules-place.is in
          let so_far = kept.asks meant are in
          let one : RestsOn t (meaning next.0) run.rows run.names = rests_before t u (meaning next.0) run.rows run.names so_far.same_told so_far.same_world
          (known_rests c.args.file.now.marker.now c.args.file.now.path.now (file_seen c.args.file.now) rule next.0 _ next.1 known (c.in_ok-of_rule.ensures.rests next.0 next.1)) in
          rw (add-one) (subst (λ (rs : List Rule). AreRested t meaning rs c.push.new.self) (sym next.2.taken)
          (subst (λ (runs : List RuleRun). AreRested t meaning (take i (chosen which meant) ++ next.0 ∷ []) runs) grown
          (zip_last (λ rule run. RestsOn t (meaning rule) run.rows run.names) (take i (chosen which meant)) c.loop-number.runs next.0 run (kept.rest meant are) one)));
      right = c.rule_run.ensures.right;
    }

pub returns-in_err-of_rule-clause-asks : goal.returns-in_err-of_rule-clause-asks
returns-in_err-of_rule-clause-asks g c = λ meant are.
    let meaning = rule_at java_replies c.args.file.now.path.now (Ok (file_seen c.args.file.now)) in
    let t = g.O.Oracle.tells c.args.oracle.now in
    let i = c.loop-number.number-index in
    let which = c.args.which.now in
    let n = get_or which i 0 in
    let rule = c.index-rules-place.result in
    let each : c.as_slice.result.now ≡ map (λ (r : EffectiveRule). is_active r c.args.file.now.path.now) c.args.rules.now = search rules in
    let low = All-get_or (λ n. n < length c.args.rules.now) which i 0 c.loop-number-test.true c.requires.numbers in
    let known = active_at c.args.file.now.path.now c.args.rules.now c.as_slice.result.now n rule false each low c.index-rules-place.is in
    let next = chosen_beside (IsRuleOf c.args.file.now.marker.now) c.args.rules.now meant which i n rule are c.requires.numbers c.loop-number-test.true refl c.index-rules-place.is in
    turn_refused meaning (chosen which meant) t (came_to c.loop-number.runs) i next.0 c.in_err-of_rule.field-0.0 (g.O.Oracle.tells c.loop-number.oracle) (g.O.Oracle.tells c.rule_run.new.oracle) _ next.2
    (c.loop-number.invariant.asks meant are)
    (known_asks c.args.file.now.marker.now c.args.file.now.path.now (file_seen c.args.file.now) rule next.0 _ next.1 known (c.in_err-of_rule.ensures.asks next.0 next.1)) (search rules)

pub returns-in_err-push-clause-asks : goal.returns-in_err-push-clause-asks
returns-in_err-push-clause-asks g c = λ meant are.
    let meaning = rule_at java_replies c.args.file.now.path.now (Ok (file_seen c.args.file.now)) in
    let t = g.O.Oracle.tells c.args.oracle.now in
    let i = c.loop-number.number-index in
    let which = c.args.which.now in
    let n = get_or which i 0 in
    let rule = c.index-rules-place.result in
    let each : c.as_slice.result.now ≡ map (λ (r : EffectiveRule). is_active r c.args.file.now.path.now) c.args.rules.now = search rules in
    let low = All-get_or (λ n. n < length c.args.rules.now) which i 0 c.loop-number-test.true c.requires.numbers in
    let known = active_at c.args.file.now.path.now c.args.rules.now c.as_slice.result.now n rule false each low c.index-rules-place.is in
    let next = chosen_beside (IsRuleOf c.args.file.now.marker.now) c.args.rules.now meant which i n rule are c.requires.numbers c.loop-number-test.true refl c.index-rules-place.is in
    turn_stops meaning (chosen which meant) t (came_to c.loop-number.runs) i next.0 c.in_ok-of_rule.of_rule.rows (g.O.Oracle.tells c.loop-number.oracle) (g.O.Oracle.tells c.rule_run.new.oracle) _ next.2
    (c.loop-number.invariant.asks meant are)
    (known_asks c.args.file.now.marker.now c.args.file.now.path.now (file_seen c.args.file.now) rule next.0 _ next.1 known (c.in_ok-of_rule.ensures.asks next.0 next.1)) (search rules)

pub returns-clause-asks : goal.returns-clause-asks
returns-clause-asks g c = λ meant are.
    let meaning = rule_at java_replies c.args.file.now.path.now (Ok (file_seen c.args.file.now)) in
    let far : length c.args.which.now ≤ c.loop-number.number-index = omega (arith, c.loop-number-test.false) in
    let short = chosen_short c.args.which.now meant in
    turn_ends meaning (chosen c.args.which.now meant) (g.O.Oracle.tells c.args.oracle.now) (came_to c.loop-number.runs) c.loop-number.number-index (g.O.Oracle.tells c.loop-number.oracle) _
    (omega (arith, far, short)) (c.loop-number.invariant.asks meant are) refl

pub returns-clause-rest : goal.returns-clause-rest
returns-clause-rest g c = λ meant are.
    let meaning = rule_at java_replies c.args.file.now.path.now (Ok (file_seen c.args.file.now)) in
    let far : length c.args.which.now ≤ c.loop-number.number-index = omega (arith, c.loop-number-test.false) in
    let short = chosen_short c.args.which.now meant in
    subst (λ (rs : List Rule). AreRested (g.O.Oracle.tells c.args.oracle.now) meaning rs c.loop-number.runs) (take_all c.loop-number.number-index (chosen c.args.which.now meant) (omega (arith, far, short)))
    (c.loop-number.invariant.rest meant are)
