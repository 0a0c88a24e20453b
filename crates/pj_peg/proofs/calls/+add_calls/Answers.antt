use Rattle.std.proofs.Common.{◌∙◌, sym, refl, arith, Some, None}
use Rattle.std.proofs.lemmas.Result.{IfOk-weaker}
use Rattle.pj_peg_grammar.specs.declared.program.Node.TheVariants.{Rule, Seq, Choice, Star, Maybe}
use Rattle.pj_peg_grammar.specs.Program.{form_at, forms_in, rules_of}
use Rattle.pj_peg.proofs.Safe.{fails_ruled_out}
use Rattle.pj_peg.proofs.Going.{node_parts, at_index, star_moves, seq_part_safe, choice_part_safe, star_part_safe, maybe_part_safe}
use Rattle.pj_peg.proofs.Collecting.{collecting_form, collecting_node, collected, collects_within, collects_ends, node_ends, nothing_collected, plain, plain_done, rule_done, seq_collects, seq_fails, choice_collects, choice_done, star_collects, star_done, maybe_done, maybe_some_done}
use Rattle.pj_peg.proofs.calls.+add_calls.Goals as goal

pub returns-then-is_ruled_out-clause-collects : goal.returns-then-is_ruled_out-clause-collects
returns-then-is_ruled_out-clause-collects t c =
    nothing_collected c.args.plan.now.program c.args.kinds.now _ c.args.from _ (fails_ruled_out c.args.plan.now.program c.args.kinds.now (form_at (forms_in c.args.plan.now.program.nodes.items) c.args.root) c.args.from c.requires.plan.well_formed c.requires.safe c.if-is_ruled_out.ensures)

pub returns-in-Some : goal.returns-in-Some
returns-in-Some t c =
    let on = collecting_node c.args.plan.now.program c.args.kinds.now _ _ _ _ _ _ _ (Rule c.in-Rule.rule) c.requires.plan.program_is c.loop-rule.invariant.there c.index.ensures c.in-Rule.is c.loop-rule.invariant.collecting in
    record { sound = c.in_ok-end_at-in-Rule.ensures.sound; collects = rule_done c.args.plan.now.program c.args.kinds.now _ _ _ c.in-Rule.rule _ c.in-Some.to _ _ on (node_ends c.args.plan.now.program c.args.kinds.now _ _ _ (Rule c.in-Rule.rule) _ _ c.requires.plan.program_is c.loop-rule.invariant.there c.index.ensures c.in-Rule.is c.in-Some.is c.in_ok-end_at-in-Rule.ensures.ends) c.in_ok-push-in-Some.ensures.items }

pub add_calls-requires : goal.add_calls-requires
add_calls-requires t c =
    let on = collecting_node c.args.plan.now.program c.args.kinds.now _ _ _ _ _ _ _ (Seq c.in-Seq.first c.in-Seq.rest) c.requires.plan.program_is c.loop-rule.invariant.there c.index.ensures c.in-Seq.is c.loop-rule.invariant.collecting in
    let parts = node_parts c.args.plan.now.program _ _ (Seq c.in-Seq.first c.in-Seq.rest) c.requires.plan.program_is c.loop-rule.invariant.there c.index.ensures c.in-Seq.is in
    (omega (arith, c.decreases, parts.0, c.loop-rule.invariant.down), (c.requires.small, (c.requires.plan, (omega (arith, parts.0, c.loop-rule.invariant.there), (seq_part_safe c.args.plan.now.program c.args.kinds.now _ _ on.safe, (on.within, c.loop-rule.invariant.sound))))))

pub returns-in-None-2-clause-collects : goal.returns-in-None-2-clause-collects
returns-in-None-2-clause-collects t c =
    let on = collecting_node c.args.plan.now.program c.args.kinds.now _ _ _ _ _ _ _ (Seq c.in-Seq.first c.in-Seq.rest) c.requires.plan.program_is c.loop-rule.invariant.there c.index.ensures c.in-Seq.is c.loop-rule.invariant.collecting in
    seq_fails c.args.plan.now.program c.args.kinds.now _ _ _ _ _ _ _ _ on (collected c.args.plan.now.program c.args.kinds.now _ _ _ _ _ _ c.in-None-2.is c.in_ok-add_calls-in-Seq.ensures.collects)

pub loop-rule-smaller-in-Some-2 : goal.loop-rule-smaller-in-Some-2
loop-rule-smaller-in-Some-2 t c =
    let on = collecting_node c.args.plan.now.program c.args.kinds.now _ _ _ _ _ _ _ (Seq c.in-Seq.first c.in-Seq.rest) c.requires.plan.program_is c.loop-rule.invariant.there c.index.ensures c.in-Seq.is c.loop-rule.invariant.collecting in
    let parts = node_parts c.args.plan.now.program _ _ (Seq c.in-Seq.first c.in-Seq.rest) c.requires.plan.program_is c.loop-rule.invariant.there c.index.ensures c.in-Seq.is in
    let bounds = collects_within c.args.plan.now.program c.args.kinds.now _ _ c.in-Some-2.end _ _ on.within (collected c.args.plan.now.program c.args.kinds.now _ _ _ _ _ _ c.in-Some-2.is c.in_ok-add_calls-in-Seq.ensures.collects) in
    omega (arith, parts.1, bounds.0, bounds.1)

pub loop-rule-preserved-in-Some-2 : goal.loop-rule-preserved-in-Some-2
loop-rule-preserved-in-Some-2 t c =
    let on = collecting_node c.args.plan.now.program c.args.kinds.now _ _ _ _ _ _ _ (Seq c.in-Seq.first c.in-Seq.rest) c.requires.plan.program_is c.loop-rule.invariant.there c.index.ensures c.in-Seq.is c.loop-rule.invariant.collecting in
    let parts = node_parts c.args.plan.now.program _ _ (Seq c.in-Seq.first c.in-Seq.rest) c.requires.plan.program_is c.loop-rule.invariant.there c.index.ensures c.in-Seq.is in
    record { there = omega (arith, parts.1, c.loop-rule.invariant.there); down = omega (arith, parts.1, c.loop-rule.invariant.down); collecting = seq_collects c.args.plan.now.program c.args.kinds.now _ _ _ _ _ _ _ _ _ on (collected c.args.plan.now.program c.args.kinds.now _ _ _ _ _ _ c.in-Some-2.is c.in_ok-add_calls-in-Seq.ensures.collects); sound = c.in_ok-add_calls-in-Seq.ensures.sound }

pub add_calls-requires-in-Choice : goal.add_calls-requires-in-Choice
add_calls-requires-in-Choice t c =
    let on = collecting_node c.args.plan.now.program c.args.kinds.now _ _ _ _ _ _ _ (Choice c.in-Choice.first c.in-Choice.others) c.requires.plan.program_is c.loop-rule.invariant.there c.index.ensures c.in-Choice.is c.loop-rule.invariant.collecting in
    let parts = node_parts c.args.plan.now.program _ _ (Choice c.in-Choice.first c.in-Choice.others) c.requires.plan.program_is c.loop-rule.invariant.there c.index.ensures c.in-Choice.is in
    (omega (arith, c.decreases, parts.0, c.loop-rule.invariant.down), (c.requires.small, (c.requires.plan, (omega (arith, parts.0, c.loop-rule.invariant.there), (choice_part_safe c.args.plan.now.program c.args.kinds.now _ _ on.safe, (on.within, c.loop-rule.invariant.sound))))))

pub loop-rule-smaller-in-None-3 : goal.loop-rule-smaller-in-None-3
loop-rule-smaller-in-None-3 t c =
    let parts = node_parts c.args.plan.now.program _ _ (Choice c.in-Choice.first c.in-Choice.others) c.requires.plan.program_is c.loop-rule.invariant.there c.index.ensures c.in-Choice.is in
    omega (arith, parts.1)

pub loop-rule-preserved-in-None-3 : goal.loop-rule-preserved-in-None-3
loop-rule-preserved-in-None-3 t c =
    let on = collecting_node c.args.plan.now.program c.args.kinds.now _ _ _ _ _ _ _ (Choice c.in-Choice.first c.in-Choice.others) c.requires.plan.program_is c.loop-rule.invariant.there c.index.ensures c.in-Choice.is c.loop-rule.invariant.collecting in
    let parts = node_parts c.args.plan.now.program _ _ (Choice c.in-Choice.first c.in-Choice.others) c.requires.plan.program_is c.loop-rule.invariant.there c.index.ensures c.in-Choice.is in
    record { there = omega (arith, parts.1, c.loop-rule.invariant.there); down = omega (arith, parts.1, c.loop-rule.invariant.down); collecting = choice_collects c.args.plan.now.program c.args.kinds.now _ _ _ _ _ _ c.len-count.result _ _ _ on (collected c.args.plan.now.program c.args.kinds.now _ _ _ _ _ _ c.in-None-3.is c.in_ok-add_calls-in-Choice.ensures.collects) (c.len-count.ensures ∙ c.loop-rule.calls.ok.0) c.truncate.ensures.items; sound = c.in_ok-add_calls-in-Choice.ensures.sound }

pub returns-in-Some-3-clause-collects : goal.returns-in-Some-3-clause-collects
returns-in-Some-3-clause-collects t c =
    let on = collecting_node c.args.plan.now.program c.args.kinds.now _ _ _ _ _ _ _ (Choice c.in-Choice.first c.in-Choice.others) c.requires.plan.program_is c.loop-rule.invariant.there c.index.ensures c.in-Choice.is c.loop-rule.invariant.collecting in
    choice_done c.args.plan.now.program c.args.kinds.now _ _ _ _ _ _ _ _ _ on (collected c.args.plan.now.program c.args.kinds.now _ _ _ _ _ _ c.in-Some-3.is c.in_ok-add_calls-in-Choice.ensures.collects)

pub add_calls-requires-in-Star : goal.add_calls-requires-in-Star
add_calls-requires-in-Star t c =
    let on = collecting_node c.args.plan.now.program c.args.kinds.now _ _ _ _ _ _ _ (Star c.in-Star.part c.in-Star.field-1) c.requires.plan.program_is c.loop-rule.invariant.there c.index.ensures c.in-Star.is c.loop-rule.invariant.collecting in
    let parts = node_parts c.args.plan.now.program _ _ (Star c.in-Star.part c.in-Star.field-1) c.requires.plan.program_is c.loop-rule.invariant.there c.index.ensures c.in-Star.is in
    (omega (arith, c.decreases, parts.0, c.loop-rule.invariant.down), (c.requires.small, (c.requires.plan, (omega (arith, parts.0, c.loop-rule.invariant.there), (star_part_safe c.args.plan.now.program c.args.kinds.now _ on.safe, (on.within, c.loop-rule.invariant.sound))))))

pub returns-in-None-4-clause-collects : goal.returns-in-None-4-clause-collects
returns-in-None-4-clause-collects t c =
    let on = collecting_node c.args.plan.now.program c.args.kinds.now _ _ _ _ _ _ _ (Star c.in-Star.part c.in-Star.field-1) c.requires.plan.program_is c.loop-rule.invariant.there c.index.ensures c.in-Star.is c.loop-rule.invariant.collecting in
    star_done c.args.plan.now.program c.args.kinds.now _ _ _ _ _ c.len-count-in-Star.result _ _ _ on (collected c.args.plan.now.program c.args.kinds.now _ _ _ _ _ _ c.in-None-4.is c.in_ok-add_calls-in-Star.ensures.collects) (c.len-count-in-Star.ensures ∙ c.loop-rule.calls.ok.0) c.truncate-in-None-4.ensures.items

pub loop-rule-smaller : goal.loop-rule-smaller
loop-rule-smaller t c =
    let on = collecting_node c.args.plan.now.program c.args.kinds.now _ _ _ _ _ _ _ (Star c.in-Star.part c.in-Star.field-1) c.requires.plan.program_is c.loop-rule.invariant.there c.index.ensures c.in-Star.is c.loop-rule.invariant.collecting in
    let more = star_moves c.args.plan.now.program c.args.kinds.now _ _ c.in-Some-4.end on.safe (collects_ends c.args.plan.now.program c.args.kinds.now _ _ c.in-Some-4.end _ _ (collected c.args.plan.now.program c.args.kinds.now _ _ _ _ _ _ c.in-Some-4.is c.in_ok-add_calls-in-Star.ensures.collects)) in
    omega (arith, more.0, more.1)

pub loop-rule-preserved : goal.loop-rule-preserved
loop-rule-preserved t c =
    let on = collecting_node c.args.plan.now.program c.args.kinds.now _ _ _ _ _ _ _ (Star c.in-Star.part c.in-Star.field-1) c.requires.plan.program_is c.loop-rule.invariant.there c.index.ensures c.in-Star.is c.loop-rule.invariant.collecting in
    record { there = c.loop-rule.invariant.there; down = c.loop-rule.invariant.down; collecting = collecting_form c.args.plan.now.program c.args.kinds.now (sym (c.requires.plan.program_is.stands c.loop-rule.node (Star c.in-Star.part c.in-Star.field-1) (at_index _ _ _ _ c.loop-rule.invariant.there c.index.ensures c.in-Star.is))) (star_collects c.args.plan.now.program c.args.kinds.now _ _ _ _ _ _ _ _ on (collected c.args.plan.now.program c.args.kinds.now _ _ _ _ _ _ c.in-Some-4.is c.in_ok-add_calls-in-Star.ensures.collects)); sound = c.in_ok-add_calls-in-Star.ensures.sound }

pub add_calls-requires-in-Maybe : goal.add_calls-requires-in-Maybe
add_calls-requires-in-Maybe t c =
    let on = collecting_node c.args.plan.now.program c.args.kinds.now _ _ _ _ _ _ _ (Maybe c.in-Maybe.part) c.requires.plan.program_is c.loop-rule.invariant.there c.index.ensures c.in-Maybe.is c.loop-rule.invariant.collecting in
    let parts = node_parts c.args.plan.now.program _ _ (Maybe c.in-Maybe.part) c.requires.plan.program_is c.loop-rule.invariant.there c.index.ensures c.in-Maybe.is in
    (omega (arith, c.decreases, parts, c.loop-rule.invariant.down), (c.requires.small, (c.requires.plan, (omega (arith, parts, c.loop-rule.invariant.there), (maybe_part_safe c.args.plan.now.program c.args.kinds.now _ on.safe, (on.within, c.loop-rule.invariant.sound))))))

pub returns-in-None-5-clause-collects : goal.returns-in-None-5-clause-collects
returns-in-None-5-clause-collects t c =
    let on = collecting_node c.args.plan.now.program c.args.kinds.now _ _ _ _ _ _ _ (Maybe c.in-Maybe.part) c.requires.plan.program_is c.loop-rule.invariant.there c.index.ensures c.in-Maybe.is c.loop-rule.invariant.collecting in
    maybe_done c.args.plan.now.program c.args.kinds.now _ _ _ _ _ c.len-count-in-Maybe.result _ _ _ on (collected c.args.plan.now.program c.args.kinds.now _ _ _ _ _ _ c.in-None-5.is c.in_ok-add_calls-in-Maybe.ensures.collects) (c.len-count-in-Maybe.ensures ∙ c.loop-rule.calls.ok.0) c.truncate-in-None-5.ensures.items

pub returns-in-Some-5-clause-collects : goal.returns-in-Some-5-clause-collects
returns-in-Some-5-clause-collects t c =
    let on = collecting_node c.args.plan.now.program c.args.kinds.now _ _ _ _ _ _ _ (Maybe c.in-Maybe.part) c.requires.plan.program_is c.loop-rule.invariant.there c.index.ensures c.in-Maybe.is c.loop-rule.invariant.collecting in
    maybe_some_done c.args.plan.now.program c.args.kinds.now _ _ _ _ _ _ _ _ on (collected c.args.plan.now.program c.args.kinds.now _ _ _ _ _ _ c.in-Some-5.is c.in_ok-add_calls-in-Maybe.ensures.collects)

pub returns-in-Token : goal.returns-in-Token
returns-in-Token t c =
    let (n, is, empty) = plain (rules_of c.args.plan.now.program) c.args.kinds.now c.index.result.now c.in-Token.is in
    let on = collecting_node c.args.plan.now.program c.args.kinds.now _ _ _ _ _ _ _ n c.requires.plan.program_is c.loop-rule.invariant.there c.index.ensures is c.loop-rule.invariant.collecting in
    record { sound = c.end_at-in-Token.ensures.sound; collects = IfOk-weaker c.end_at-in-Token.result _ _ (λ o h. plain_done c.args.plan.now.program c.args.kinds.now _ _ _ _ _ _ o on (λ k d x. empty (forms_in c.args.plan.now.program.nodes.items) c.loop-rule.place k d x) (node_ends c.args.plan.now.program c.args.kinds.now _ _ _ n o o c.requires.plan.program_is c.loop-rule.invariant.there c.index.ensures is refl h)) c.end_at-in-Token.ensures.ends }
