use Rattle.std.proofs.Common.{length, refl, Some}
use Rattle.std.proofs.lemmas.Option.{slice_get_read}
use Rattle.pj_peg.proofs.Started.{some_root, started, started_fails, started_steps}
use Rattle.pj_peg.proofs.runner.run.Goals as goal

pub returns-in-None-clause-fails : goal.returns-in-None-clause-fails
returns-in-None-clause-fails c = started_fails c.grammar.inside.rules.items _ c.grammar.inside.plan c.args.kinds.now c.grammar.invariant c.grammar.view_is c.index-root.result.now c.in_ok-end_at.field-0 (slice_get_read c.grammar.inside.plan.program.roots.items (length c.grammar.inside.plan.program.roots.items) 0 c.index-root.result.now refl (some_root c.grammar.inside.rules.items _ c.grammar.inside.plan c.args.kinds.now c.grammar.invariant c.grammar.view_is) c.index-root.ensures) c.in_ok-end_at.ensures.ends c.in-None.is

pub steps_of_call-requires-clause-first : goal.steps_of_call-requires-clause-first
steps_of_call-requires-clause-first c = started c.grammar.inside.rules.items _ c.grammar.inside.plan c.args.kinds.now c.grammar.invariant c.grammar.view_is c.index-root.result.now c.in_ok-end_at.field-0 (slice_get_read c.grammar.inside.plan.program.roots.items (length c.grammar.inside.plan.program.roots.items) 0 c.index-root.result.now refl (some_root c.grammar.inside.rules.items _ c.grammar.inside.plan c.args.kinds.now c.grammar.invariant c.grammar.view_is) c.index-root.ensures) c.in_ok-end_at.ensures.ends _ c.in-Some.is

pub of-requires-clause-spelled : goal.of-requires-clause-spelled
of-requires-clause-spelled c =
    let (d, x) = started c.grammar.inside.rules.items _ c.grammar.inside.plan c.args.kinds.now c.grammar.invariant c.grammar.view_is c.index-root.result.now c.in_ok-end_at.field-0 (slice_get_read c.grammar.inside.plan.program.roots.items (length c.grammar.inside.plan.program.roots.items) 0 c.index-root.result.now refl (some_root c.grammar.inside.rules.items _ c.grammar.inside.plan c.args.kinds.now c.grammar.invariant c.grammar.view_is) c.index-root.ensures) c.in_ok-end_at.ensures.ends (Some c.in-Some.to) c.in-Some.is in
    (d, c.in_ok-steps-in-Some.ensures.steps d x)

pub returns-clause-derives : goal.returns-clause-derives
returns-clause-derives c =
    started_steps c.grammar.inside.rules.items _ c.grammar.inside.plan c.args.kinds.now c.grammar.invariant c.grammar.view_is c.index-root.result.now c.in_ok-end_at.field-0 (slice_get_read c.grammar.inside.plan.program.roots.items (length c.grammar.inside.plan.program.roots.items) 0 c.index-root.result.now refl (some_root c.grammar.inside.rules.items _ c.grammar.inside.plan c.args.kinds.now c.grammar.invariant c.grammar.view_is) c.index-root.ensures) c.in_ok-end_at.ensures.ends c.in-Some.to c.in_ok-steps-in-Some.steps.items c.of.result c.in-Some.is c.in_ok-steps-in-Some.ensures.steps c.of.ensures

pub returns-clause-places : goal.returns-clause-places
returns-clause-places c = c.steps_are_in_text.ensures.steps_are_in_text _ c.args.kinds.now c.of.result (returns-clause-derives c)
