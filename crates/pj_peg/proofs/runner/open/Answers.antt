use Rattle.std.proofs.Common.{◌∙◌, refl, length, arith}
use Rattle.std.proofs.lemmas.Option.{slice_get_within, slice_get_read}
use Rattle.pj_peg_grammar.specs.Program.{form_at, forms_in, rules_of}
use Rattle.pj_peg.proofs.Safe.{root_form, rule_safe, roots_length}
use Rattle.pj_peg.proofs.Emitting.{inverted, one_from, opening}
use Rattle.pj_peg.proofs.runner.open.Goals as goal

pub index-root-requires : goal.index-root-requires
index-root-requires c =
    let (f, d, is, x, same) = inverted (rules_of c.args.plan.now.program) c.args.kinds.now _ _ _ c.requires.call.0 c.requires.call.1 in
    omega (arith, slice_get_within (rules_of c.args.plan.now.program) c.args.call.rule f is, roots_length c.args.plan.now.program c.args.kinds.now, c.args.plan.now.program.roots.ok.0)

pub add_calls-requires-clause-root : goal.add_calls-requires-clause-root
add_calls-requires-clause-root c =
    let (f, d, is, x, same) = inverted (rules_of c.args.plan.now.program) c.args.kinds.now _ _ _ c.requires.call.0 c.requires.call.1 in
    let lt = slice_get_within (rules_of c.args.plan.now.program) c.args.call.rule f is in
    let len = roots_length c.args.plan.now.program c.args.kinds.now in
    c.requires.plan.program_is.there c.args.call.rule c.index-root.result.now (slice_get_read c.args.plan.now.program.roots.items (length c.args.plan.now.program.roots.items) c.args.call.rule c.index-root.result.now refl (omega arith) c.index-root.ensures)

pub add_calls-requires-clause-safe : goal.add_calls-requires-clause-safe
add_calls-requires-clause-safe c =
    let (f, d, is, x, same) = inverted (rules_of c.args.plan.now.program) c.args.kinds.now _ _ _ c.requires.call.0 c.requires.call.1 in
    let lt = slice_get_within (rules_of c.args.plan.now.program) c.args.call.rule f is in
    let len = roots_length c.args.plan.now.program c.args.kinds.now in
    rule_safe c.args.plan.now.program c.args.kinds.now c.args.call.rule _ c.requires.plan.well_formed
    (root_form c.args.plan.now.program c.args.call.rule c.index-root.result.now (slice_get_read c.args.plan.now.program.roots.items (length c.args.plan.now.program.roots.items) c.args.call.rule c.index-root.result.now refl (omega arith) c.index-root.ensures))

pub returns-clause-opens : goal.returns-clause-opens
returns-clause-opens c =
    let (f, d, is, x, same) = inverted (rules_of c.args.plan.now.program) c.args.kinds.now _ _ _ c.requires.call.0 c.requires.call.1 in
    let lt = slice_get_within (rules_of c.args.plan.now.program) c.args.call.rule f is in
    let len = roots_length c.args.plan.now.program c.args.kinds.now in
    let root = root_form c.args.plan.now.program c.args.call.rule c.index-root.result.now (slice_get_read c.args.plan.now.program.roots.items (length c.args.plan.now.program.roots.items) c.args.call.rule c.index-root.result.now refl (omega arith) c.index-root.ensures) in
    let one = one_from (rules_of c.args.plan.now.program) c.args.kinds.now (λ r i lt. c.one_outcome.ensures.one_outcome (rules_of c.args.plan.now.program) c.args.kinds.now r i c.requires.plan.well_formed lt) in
    opening (rules_of c.args.plan.now.program) c.args.kinds.now one c.args.call (form_at (forms_in c.args.plan.now.program.nodes.items) c.index-root.result.now) c.args.steps.now.items c.push.new.self.items c.args.stack.now.items c.push-2.new.self.items c.stack_up.new.stack.items
    c.clear.new.self.items c.add_calls.new.calls.items c.len-number.result root c.requires.call c.in_ok-push.ensures.items c.in_ok-push-2.ensures.items (c.len-number.ensures ∙ c.args.steps.now.ok.0)
    c.clear.ensures.items c.in_ok-_end._end c.in_ok-_end.ensures.collects c.in_ok-stack_up.ensures
