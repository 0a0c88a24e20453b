use Rattle.std.proofs.Common.{◌≡◌, ℕ, ◌+◌, ◌-◌, ◌*◌, ◌<◌, ◌∙◌, length, ap, subst, refl, arith, Some, None}
use Rattle.std.specs.Prelude.{slice_get}
use Rattle.std.proofs.lemmas.Option.{slice_get_read, slice_get_within}
use Rattle.std.proofs.lemmas.Result.{IfOk-weaker}
use Rattle.pj_peg_grammar.specs.declared.program.Node.TheVariants.{Token, Any, Rule, Nothing, Never, Seq, Choice, Star, Maybe, And, Not}
use Rattle.pj_peg_grammar.specs.Derivation.{no_tree}
use Rattle.pj_peg_grammar.specs.Derives.{any_is, any_not, nothing_to, never_fails}
use Rattle.pj_peg_grammar.specs.Program.{form_at, forms_in, rules_of}
use Rattle.pj_peg.specs.Ends.{Ends}
use Rattle.pj_peg.specs.Slots.{column_form}
use Rattle.pj_peg.proofs.Going.{starts, on_node, node_parts, become, seq_part_safe, choice_part_safe, star_part_safe, maybe_part_safe, ahead_part_safe, not_part_safe, seq_on, seq_stops, choice_on, choice_stops, star_on, star_stops, maybe_ends, maybe_takes, ahead_fails, ahead_holds, not_holds, not_fails}
use Rattle.pj_peg.proofs.Safe.{fits, fails_ruled_out}
use Rattle.pj_peg.proofs.Columns.{column_rule, column_of_star}
use Rattle.pj_peg.proofs.Searching.{code_fits, sound_set, root_safe, root_ends, part_safe, part_ends}
use Rattle.pj_peg.proofs.Depth.{deeper}
use Rattle.pj_peg.proofs.evaluate.+ends.Goals as goal

pub end_of-returns-in-Token-clause-ends : goal.end_of-returns-in-Token-clause-ends
end_of-returns-in-Token-clause-ends t c =
    let on = on_node c.args.plan.now.program c.args.kinds.now _ _ _ _ _ (Token c.in-Token.kind) c.requires.plan.program_is c.loop-kind.invariant.there c.index.ensures c.in-Token.is c.loop-kind.invariant.on in
    on.onto c.end_of_token.result (c.end_of_token.ensures (rules_of c.args.plan.now.program))

pub end_of-returns-then-place-kinds-clause-ends : goal.end_of-returns-then-place-kinds-clause-ends
end_of-returns-then-place-kinds-clause-ends t c =
    let on = on_node c.args.plan.now.program c.args.kinds.now _ _ _ _ _ (Any) c.requires.plan.program_is c.loop-kind.invariant.there c.index.ensures c.in-Any.is c.loop-kind.invariant.on in
    on.onto (Some (c.loop-kind.place + 1)) (no_tree, any_is c.if-place-kinds.true)

pub end_of-returns-else-place-kinds-clause-ends : goal.end_of-returns-else-place-kinds-clause-ends
end_of-returns-else-place-kinds-clause-ends t c =
    let on = on_node c.args.plan.now.program c.args.kinds.now _ _ _ _ _ (Any) c.requires.plan.program_is c.loop-kind.invariant.there c.index.ensures c.in-Any.is c.loop-kind.invariant.on in
    on.onto None (any_not c.if-place-kinds.false)

pub end_of-end_of_column-requires : goal.end_of-end_of_column-requires
end_of-end_of_column-requires t c =
    let on = on_node c.args.plan.now.program c.args.kinds.now _ _ _ _ _ (Rule c.in-Rule.rule) c.requires.plan.program_is c.loop-kind.invariant.there c.index.ensures c.in-Rule.is c.loop-kind.invariant.on in
    let known = on.safe.known c.in-Rule.rule refl in
    (omega (arith, c.decreases), (c.requires.small, (c.requires.plan, (omega (arith, known), (on.within, c.loop-kind.invariant.sound)))))

pub end_of-returns-in-Rule-clause-ends : goal.end_of-returns-in-Rule-clause-ends
end_of-returns-in-Rule-clause-ends t c =
    let on = on_node c.args.plan.now.program c.args.kinds.now _ _ _ _ _ (Rule c.in-Rule.rule) c.requires.plan.program_is c.loop-kind.invariant.there c.index.ensures c.in-Rule.is c.loop-kind.invariant.on in
    IfOk-weaker c.end_of_column.result _ _ (λ end h. on.onto end (subst (λ f. Ends (rules_of c.args.plan.now.program) c.args.kinds.now f c.loop-kind.place end) (column_rule c.args.plan.now.program c.in-Rule.rule (on.safe.known c.in-Rule.rule refl)) h)) c.end_of_column.ensures.ends

pub end_of-returns-in-Nothing-clause-ends : goal.end_of-returns-in-Nothing-clause-ends
end_of-returns-in-Nothing-clause-ends t c =
    let on = on_node c.args.plan.now.program c.args.kinds.now _ _ _ _ _ (Nothing) c.requires.plan.program_is c.loop-kind.invariant.there c.index.ensures c.in-Nothing.is c.loop-kind.invariant.on in
    on.onto (Some c.loop-kind.place) (no_tree, nothing_to)

pub end_of-returns-in-Never-clause-ends : goal.end_of-returns-in-Never-clause-ends
end_of-returns-in-Never-clause-ends t c =
    let on = on_node c.args.plan.now.program c.args.kinds.now _ _ _ _ _ (Never) c.requires.plan.program_is c.loop-kind.invariant.there c.index.ensures c.in-Never.is c.loop-kind.invariant.on in
    on.onto None never_fails

pub end_of-end_of_part-requires : goal.end_of-end_of_part-requires
end_of-end_of_part-requires t c =
    let on = on_node c.args.plan.now.program c.args.kinds.now _ _ _ _ _ (Seq c.in-Seq.first c.in-Seq.rest) c.requires.plan.program_is c.loop-kind.invariant.there c.index.ensures c.in-Seq.is c.loop-kind.invariant.on in
    let parts = node_parts c.args.plan.now.program _ _ (Seq c.in-Seq.first c.in-Seq.rest) c.requires.plan.program_is c.loop-kind.invariant.there c.index.ensures c.in-Seq.is in
    (omega (arith, c.decreases, parts.0, c.loop-kind.invariant.down), (c.requires.small, (c.requires.plan, (omega (arith, parts.0, c.loop-kind.invariant.there), (seq_part_safe c.args.plan.now.program c.args.kinds.now _ _ on.safe, (on.within, c.loop-kind.invariant.sound))))))

pub end_of-returns-in-None-clause-ends : goal.end_of-returns-in-None-clause-ends
end_of-returns-in-None-clause-ends t c =
    let on = on_node c.args.plan.now.program c.args.kinds.now _ _ _ _ _ (Seq c.in-Seq.first c.in-Seq.rest) c.requires.plan.program_is c.loop-kind.invariant.there c.index.ensures c.in-Seq.is c.loop-kind.invariant.on in
    seq_stops c.args.plan.now.program c.args.kinds.now _ _ _ _ _ on (become c.args.plan.now.program c.args.kinds.now _ _ _ _ c.in-None.is c.in_ok-end_of_part-in-Seq.ensures.ends)

pub end_of-loop-kind-smaller-in-Some : goal.end_of-loop-kind-smaller-in-Some
end_of-loop-kind-smaller-in-Some t c =
    let parts = node_parts c.args.plan.now.program _ _ (Seq c.in-Seq.first c.in-Seq.rest) c.requires.plan.program_is c.loop-kind.invariant.there c.index.ensures c.in-Seq.is in
    parts.1

pub end_of-loop-kind-preserved-in-Some : goal.end_of-loop-kind-preserved-in-Some
end_of-loop-kind-preserved-in-Some t c =
    let on = on_node c.args.plan.now.program c.args.kinds.now _ _ _ _ _ (Seq c.in-Seq.first c.in-Seq.rest) c.requires.plan.program_is c.loop-kind.invariant.there c.index.ensures c.in-Seq.is c.loop-kind.invariant.on in
    let parts = node_parts c.args.plan.now.program _ _ (Seq c.in-Seq.first c.in-Seq.rest) c.requires.plan.program_is c.loop-kind.invariant.there c.index.ensures c.in-Seq.is in
    record { there = omega (arith, parts.1, c.loop-kind.invariant.there); down = omega (arith, parts.1, c.loop-kind.invariant.down); on = seq_on c.args.plan.now.program c.args.kinds.now _ _ _ _ _ _ on (become c.args.plan.now.program c.args.kinds.now _ _ _ _ c.in-Some.is c.in_ok-end_of_part-in-Seq.ensures.ends); sound = c.in_ok-end_of_part-in-Seq.ensures.sound }

pub end_of-end_of_part-requires-in-Choice : goal.end_of-end_of_part-requires-in-Choice
end_of-end_of_part-requires-in-Choice t c =
    let on = on_node c.args.plan.now.program c.args.kinds.now _ _ _ _ _ (Choice c.in-Choice.first c.in-Choice.others) c.requires.plan.program_is c.loop-kind.invariant.there c.index.ensures c.in-Choice.is c.loop-kind.invariant.on in
    let parts = node_parts c.args.plan.now.program _ _ (Choice c.in-Choice.first c.in-Choice.others) c.requires.plan.program_is c.loop-kind.invariant.there c.index.ensures c.in-Choice.is in
    (omega (arith, c.decreases, parts.0, c.loop-kind.invariant.down), (c.requires.small, (c.requires.plan, (omega (arith, parts.0, c.loop-kind.invariant.there), (choice_part_safe c.args.plan.now.program c.args.kinds.now _ _ on.safe, (on.within, c.loop-kind.invariant.sound))))))

pub end_of-returns-in-Some-2-clause-ends : goal.end_of-returns-in-Some-2-clause-ends
end_of-returns-in-Some-2-clause-ends t c =
    let on = on_node c.args.plan.now.program c.args.kinds.now _ _ _ _ _ (Choice c.in-Choice.first c.in-Choice.others) c.requires.plan.program_is c.loop-kind.invariant.there c.index.ensures c.in-Choice.is c.loop-kind.invariant.on in
    choice_stops c.args.plan.now.program c.args.kinds.now _ _ _ _ _ _ on (become c.args.plan.now.program c.args.kinds.now _ _ _ _ c.in-Some-2.is c.in_ok-end-in-Choice.ensures.ends)

pub end_of-loop-kind-smaller : goal.end_of-loop-kind-smaller
end_of-loop-kind-smaller t c =
    let parts = node_parts c.args.plan.now.program _ _ (Choice c.in-Choice.first c.in-Choice.others) c.requires.plan.program_is c.loop-kind.invariant.there c.index.ensures c.in-Choice.is in
    parts.1

pub end_of-loop-kind-preserved : goal.end_of-loop-kind-preserved
end_of-loop-kind-preserved t c =
    let on = on_node c.args.plan.now.program c.args.kinds.now _ _ _ _ _ (Choice c.in-Choice.first c.in-Choice.others) c.requires.plan.program_is c.loop-kind.invariant.there c.index.ensures c.in-Choice.is c.loop-kind.invariant.on in
    let parts = node_parts c.args.plan.now.program _ _ (Choice c.in-Choice.first c.in-Choice.others) c.requires.plan.program_is c.loop-kind.invariant.there c.index.ensures c.in-Choice.is in
    record { there = omega (arith, parts.1, c.loop-kind.invariant.there); down = omega (arith, parts.1, c.loop-kind.invariant.down); on = choice_on c.args.plan.now.program c.args.kinds.now _ _ _ _ _ on (become c.args.plan.now.program c.args.kinds.now _ _ _ _ c.in-None-2.is c.in_ok-end-in-Choice.ensures.ends); sound = c.in_ok-end-in-Choice.ensures.sound }

pub end_of-overflow_add-column : goal.end_of-overflow_add-column
end_of-overflow_add-column t c =
    let parts = node_parts c.args.plan.now.program _ _ (Star c.in-Star.field-0 c.in-Star.star) c.requires.plan.program_is c.loop-kind.invariant.there c.index.ensures c.in-Star.is in
    let within = slice_get_within c.args.plan.now.program.stars.items c.in-Star.star c.in-Star.field-0 parts.1 in
    let stars = c.args.plan.now.program.stars.small in
    let stars_len = c.args.plan.now.program.stars.ok.0 in
    let few = c.requires.plan.few in
    let roots_len = c.args.plan.now.program.roots.ok.0 in
    let len = c.len.ensures in
    omega arith

pub end_of-end_of_column-requires-in-Star : goal.end_of-end_of_column-requires-in-Star
end_of-end_of_column-requires-in-Star t c =
    let on = on_node c.args.plan.now.program c.args.kinds.now _ _ _ _ _ (Star c.in-Star.field-0 c.in-Star.star) c.requires.plan.program_is c.loop-kind.invariant.there c.index.ensures c.in-Star.is c.loop-kind.invariant.on in
    let parts = node_parts c.args.plan.now.program _ _ (Star c.in-Star.field-0 c.in-Star.star) c.requires.plan.program_is c.loop-kind.invariant.there c.index.ensures c.in-Star.is in
    let within = slice_get_within c.args.plan.now.program.stars.items c.in-Star.star c.in-Star.field-0 parts.1 in
    let roots_len = c.args.plan.now.program.roots.ok.0 in
    let len = c.len.ensures in
    (omega (arith, c.decreases), (c.requires.small, (c.requires.plan, (omega (arith, within, len, roots_len), (on.within, c.loop-kind.invariant.sound)))))

pub end_of-returns-in-Star-clause-ends : goal.end_of-returns-in-Star-clause-ends
end_of-returns-in-Star-clause-ends t c =
    let on = on_node c.args.plan.now.program c.args.kinds.now _ _ _ _ _ (Star c.in-Star.field-0 c.in-Star.star) c.requires.plan.program_is c.loop-kind.invariant.there c.index.ensures c.in-Star.is c.loop-kind.invariant.on in
    let parts = node_parts c.args.plan.now.program _ _ (Star c.in-Star.field-0 c.in-Star.star) c.requires.plan.program_is c.loop-kind.invariant.there c.index.ensures c.in-Star.is in
    IfOk-weaker c.end_of_column-in-Star.result _ _ (λ end h. on.onto end (subst (λ f. Ends (rules_of c.args.plan.now.program) c.args.kinds.now f c.loop-kind.place end) (ap (λ (n : ℕ). column_form c.args.plan.now.program (n + c.in-Star.star)) (c.len.ensures ∙ c.args.plan.now.program.roots.ok.0) ∙ column_of_star c.args.plan.now.program c.in-Star.star c.in-Star.field-0 parts.1) h)) c.end_of_column-in-Star.ensures.ends

pub end_of-end_of_part-requires-in-Maybe : goal.end_of-end_of_part-requires-in-Maybe
end_of-end_of_part-requires-in-Maybe t c =
    let on = on_node c.args.plan.now.program c.args.kinds.now _ _ _ _ _ (Maybe c.in-Maybe.part) c.requires.plan.program_is c.loop-kind.invariant.there c.index.ensures c.in-Maybe.is c.loop-kind.invariant.on in
    let parts = node_parts c.args.plan.now.program _ _ (Maybe c.in-Maybe.part) c.requires.plan.program_is c.loop-kind.invariant.there c.index.ensures c.in-Maybe.is in
    (omega (arith, c.decreases, parts, c.loop-kind.invariant.down), (c.requires.small, (c.requires.plan, (omega (arith, parts, c.loop-kind.invariant.there), (maybe_part_safe c.args.plan.now.program c.args.kinds.now _ on.safe, (on.within, c.loop-kind.invariant.sound))))))

pub end_of-returns-in-None-3-clause-ends : goal.end_of-returns-in-None-3-clause-ends
end_of-returns-in-None-3-clause-ends t c =
    let on = on_node c.args.plan.now.program c.args.kinds.now _ _ _ _ _ (Maybe c.in-Maybe.part) c.requires.plan.program_is c.loop-kind.invariant.there c.index.ensures c.in-Maybe.is c.loop-kind.invariant.on in
    maybe_ends c.args.plan.now.program c.args.kinds.now _ _ _ _ on (become c.args.plan.now.program c.args.kinds.now _ _ _ _ c.in-None-3.is c.in_ok-end_of_part-in-Maybe.ensures.ends)

pub end_of-returns-in-Some-3-clause-ends : goal.end_of-returns-in-Some-3-clause-ends
end_of-returns-in-Some-3-clause-ends t c =
    let on = on_node c.args.plan.now.program c.args.kinds.now _ _ _ _ _ (Maybe c.in-Maybe.part) c.requires.plan.program_is c.loop-kind.invariant.there c.index.ensures c.in-Maybe.is c.loop-kind.invariant.on in
    maybe_takes c.args.plan.now.program c.args.kinds.now _ _ _ _ _ on (become c.args.plan.now.program c.args.kinds.now _ _ _ _ c.in-Some-3.is c.in_ok-end_of_part-in-Maybe.ensures.ends)

pub end_of-end_of_part-requires-in-And : goal.end_of-end_of_part-requires-in-And
end_of-end_of_part-requires-in-And t c =
    let on = on_node c.args.plan.now.program c.args.kinds.now _ _ _ _ _ (And c.in-And.part) c.requires.plan.program_is c.loop-kind.invariant.there c.index.ensures c.in-And.is c.loop-kind.invariant.on in
    let parts = node_parts c.args.plan.now.program _ _ (And c.in-And.part) c.requires.plan.program_is c.loop-kind.invariant.there c.index.ensures c.in-And.is in
    (omega (arith, c.decreases, parts, c.loop-kind.invariant.down), (c.requires.small, (c.requires.plan, (omega (arith, parts, c.loop-kind.invariant.there), (ahead_part_safe c.args.plan.now.program c.args.kinds.now _ on.safe, (on.within, c.loop-kind.invariant.sound))))))

pub end_of-returns-in-None-4-clause-ends : goal.end_of-returns-in-None-4-clause-ends
end_of-returns-in-None-4-clause-ends t c =
    let on = on_node c.args.plan.now.program c.args.kinds.now _ _ _ _ _ (And c.in-And.part) c.requires.plan.program_is c.loop-kind.invariant.there c.index.ensures c.in-And.is c.loop-kind.invariant.on in
    ahead_fails c.args.plan.now.program c.args.kinds.now _ _ _ _ on (become c.args.plan.now.program c.args.kinds.now _ _ _ _ c.in-None-4.is c.in_ok-end_of_part-in-And.ensures.ends)

pub end_of-returns-in-Some-4-clause-ends : goal.end_of-returns-in-Some-4-clause-ends
end_of-returns-in-Some-4-clause-ends t c =
    let on = on_node c.args.plan.now.program c.args.kinds.now _ _ _ _ _ (And c.in-And.part) c.requires.plan.program_is c.loop-kind.invariant.there c.index.ensures c.in-And.is c.loop-kind.invariant.on in
    ahead_holds c.args.plan.now.program c.args.kinds.now _ _ _ _ _ on (become c.args.plan.now.program c.args.kinds.now _ _ _ _ c.in-Some-4.is c.in_ok-end_of_part-in-And.ensures.ends)

pub end_of-end_of_part-requires-in-Not : goal.end_of-end_of_part-requires-in-Not
end_of-end_of_part-requires-in-Not t c =
    let on = on_node c.args.plan.now.program c.args.kinds.now _ _ _ _ _ (Not c.in-Not.part) c.requires.plan.program_is c.loop-kind.invariant.there c.index.ensures c.in-Not.is c.loop-kind.invariant.on in
    let parts = node_parts c.args.plan.now.program _ _ (Not c.in-Not.part) c.requires.plan.program_is c.loop-kind.invariant.there c.index.ensures c.in-Not.is in
    (omega (arith, c.decreases, parts, c.loop-kind.invariant.down), (c.requires.small, (c.requires.plan, (omega (arith, parts, c.loop-kind.invariant.there), (not_part_safe c.args.plan.now.program c.args.kinds.now _ on.safe, (on.within, c.loop-kind.invariant.sound))))))

pub end_of-returns-in-None-5-clause-ends : goal.end_of-returns-in-None-5-clause-ends
end_of-returns-in-None-5-clause-ends t c =
    let on = on_node c.args.plan.now.program c.args.kinds.now _ _ _ _ _ (Not c.in-Not.part) c.requires.plan.program_is c.loop-kind.invariant.there c.index.ensures c.in-Not.is c.loop-kind.invariant.on in
    not_holds c.args.plan.now.program c.args.kinds.now _ _ _ _ on (become c.args.plan.now.program c.args.kinds.now _ _ _ _ c.in-None-5.is c.in_ok-end_of_part-in-Not.ensures.ends)

pub end_of-returns-in-Some-5-clause-ends : goal.end_of-returns-in-Some-5-clause-ends
end_of-returns-in-Some-5-clause-ends t c =
    let on = on_node c.args.plan.now.program c.args.kinds.now _ _ _ _ _ (Not c.in-Not.part) c.requires.plan.program_is c.loop-kind.invariant.there c.index.ensures c.in-Not.is c.loop-kind.invariant.on in
    not_fails c.args.plan.now.program c.args.kinds.now _ _ _ _ _ on (become c.args.plan.now.program c.args.kinds.now _ _ _ _ c.in-Some-5.is c.in_ok-end_of_part-in-Not.ensures.ends)

pub end_of_column-code_of_end-requires : goal.end_of_column-code_of_end-requires
end_of_column-code_of_end-requires t c =
    fits c.args.kinds.now _ c.args.place c.in-Ok.end c.args.plan.now.program c.requires.within c.requires.small c.in-Ok.ensures.ends

pub end_of_column-set-requires-clause-fits : goal.end_of_column-set-requires-clause-fits
end_of_column-set-requires-clause-fits t c =
    code_fits c.args.plan.now c.args.kinds.now c.requires.plan _ c.args.place c.code_of_end.result c.in-Ok.end c.requires.within c.requires.small c.in-Ok.ensures.ends c.code_of_end.ensures

pub end_of_column-returns-in-Ok-clause-sound : goal.end_of_column-returns-in-Ok-clause-sound
end_of_column-returns-in-Ok-clause-sound t c =
    sound_set c.args.plan.now c.args.kinds.now c.requires.plan c.search.new.memo _ c.args.column c.args.place _ c.code_of_end.result c.slot_of.result c.in-Ok.end c.in-Ok.ensures.sound c.slot_of.ensures c.in-Some.is c.code_of_end.ensures c.in-Ok.ensures.ends c.set.ensures.here c.set.ensures.others refl

pub end_of_part-end_of_column-requires : goal.end_of_part-end_of_column-requires
end_of_part-end_of_column-requires t c =
    let on = on_node c.args.plan.now.program c.args.kinds.now _ _ _ _ _ (Rule c.in-Rule.rule) c.requires.plan.program_is c.requires.part c.index.ensures c.in-Rule.is (starts c.args.plan.now.program c.args.kinds.now _ c.args.place c.requires.within c.requires.safe) in
    let known = on.safe.known c.in-Rule.rule refl in
    (omega (arith, c.decreases), (c.requires.small, (c.requires.plan, (omega (arith, known), (on.within, c.requires.sound)))))

pub end_of_part-returns-in-Rule-clause-ends : goal.end_of_part-returns-in-Rule-clause-ends
end_of_part-returns-in-Rule-clause-ends t c =
    let on = on_node c.args.plan.now.program c.args.kinds.now _ _ _ _ _ (Rule c.in-Rule.rule) c.requires.plan.program_is c.requires.part c.index.ensures c.in-Rule.is (starts c.args.plan.now.program c.args.kinds.now _ c.args.place c.requires.within c.requires.safe) in
    IfOk-weaker c.end_of_column.result _ _ (λ end h. on.onto end (subst (λ f. Ends (rules_of c.args.plan.now.program) c.args.kinds.now f c.args.place end) (column_rule c.args.plan.now.program c.in-Rule.rule (on.safe.known c.in-Rule.rule refl)) h)) c.end_of_column.ensures.ends

pub end_of_part-returns-in-Token-clause-ends : goal.end_of_part-returns-in-Token-clause-ends
end_of_part-returns-in-Token-clause-ends t c =
    let on = on_node c.args.plan.now.program c.args.kinds.now _ _ _ _ _ (Token c.in-Token.kind) c.requires.plan.program_is c.requires.part c.index.ensures c.in-Token.is (starts c.args.plan.now.program c.args.kinds.now _ c.args.place c.requires.within c.requires.safe) in
    on.onto c.end_of_token.result (c.end_of_token.ensures (rules_of c.args.plan.now.program))

pub end_of_part-returns-then-is_ruled_out : goal.end_of_part-returns-then-is_ruled_out
end_of_part-returns-then-is_ruled_out t c =
    record { sound = c.requires.sound; ends = fails_ruled_out c.args.plan.now.program c.args.kinds.now (form_at (forms_in c.args.plan.now.program.nodes.items) c.args.part) c.args.place c.requires.plan.well_formed c.requires.safe c.if-is_ruled_out.ensures }

pub end_of_turns-loop-init : goal.end_of_turns-loop-init
end_of_turns-loop-init t c =
    let same = c.len.ensures ∙ c.args.plan.now.program.roots.ok.0 in
    let column = c.requires.column in
    let star_column = c.requires.star in
    let lt : c.args.column - c.len.result < length c.args.plan.now.program.stars.items = omega arith in
    let at = subst (λ (n : ℕ). slice_get c.args.plan.now.program.stars.items (c.args.column - n) ≡ Some c.index-part.result.now) same (slice_get_read c.args.plan.now.program.stars.items (length c.args.plan.now.program.stars.items) (c.args.column - c.len.result) c.index-part.result.now refl lt c.index-part.ensures) in
    record { on = starts c.args.plan.now.program c.args.kinds.now _ c.args.from c.requires.within (part_safe c.args.plan.now c.args.kinds.now c.requires.plan (c.args.column - length c.args.plan.now.program.roots.items) c.index-part.result.now at); sound = c.requires.sound }

pub end_of_turns-end_of_part-requires : goal.end_of_turns-end_of_part-requires
end_of_turns-end_of_part-requires t c =
    let same = c.len.ensures ∙ c.args.plan.now.program.roots.ok.0 in
    let column = c.requires.column in
    let star_column = c.requires.star in
    let lt : c.args.column - c.len.result < length c.args.plan.now.program.stars.items = omega arith in
    let at = subst (λ (n : ℕ). slice_get c.args.plan.now.program.stars.items (c.args.column - n) ≡ Some c.index-part.result.now) same (slice_get_read c.args.plan.now.program.stars.items (length c.args.plan.now.program.stars.items) (c.args.column - c.len.result) c.index-part.result.now refl lt c.index-part.ensures) in
    let there = c.requires.plan.program_is.nodes_are.star_parts (c.args.column - length c.args.plan.now.program.roots.items) c.index-part.result.now at in
    let on = c.loop.invariant.on in
    (omega (arith, c.decreases, there), (c.requires.small, (c.requires.plan, (there, (star_part_safe c.args.plan.now.program c.args.kinds.now _ on.safe, (on.within, c.loop.invariant.sound))))))

pub end_of_turns-returns-in-None-clause-ends : goal.end_of_turns-returns-in-None-clause-ends
end_of_turns-returns-in-None-clause-ends t c =
    let same = c.len.ensures ∙ c.args.plan.now.program.roots.ok.0 in
    let column = c.requires.column in
    let star_column = c.requires.star in
    let lt : c.args.column - c.len.result < length c.args.plan.now.program.stars.items = omega arith in
    let at = subst (λ (n : ℕ). slice_get c.args.plan.now.program.stars.items (c.args.column - n) ≡ Some c.index-part.result.now) same (slice_get_read c.args.plan.now.program.stars.items (length c.args.plan.now.program.stars.items) (c.args.column - c.len.result) c.index-part.result.now refl lt c.index-part.ensures) in
    part_ends c.args.plan.now c.args.kinds.now c.requires.plan c.args.column c.index-part.result.now c.args.from (Some c.loop.place) star_column at (star_stops c.args.plan.now.program c.args.kinds.now _ _ _ _ c.loop.invariant.on (become c.args.plan.now.program c.args.kinds.now _ _ _ _ c.in-None.is c.in_ok-end_of_part.ensures.ends))

pub end_of_turns-loop-preserved : goal.end_of_turns-loop-preserved
end_of_turns-loop-preserved t c =
    record { on = star_on c.args.plan.now.program c.args.kinds.now _ _ _ _ _ c.loop.invariant.on (become c.args.plan.now.program c.args.kinds.now _ _ _ _ c.in-Some.is c.in_ok-end_of_part.ensures.ends); sound = c.in_ok-end_of_part.ensures.sound }

pub search-end_of-requires : goal.search-end_of-requires
search-end_of-requires t c =
    let lt : c.args.column < length c.args.plan.now.program.roots.items = omega (arith, c.if-column-len.true, c.len.ensures, c.args.plan.now.program.roots.ok.0) in
    let at = slice_get_read c.args.plan.now.program.roots.items (length c.args.plan.now.program.roots.items) c.args.column c.index-root.result.now refl lt c.index-root.ensures in
    let there = c.requires.plan.program_is.there c.args.column c.index-root.result.now at in
    let step = deeper c.args.depth (2 * length c.args.plan.now.program.nodes.items + 4) (2 * c.index-root.result.now + 2) (omega arith) (omega (arith, there)) in
    (omega (arith, c.decreases, step), (c.requires.small, (c.requires.plan, (there, (root_safe c.args.plan.now c.args.kinds.now c.requires.plan c.args.column c.index-root.result.now at, (c.requires.within, c.requires.sound))))))

pub search-returns-then-column-len-clause-ends : goal.search-returns-then-column-len-clause-ends
search-returns-then-column-len-clause-ends t c =
    let lt : c.args.column < length c.args.plan.now.program.roots.items = omega (arith, c.if-column-len.true, c.len.ensures, c.args.plan.now.program.roots.ok.0) in
    let at = slice_get_read c.args.plan.now.program.roots.items (length c.args.plan.now.program.roots.items) c.args.column c.index-root.result.now refl lt c.index-root.ensures in
    IfOk-weaker c.end_of.result _ _ (λ end h. root_ends c.args.plan.now c.args.kinds.now c.requires.plan c.args.column c.index-root.result.now c.args.place end at h) c.end_of.ensures.ends
