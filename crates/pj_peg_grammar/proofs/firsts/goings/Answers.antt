use Rattle.std.proofs.Common.{◌∙◌, ap, sym, length, arith}
use Rattle.std.specs.Prelude.{slice_get}
use Rattle.std.proofs.lemmas.List.{length-map}
use Rattle.pj_peg_grammar.specs.Analysis.{is_set}
use Rattle.pj_peg_grammar.specs.Firsts.{beginning_by, set_at}
use Rattle.pj_peg_grammar.specs.Program.{forms_in}
use Rattle.pj_peg_grammar.proofs.Nodes.{length-forms_in}
use Rattle.pj_peg_grammar.proofs.Beginning.{sets_of, full_from, are_going}
use Rattle.pj_peg_grammar.proofs.firsts.goings.Goals as goal

pub add_firsts-requires-clause-roots : goal.add_firsts-requires-clause-roots
add_firsts-requires-clause-roots c r k at =
    let lt = c.requires.program.there r k (ap (λ l. slice_get l r) (sym c.deref-in-loop-sets.ensures.value) ∙ at) in
    omega (
      arith,
      lt,
      ap length c.deref-in-loop-sets-2.ensures.value,
      ap length c.in_ok-all.ensures,
      length-map (forms_in c.args.program.now.nodes.items) (beginning_by (is_set c.args.empty.now) (set_at c.deref.result.now)),
      length-forms_in c.args.program.now.nodes.items,
    )

pub returns-then-not-add_firsts : goal.returns-then-not-add_firsts
returns-then-not-add_firsts c =
    are_going c.args.program.now c.args.empty.now c.loop-sets.sets.items c.in_ok-going_sets.field-0.items c.requires.program c.requires.empty
    (full_from c.args.program.now c.args.empty.now c.loop-sets.sets.items c.deref.result.now c.in_ok-all.all.items c.deref-in-loop-sets-2.result.now c.deref-in-loop-sets.result.now c.requires.program
    c.deref.ensures.value c.in_ok-all.ensures c.deref-in-loop-sets-2.ensures.value c.deref-in-loop-sets.ensures.value c.if-not-add_firsts.ensures.closed)
    (sets_of (forms_in c.args.program.now.nodes.items) c.in_ok-all.all.items c.deref-then-not-add_firsts.result.now c.in_ok-going_sets.field-0.items c.deref.result.now c.loop-sets.sets.items (is_set c.args.empty.now)
    c.deref.ensures.value c.in_ok-all.ensures c.deref-then-not-add_firsts.ensures.value c.in_ok-going_sets.ensures)
