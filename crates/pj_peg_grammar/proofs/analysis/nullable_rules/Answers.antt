use Rattle.std.proofs.Common.{◌≡◌, ◌∙◌, ap, sym, subst, length, true, ⊎_elim, arith}
use Rattle.std.proofs.lemmas.List.{length-map}
use Rattle.std.specs.Prelude.{slice_get}
use Rattle.pj_peg_grammar.specs.Analysis.{is_set, root_bit, nullable_by, AreNullableRules}
use Rattle.pj_peg_grammar.specs.Program.{forms_in, form_at, rules_of}
use Rattle.pj_peg_grammar.proofs.Nodes.{length-forms_in}
use Rattle.pj_peg_grammar.proofs.FactsLemmas.{root_nullable_sound, root_closed, bits_of, bits_roots}
use Rattle.pj_peg_grammar.proofs.analysis.nullable_rules.Goals as goal

pub add_rules-requires-clause-roots : goal.add_rules-requires-clause-roots
add_rules-requires-clause-roots c r k at =
    let lt = c.requires.there r k (ap (λ l. slice_get l r) (sym c.deref-in-loop-empty-2.ensures.value) ∙ at) in
    let bits = bits_of c.args.program.now.nodes.items c.in_ok-facts.facts.items c.in_ok-bits.bits.items c.deref.result.now c.deref-in-loop-empty.result.now c.loop-empty.empty.items c.deref.ensures.value c.in_ok-facts.ensures c.deref-in-loop-empty.ensures.value c.in_ok-bits.ensures in
    omega (
      arith,
      ap length c.deref-in-loop-empty-3.ensures.value,
      ap length bits,
      length-map (forms_in c.args.program.now.nodes.items) (nullable_by (is_set c.loop-empty.empty.items)),
      length-forms_in c.args.program.now.nodes.items,
    )

pub returns-then-not-add_rules : goal.returns-then-not-add_rules
returns-then-not-add_rules c =
    let now : c.add_rules.new.set.items ≡ c.loop-empty.empty.items = c.if-not-add_rules.ensures.unchanged in
    let bits = bits_of c.args.program.now.nodes.items c.in_ok-facts.facts.items c.in_ok-bits.bits.items c.deref.result.now c.deref-in-loop-empty.result.now c.loop-empty.empty.items c.deref.ensures.value c.in_ok-facts.ensures c.deref-in-loop-empty.ensures.value c.in_ok-bits.ensures in
    subst (AreNullableRules (rules_of c.args.program.now)) (sym now) (record {
      count = c.loop-empty.invariant.count ∙ sym (length-map c.args.program.now.roots.items (form_at (forms_in c.args.program.now.nodes.items)));
      sound = c.loop-empty.invariant.sound;
      closed = root_closed c.args.program.now (nullable_by (is_set c.loop-empty.empty.items)) c.loop-empty.empty.items c.in_ok-bits.bits.items c.requires bits
          (λ r t. c.if-not-add_rules.ensures.closed r (bits_roots _ _ _ _ _ c.deref-in-loop-empty-3.ensures.value c.deref-in-loop-empty-2.ensures.value ∙ t));
    })

pub loop-empty-preserved : goal.loop-empty-preserved
loop-empty-preserved c =
    let bits = bits_of c.args.program.now.nodes.items c.in_ok-facts.facts.items c.in_ok-bits.bits.items c.deref.result.now c.deref-in-loop-empty.result.now c.loop-empty.empty.items c.deref.ensures.value c.in_ok-facts.ensures c.deref-in-loop-empty.ensures.value c.in_ok-bits.ensures in
    record {
      count = c.add_rules.ensures.adds.count ∙ c.loop-empty.invariant.count;
      sound = λ r t. ⊎_elim
          (λ (old : is_set c.loop-empty.empty.items r ≡ true). c.loop-empty.invariant.sound r old)
          (λ (new : root_bit c.deref-in-loop-empty-3.result.now c.deref-in-loop-empty-2.result.now r ≡ true).
          root_nullable_sound c.args.program.now (is_set c.loop-empty.empty.items) c.in_ok-bits.bits.items r c.requires bits c.loop-empty.invariant.sound
          (sym (bits_roots _ _ _ _ r c.deref-in-loop-empty-3.ensures.value c.deref-in-loop-empty-2.ensures.value) ∙ new))
          (c.add_rules.ensures.adds.sound r t);
    }
