use Rattle.std.proofs.Common.{◌≡◌, ◌<◌, ◌≤◌, ◌∙◌, ℕ, sym, refl, length, true, false, ⊎_elim, arith, get_or}
use Rattle.std.proofs.lemmas.Bool.{cases_lt}
use Rattle.std.proofs.lemmas.Option.{slice_get_past, slice_get-get_or}
use Rattle.pj_peg_grammar.specs.Analysis.{root_bit, is_set}
use Rattle.pj_peg_grammar.proofs.Sets.{on_false, bit_at}
use Rattle.pj_peg_grammar.proofs.FactsLemmas.{root_bit_past}
use Rattle.pj_peg_grammar.proofs.Turns.{turn_adds, root_is}
use Rattle.pj_peg_grammar.proofs.analysis.add_rules.Goals as goal

pub loop-rule-preserved : goal.loop-rule-preserved
loop-rule-preserved c =
    let root = slice_get-get_or c.args.roots.now c.loop-rule.rule 0 c.loop-rule-test.true in
    let lt : c.loop-rule.rule < length c.loop-rule.set.items = omega (arith, c.loop-rule-test.true, c.loop-rule.invariant.adds.count, c.requires.count) in
    turn_adds _ _ _ _ _ _ _ c.loop-rule.invariant
    (root_is c.args.bits.now c.args.roots.now c.loop-rule.rule (get_or c.args.roots.now c.loop-rule.rule 0) _ root
    (slice_get-get_or c.args.bits.now _ _ (c.requires.roots _ _ root)) ∙ c.if-not-bits-root.false)
    (bit_at _ _ _ lt c.index.ensures ∙ c.if-index.false) lt refl

pub returns-clause-closed : goal.returns-clause-closed
returns-clause-closed c =
    let closed : c.loop-rule.added ≡ false → (r : ℕ) → root_bit c.args.bits.now c.args.roots.now r ≡ true → is_set c.args.set.now.items r ≡ true = λ e r t. ⊎_elim
    (λ (lt : r < length c.args.roots.now). c.loop-rule.invariant.closed e r (let h = c.loop-rule-test.false in omega arith) t)
    (λ (le : length c.args.roots.now ≤ r). absurd (let z = sym (root_bit_past c.args.bits.now c.args.roots.now r (slice_get_past c.args.roots.now r le)) ∙ t in cc))
    (cases_lt r (length c.args.roots.now)) in
    on_false _ _ closed
