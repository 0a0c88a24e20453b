use Rattle.std.proofs.Common.{◌≡◌, ◌<◌, ℕ, refl, length, Some, false, arith, get_or, rules}
use Rattle.std.specs.Prelude.{slice_get}
use Rattle.std.specs.Int.RustNames.{bit_or}
use Rattle.std.proofs.lemmas.Nat.{le_or_l}
use Rattle.std.proofs.lemmas.Option.{slice_get_within}
use Rattle.pj_peg_grammar.specs.declared.firsts.Beginning.{Beginning}
use Rattle.pj_peg_grammar.specs.Firsts.{set_at}
use Rattle.pj_peg_grammar.proofs.Sets.{on_false}
use Rattle.pj_peg_grammar.proofs.Growing.{growing_adds, set_read}
use Rattle.pj_peg_grammar.proofs.firsts.add_firsts.Goals as goal

pub loop-rule-preserved : goal.loop-rule-preserved
loop-rule-preserved c =
    let lt : c.loop-rule.rule < length c.loop-rule.sets.items = omega (arith, c.loop-rule-test.true, c.loop-rule.invariant.count, c.requires.count) in
    let old : set_at c.loop-rule.sets.items c.loop-rule.rule ≡ c.index-old.result.now = set_read _ _ _ lt c.index-old.ensures in
    let more = le_or_l c.index-old.result.now (get_or c.args.all.now (get_or c.args.roots.now c.loop-rule.rule 0) (record { nullable = false; firsts = 0 })).firsts in
    growing_adds _ _ _ _ _ _ _ _ c.loop-rule.invariant lt (omega (arith, old, more, c.if-new-old.false, c.union-new.ensures)) (search rules) refl

pub returns-clause-closed : goal.returns-clause-closed
returns-clause-closed c =
    let closed : c.loop-rule.added ≡ false → (r k : ℕ) (b : Beginning) → slice_get c.args.roots.now r ≡ Some k → slice_get c.args.all.now k ≡ Some b →
    bit_or (set_at c.args.sets.now.items r) b.firsts ≡ set_at c.args.sets.now.items r = λ e r k b at is.
    let within = slice_get_within c.args.roots.now r k at in
    c.loop-rule.invariant.closed e r k b (omega (arith, within, c.loop-rule-test.false)) at is in
    on_false _ _ closed
