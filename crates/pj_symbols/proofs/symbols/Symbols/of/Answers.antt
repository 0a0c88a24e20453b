use Rattle.std.proofs.Common.{◌≡◌, length, ap, sym, ◌∙◌, subst, arith}
use Rattle.pj_symbols.specs.Order.{IsRisingFrom}
use Rattle.pj_symbols.specs.Symbols.{classes_below, FindsClasses}
use Rattle.pj_symbols.proofs.Below.{rise_below, all_found}
use Rattle.pj_symbols.proofs.symbols.Symbols.of.Goals as goal

pub invariant_of-result : goal.invariant_of-result
invariant_of-result c =
    let t = c.args.tree.now in
    let all : c.from_vec.result ≡ classes_below t c.loop-n.n = c.from_vec.ensures ∙ c.loop-n.invariant.0 in
    subst (IsRisingFrom 0) (sym all) (rise_below t c.loop-n.n)

pub returns-clause-finds : goal.returns-clause-finds
returns-clause-finds c =
    let t = c.args.tree.now in
    let end : c.loop-n.n ≡ length t.nodes = omega (arith, c.loop-n-test.false, c.loop-n.auto.n-end, c.len-n-end.ensures.value) in
    let all : c.from_vec.result ≡ classes_below t (length t.nodes) = c.from_vec.ensures ∙ c.loop-n.invariant.0 ∙ ap (classes_below t) end in
    subst (FindsClasses t) (sym all) (all_found t)
