use Rattle.std.proofs.Common.{◌≡◌, ◌+◌, ◌++◌, drop, arith, ap, ◌∙◌, subst, sym, List}
use Rattle.pj_parse.specs.Entries.{IsRisingFrom}
use Rattle.pj_parse.specs.PoolText.{entry_of, entries_from, IsPoolOf}
use Rattle.pj_parse.specs.declared.entry.Entry.{Entry}
use Rattle.pj_parse.proofs.EntryLaws.{entries_more, entries_done, entries_are_pool, entries_rise_from_zero}
use Rattle.pj_parse.proofs.pool.Pool.of.Goals as goal

pub loop-n-init : goal.loop-n-init
loop-n-init c = ap (λ (es : List Entry). es ++ entries_from c.args.tree.now.text 0 c.args.tree.now.nodes) c.new-entries.ensures.items

pub loop-n-preserved : goal.loop-n-preserved
loop-n-preserved c =
    let t = c.args.tree.now in
    let n = c.loop-n.n in
    ap (λ (es : List Entry). es ++ entries_from t.text (n + 1) (drop (n + 1) t.nodes)) (c.in_ok-put_text.ensures ∙ ap (λ text. c.loop-n.entries.items ++ entry_of n text) c.in_ok-text.ensures)
    ∙ entries_more t c.loop-n.entries.items (entries_from t.text 0 t.nodes) n (omega (arith, c.loop-n-test.true, c.len-n-end.ensures.value)) c.loop-n.invariant

pub invariant_of-result : goal.invariant_of-result
invariant_of-result c =
    let t = c.args.tree.now in
    let all : c.loop-n.entries.items ≡ entries_from t.text 0 t.nodes = entries_done t c.loop-n.entries.items (entries_from t.text 0 t.nodes) c.loop-n.n (omega (arith, c.loop-n-test.false, c.len-n-end.ensures.value)) c.loop-n.invariant in
    subst (IsRisingFrom 0) (sym all) (entries_rise_from_zero t)

pub returns : goal.returns
returns c =
    let t = c.args.tree.now in
    let all : c.loop-n.entries.items ≡ entries_from t.text 0 t.nodes = entries_done t c.loop-n.entries.items (entries_from t.text 0 t.nodes) c.loop-n.n (omega (arith, c.loop-n-test.false, c.len-n-end.ensures.value)) c.loop-n.invariant in
    record { value = all; texts = subst (IsPoolOf t) (sym all) (entries_are_pool t) }
