use Rattle.std.proofs.Common.{sym, ◌∙◌}
use Rattle.pj_rule_sets.proofs.Listing.{named_here, named_later}
use Rattle.pj_rule_sets.proofs.list.named.Goals as goal

pub returns-then-is_called : goal.returns-then-is_called
returns-then-is_called c =
    sym (c.loop-taken.invariant
    ∙ named_here c.args.name.now c.args.list.now c.loop-taken.taken-index c.taken-item.result c.loop-taken-test.true c.taken-item.is (sym c.is_called.ensures ∙ c.if-is_called.true))

pub loop-taken-preserved : goal.loop-taken-preserved
loop-taken-preserved c =
    c.loop-taken.invariant
    ∙ named_later c.args.name.now c.args.list.now c.loop-taken.taken-index c.taken-item.result c.loop-taken-test.true c.taken-item.is (sym c.is_called.ensures ∙ c.if-is_called.false)
