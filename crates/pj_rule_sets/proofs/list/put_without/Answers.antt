use Rattle.std.proofs.Common.{sym, ap, ◌∙◌, ◌+◌, drop}
use Rattle.pj_rule_sets.proofs.Listing.{one_more, to_come}
use Rattle.pj_rule_sets.proofs.list.put_without.Goals as goal

pub loop-taken-preserved : goal.loop-taken-preserved
loop-taken-preserved c =
    c.loop-taken.invariant
    ∙ one_more c.args.excludes.now c.args.list.now c.loop-taken.taken-index c.taken-item.result c.loop-taken.table c.loop-taken-test.true c.taken-item.is
    ∙ ap (λ table. to_come c.args.excludes.now table (drop (c.loop-taken.taken-index + 1) c.args.list.now)) (sym c.in_ok-put_unless.ensures)
