use Rattle.std.proofs.Common.{ap, ◌∙◌, ◌++◌, length}
use Rattle.pj_written.specs.Words.{below_child}
use Rattle.pj_written.proofs.Inside.{below_inside, inside_by}
use Rattle.pj_written.proofs.nodes.below_child.Goals as goal

pub returns-clause-inside : goal.returns-clause-inside
returns-clause-inside c =
    let t = c.args.tree.now in
    let meant = below_child t c.args.n c.args.kind in
    inside_by (length t.nodes) _ meant (c.in_ok-put_below.ensures ∙ ap (λ ns. ns ++ meant) c.new-nodes.ensures) (below_inside t c.args.n c.args.kind)
