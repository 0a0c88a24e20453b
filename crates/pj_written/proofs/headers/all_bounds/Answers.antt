use Rattle.std.proofs.Common.{ap, ◌∙◌, ◌++◌, length}
use Rattle.pj_written.specs.Headers.{all_bounds}
use Rattle.pj_written.proofs.Inside.{all_bounds_inside, inside_by}
use Rattle.pj_written.proofs.headers.all_bounds.Goals as goal

pub returns-clause-inside : goal.returns-clause-inside
returns-clause-inside c =
    let t = c.args.tree.now in
    let meant = all_bounds t c.args.n in
    inside_by (length t.nodes) _ meant (c.in_ok-put_all_bounds.ensures ∙ ap (λ ns. ns ++ meant) c.new-nodes.ensures) (all_bounds_inside t c.args.n)
