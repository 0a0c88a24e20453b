use Rattle.std.proofs.Common.{ap, ◌∙◌, ◌++◌, length}
use Rattle.pj_written.specs.Headers.{bounds_of}
use Rattle.pj_written.proofs.Inside.{bounds_inside, inside_by}
use Rattle.pj_written.proofs.headers.bounds_of.Goals as goal

pub returns-clause-inside : goal.returns-clause-inside
returns-clause-inside c =
    let t = c.args.tree.now in
    let meant = bounds_of t c.args.parameter in
    inside_by (length t.nodes) _ meant (c.in_ok-put_bounds.ensures ∙ ap (λ ns. ns ++ meant) c.new-nodes.ensures) (bounds_inside t c.args.parameter)
