use Rattle.std.proofs.Common.{filter, length}
use Rattle.pj_tree.specs.Kinds.{is_kind}
use Rattle.pj_tree.specs.Tree.{children_of}
use Rattle.pj_outer_names.proofs.Inside.{filtered_inside}
use Rattle.pj_written.proofs.Inside.{children_inside, inside_by}
use Rattle.pj_file_oracle.proofs.nodes.children_of_kind.Goals as goal

pub returns-clause-inside : goal.returns-clause-inside
returns-clause-inside c =
    let t = c.args.tree.now in
    let nodes = children_of t c.args.n in
    inside_by (length t.nodes) _ (filter (is_kind t c.args.kind) nodes) c.in_ok-nodes.ensures (filtered_inside (length t.nodes) (is_kind t c.args.kind) nodes (children_inside t c.args.n))
