use Rattle.std.proofs.Common.{◌≡◌, ◌<◌, Option, None, ap, ◌∙◌, length, sym, subst}
use Rattle.std.specs.Option.{IfSome}
use Rattle.pj_tree.specs.declared.node.Node.{Node}
use Rattle.pj_tree.specs.Tree.{children_of}
use Rattle.pj_written.specs.Words.{last_in}
use Rattle.pj_written.proofs.Inside.{children_inside, last_inside}
use Rattle.pj_written.proofs.nodes.last_child.Goals as goal

pub returns-clause-inside : goal.returns-clause-inside
returns-clause-inside c =
    let t = c.args.tree.now in
    let last : c.last_in.result ≡ last_in None (children_of t c.args.n) = c.last_in.ensures ∙ ap (last_in None) c.children.ensures.value in
    subst (λ (o : Option Node). IfSome o (λ child. child.0 < length t.nodes)) (sym last) (last_inside (length t.nodes) None (children_of t c.args.n) tt (children_inside t c.args.n))
