use Rattle.std.proofs.Common.{filter, length}
use Rattle.pj_tree.specs.Tree.{children_of}
use Rattle.pj_tree.specs.declared.node.Node.{Node}
use Rattle.pj_written.proofs.Inside.{append_inside, children_inside, inside_by}
use Rattle.pj_outer_names.proofs.Inside.{filtered_inside}
use Rattle.pj_scopes.specs.StaticImports.{imports_all, imports_name, static_imports}
use Rattle.pj_scopes.proofs.imports.static_imports.Goals as goal

pub returns-clause-inside : goal.returns-clause-inside
returns-clause-inside c =
    let t = c.args.tree.now in
    let name = c.args.name.now in
    let root : Node = record { 0 = 0 } in
    let count = length t.nodes in
    let children = children_of t root in
    let inside = children_inside t root in
    inside_by count _ (static_imports t name) c.in_ok-nodes.ensures
    (append_inside count (filter (imports_name t name) children) (filter (imports_all t) children) (filtered_inside count (imports_name t name) children inside) (filtered_inside count (imports_all t) children inside))
