use Rattle.std.proofs.Common.{length}
use Rattle.pj_tree.specs.Tree.{children_of}
use Rattle.pj_tree.specs.declared.node.Node.{Node}
use Rattle.pj_written.proofs.Inside.{children_inside, inside_by}
use Rattle.pj_outer_names.specs.Imports.{imports_on_demand, is_import_on_demand}
use Rattle.pj_outer_names.proofs.Inside.{filtered_inside}
use Rattle.pj_outer_names.proofs.file.File.imports_on_demand.Goals as goal

pub returns-clause-inside : goal.returns-clause-inside
returns-clause-inside c =
    let t = c.args.self.now in
    let root : Node = record { 0 = 0 } in
    inside_by (length t.nodes) _ (imports_on_demand t) c.on_demand.ensures (filtered_inside (length t.nodes) (is_import_on_demand t) (children_of t root) (children_inside t root))
