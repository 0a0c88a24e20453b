use Rattle.std.proofs.Common.{arith, ◌≤◌, length}
use Rattle.pj_outer_names.specs.Candidates.{file_classes}
use Rattle.pj_type_names.proofs.Turns.{classes_few}
use Rattle.pj_type_names.proofs.read.enough.Goals as goal

pub overflow_add-result : goal.overflow_add-result
overflow_add-result c =
    let t = c.args.file.now in
    let few : length (file_classes t) ≤ length t.nodes = classes_few t (length t.nodes) in
    let nodes = rw c.tree.ensures at c.len-nodes.ensures.value in
    let counted = rw c.classes.ensures at c.len.ensures in
    omega (arith, few, nodes, c.len-nodes.ensures.few, counted)
