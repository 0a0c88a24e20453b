use Rattle.std.proofs.Common.{◌≡◌, ◌++◌, filter, length}
use Rattle.pj_tree.proofs.Inside.{AreInside}
use Rattle.pj_outer_names.specs.Imports.{imports_on_demand, is_import_on_demand}
use Rattle.pj_outer_names.proofs.on_demand.listed_on_demand.Given as goal

abbrev pub invariant-loop-child : goal.invariant-loop-child
invariant-loop-child l = record {
  value : l.nodes ++ filter (is_import_on_demand l.tree) l.child-iterator ≡ imports_on_demand l.tree;
  inside : AreInside (length l.tree.nodes) l.child-iterator;
}
