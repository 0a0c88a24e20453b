use Rattle.std.proofs.Common.{◌≡◌, ◌++◌, filter, length}
use Rattle.pj_tree.specs.Tree.{children_of}
use Rattle.pj_tree.proofs.Inside.{AreInside}
use Rattle.pj_scopes.specs.StaticImports.{imports_name}
use Rattle.pj_scopes.proofs.imports.put_named.Given as goal

abbrev pub invariant-loop-child : goal.invariant-loop-child
invariant-loop-child l = record {
  value : l.nodes ++ filter (imports_name l.tree l.name) l.child-iterator ≡ l.fn.nodes ++ filter (imports_name l.tree l.name) (children_of l.tree (record { 0 = 0 }));
  inside : AreInside (length l.tree.nodes) l.child-iterator;
}
