-- The nodes of the small tree: the unit; two classes and a method in it; identifiers and blocks. None has a text.
use Rattle.pj_tree.specs.Nested.{Parts, NoMore, Child}
use Rattle.pj_tree.specs.declared.kind.Kind.{Kind}
use Rattle.pj_tree.specs.declared.kind.Kind.TheVariants.{CompilationUnit, ClassDeclaration, MethodDeclaration, VariableId, Block}

-- a node without text, and its inner nodes
abbrev pub around : Kind → Parts → Parts → Parts
around kind inside rest = Child kind 0 inside 0 rest

-- the inner nodes of the tree's root
abbrev pub inside_root : Parts
inside_root =
    around ClassDeclaration (around VariableId NoMore (around Block (around VariableId NoMore NoMore) NoMore))
    (around ClassDeclaration (around Block (around VariableId NoMore NoMore) (around VariableId NoMore (around Block NoMore NoMore)))
    (around MethodDeclaration (around Block NoMore NoMore) NoMore))

abbrev pub nodes : Parts
nodes = around CompilationUnit inside_root NoMore
