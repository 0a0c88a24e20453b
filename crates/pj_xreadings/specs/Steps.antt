-- The trees of steps and calls (XPath 2.0, 3.1.5 and 3.2).
use Rattle.std.specs.Prelude.{List, [], ◌∷◌, Option, Some, None}
use Rattle.pj_xexpressions.specs.declared.axis.Axis.{Axis}
use Rattle.pj_xexpressions.specs.declared.axis.Axis.TheVariants as axis
use Rattle.pj_xexpressions.specs.declared.expr.NodeTest.{NodeTest}
use Rattle.pj_xexpressions.specs.declared.expr.NodeTest.TheVariants.{AnyNode}
use Rattle.pj_xexpressions.specs.declared.name.Callee.{Callee}
use Rattle.pj_xexpressions.specs.declared.name.Callee.TheVariants as callee
use Rattle.pj_xexpressions.specs.Trees as tree
use Rattle.pj_xexpressions.specs.Trees.{Tree, node, alone}

-- a step to children
abbrev pub child_step : NodeTest → List Tree → Tree
child_step t predicates = node (tree.Step axis.Child t) predicates

-- `//` stands for `/descendant-or-self::node()/`
abbrev pub descendants : Tree
descendants = alone (tree.Step axis.DescendantOrSelf AnyNode)

-- a step of an axis; that which is none of nodes is `attribute`
abbrev pub along : Option Axis → NodeTest → List Tree → Tree
along (Some a) t predicates = node (tree.Step a t) predicates
along None t predicates = node (tree.AttributeStep t) predicates

-- an expression with its predicates, if there are any
abbrev pub filtered : Tree → List Tree → Tree
filtered primary [] = primary
filtered primary (first ∷ more) = node tree.Filter (primary ∷ first ∷ more)

-- the empty sequence (3.1.3)
abbrev pub empty_sequence : Tree
empty_sequence = node tree.Comma []

-- a call; where there is no such function the empty sequence stands for it
abbrev pub called : Option Callee → List Tree → Tree
called (Some (callee.XPath function)) arguments = node (tree.Call function) arguments
called (Some (callee.Pmd function)) arguments = node (tree.PmdCall function) arguments
called None arguments = empty_sequence
