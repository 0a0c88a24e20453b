-- What the operators and words stand for of which expressions are made.
use Rattle.std.specs.Prelude.{ℕ, List}
use Rattle.pj_xexpressions.specs.declared.expr.NodeTest.{NodeTest}
use Rattle.pj_xexpressions.specs.declared.expr.NodeTest.TheVariants.{AnyNode, AnyElement}
use Rattle.pj_xexpressions.specs.Trees as tree
use Rattle.pj_xexpressions.specs.Trees.{Construct}
use Rattle.pj_xreadings.specs.declared.operation.Chain.{Chain}
use Rattle.pj_xreadings.specs.declared.operation.Chain.TheVariants as chains
use Rattle.pj_xreadings.specs.declared.clause.Binder.{Binder}
use Rattle.pj_xreadings.specs.declared.clause.Binder.TheVariants as binding
use Rattle.pj_xreadings.specs.declared.step.Kind.{Kind}
use Rattle.pj_xreadings.specs.declared.step.Kind.TheVariants as kind

-- the operator of a chain
abbrev pub construct_of : Chain → Construct
construct_of chains.Comma = tree.Comma
construct_of chains.Or = tree.Or
construct_of chains.And = tree.And
construct_of chains.Concatenation = tree.Concatenation
construct_of chains.Union = tree.Union
construct_of chains.SimpleMap = tree.SimpleMap

-- the word before variables
abbrev pub binder_of : Binder → List (List ℕ) → Construct
binder_of binding.For = tree.For
binder_of binding.Let = tree.Let
binder_of (binding.Quantified quantifier) = tree.Quantified quantifier

-- the word of a kind test
abbrev pub kind_of : Kind → NodeTest
kind_of kind.Node = AnyNode
kind_of kind.Element = AnyElement
