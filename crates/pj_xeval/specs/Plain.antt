-- Steps without predicates over items. This serves private clauses.
use Rattle.std.specs.Prelude.{◌≡◌, List, ◌∷◌, Vec, if◌then◌else◌}
use Rattle.std.specs.Global.{Global}
use Rattle.pj_tree.specs.Tree.{Tree}
use Rattle.pj_xexpressions.specs.declared.axis.Axis.{Axis}
use Rattle.pj_xexpressions.specs.declared.axis.Axis.TheVariants.{Child}
use Rattle.pj_xexpressions.specs.declared.expr.Expr.{Expr}
use Rattle.pj_xexpressions.specs.declared.expr.Expr.TheVariants as expr
use Rattle.pj_xexpressions.specs.declared.expr.NodeTest.{NodeTest}
use Rattle.pj_xvalue.specs.declared.fault.XCode.TheVariants.{XPTY0019}
use Rattle.pj_xvalue.specs.Items.{ItemValue, are_nodes}
use Rattle.pj_xsteps.specs.Means.{Means, fail}
use Rattle.pj_xsteps.specs.Context.{Variables, Denotation}
use Rattle.pj_xeval.specs.Over.{stepped_at_each}
use Rattle.pj_xframes.specs.declared.frame.Turn.TheVariants as turn
use Rattle.pj_xframes.specs.Frames.{finished}

-- what such a step, and those behind it, come to over items
abbrev pub plain_step : Tree → Axis → NodeTest → Variables → List Denotation → List ItemValue → Means (List ItemValue)
plain_step t axis test variables ds items = if are_nodes items then finished turn.Step variables ds (stepped_at_each t axis test items) else fail XPTY0019

-- the first of some steps goes along `child`, with this test
pub record BeginsBelow (test : NodeTest) (steps : List Expr) : Type 0 where
  pub predicates : Vec Expr Global
  pub behind : List Expr
  pub is : steps ≡ expr.Step Child test predicates ∷ behind
