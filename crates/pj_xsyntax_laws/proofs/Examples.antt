-- Examples of the printed form.
use Rattle.std.proofs.Common.{◌≡◌, [], ◌∷◌, codes, refl}
use Rattle.pj_xexpressions.specs.declared.axis.Axis.TheVariants as axis
use Rattle.pj_xexpressions.specs.declared.expr.NodeTest.TheVariants.{AnyName, AnyNode}
use Rattle.pj_xexpressions.specs.declared.function.Function.TheVariants as f
use Rattle.pj_xexpressions.specs.Trees.{node, alone, Path, Root, Step, Or, And, ContextItem, Call}
use Rattle.pj_xsyntax_laws.specs.Printed.{printed, printed_of, printed_each}

-- a `/` before a word is in parentheses, and an operator of a lower level too
lone_slash : printed (node And (alone Root ∷ node Or (alone Root ∷ alone ContextItem ∷ []) ∷ [])) ≡ codes "( / ) and ( ( / ) or . ) "
unfolding printed_of printed_each
lone_slash = refl

path : printed (node Path (alone Root ∷ node (Step axis.Child AnyName) (node (Call f.Position) [] ∷ []) ∷ alone (Step axis.Parent AnyNode) ∷ [])) ≡ codes "/ child :: * [ position ( ) ] / .. "
unfolding printed_of printed_each
path = refl

-- `//` stands for one step `descendant-or-self::node()`, and not for the last
descendants : printed (node Path (alone Root ∷ alone (Step axis.DescendantOrSelf AnyNode) ∷ alone (Step axis.Child AnyName) ∷ alone (Step axis.DescendantOrSelf AnyNode) ∷ [])) ≡
    codes "// child :: * / descendant-or-self :: node ( ) "
unfolding printed_of printed_each
descendants = refl
