-- Nodes that are no names and no declarations of variables.
use Rattle.std.proofs.Common.{◌≡◌, List, Some, refl}
use Rattle.pj_tree.specs.Tree.{Tree}
use Rattle.pj_tree.specs.declared.kind.Kind.{Kind}
use Rattle.pj_tree.specs.declared.kind.Kind.TheVariants as k
use Rattle.pj_tree.specs.declared.node.Node.{Node}
use Rattle.pj_names.specs.JavaType.{JavaType}
use Rattle.pj_exprtypes.specs.Expressions.{expression_with}
use Rattle.pj_exprtypes.specs.TypeOf.{type_with}
use Rattle.pj_exprtypes.specs.Typing.{known}

pub other-kind : (t : Tree) (n : Node) (types : List JavaType) (kind : Kind)
    → (kind ≡ k.VariableAccess → ⊥)
    → (kind ≡ k.MethodCall → ⊥)
    → (kind ≡ k.VariableId → ⊥)
    → (kind ≡ k.VariableDeclarator → ⊥)
    → (kind ≡ k.FormalParameter → ⊥)
    → (kind ≡ k.LambdaParameter → ⊥)
    → (kind ≡ k.CatchParameter → ⊥)
    → (kind ≡ k.RecordComponent → ⊥)
    → (kind ≡ k.EnumConstant → ⊥)
    → (kind ≡ k.FieldDeclaration → ⊥)
    → (kind ≡ k.LocalVariableDeclaration → ⊥)
    → type_with t n (Some kind) types ≡ known (expression_with t n (Some kind) types)
other-kind t n types k.VariableAccess a m b c d e f g h i j = absurd (a refl)
other-kind t n types k.MethodCall a m b c d e f g h i j = absurd (m refl)
other-kind t n types k.VariableId a m b c d e f g h i j = absurd (b refl)
other-kind t n types k.VariableDeclarator a m b c d e f g h i j = absurd (c refl)
other-kind t n types k.FormalParameter a m b c d e f g h i j = absurd (d refl)
other-kind t n types k.LambdaParameter a m b c d e f g h i j = absurd (e refl)
other-kind t n types k.CatchParameter a m b c d e f g h i j = absurd (f refl)
other-kind t n types k.RecordComponent a m b c d e f g h i j = absurd (g refl)
other-kind t n types k.EnumConstant a m b c d e f g h i j = absurd (h refl)
other-kind t n types k.FieldDeclaration a m b c d e f g h i j = absurd (i refl)
other-kind t n types k.LocalVariableDeclaration a m b c d e f g h i j = absurd (j refl)
other-kind t n types other a m b c d e f g h i j = refl
