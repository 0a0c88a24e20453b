-- The groups of kinds of nodes that queries ask for.
use Rattle.std.specs.Prelude.{ℕ, Bool, false, not, ◌&&◌, ◌||◌, List, [], ◌∷◌, codes, nat_eq, Option, Some, None, if◌then◌else◌}
use Rattle.std.specs.List.{ends_with}
use Rattle.std.specs.Cmp.Lexicographic.{pointwise}
use Rattle.pj_tree.specs.Tree.{Tree, kind_of}
use Rattle.pj_tree.specs.Kind.{name_of}
use Rattle.pj_tree.specs.declared.kind.Kind.{Kind}
use Rattle.pj_tree.specs.declared.node.Node.{Node}
use Rattle.pj_xexpressions.specs.Among.{is_among}

-- the literals (JLS 15.8.1): the kinds that end in `Literal`, but class literals
abbrev pub is_literal : List ℕ → Bool
is_literal kind = ends_with nat_eq kind (codes "Literal") && not (pointwise nat_eq kind (codes "ClassLiteral"))

-- the kinds of expressions that are no literals (JLS 15), and array initializers (JLS 10.6)
unfoldable pub other_expressions : List (List ℕ)
other_expressions =
    codes "ClassLiteral" ∷ codes "ThisExpression" ∷ codes "SuperExpression" ∷ codes "TypeExpression" ∷ codes "PatternExpression" ∷ codes "VariableAccess" ∷ codes "FieldAccess"
    ∷ codes "ArrayAccess" ∷ codes "MethodCall" ∷ codes "MethodReference" ∷ codes "ConstructorCall" ∷ codes "ArrayAllocation" ∷ codes "ArrayInitializer" ∷ codes "InfixExpression"
    ∷ codes "UnaryExpression" ∷ codes "AssignmentExpression" ∷ codes "ConditionalExpression" ∷ codes "CastExpression" ∷ codes "LambdaExpression" ∷ codes "SwitchExpression" ∷ []

-- expressions (JLS 15)
abbrev pub is_expression : List ℕ → Bool
is_expression kind = is_literal kind || is_among kind other_expressions

-- the kinds of statements whose names do not end so: blocks (JLS 14.2) and declarations of local variables (JLS 14.4)
unfoldable pub other_statements : List (List ℕ)
other_statements = codes "Block" ∷ codes "LocalVariableDeclaration" ∷ []

-- statements (JLS 14.5)
abbrev pub is_statement : List ℕ → Bool
is_statement kind = ends_with nat_eq kind (codes "Statement") || is_among kind other_statements

-- the five kinds of declarations of classes and interfaces (JLS 8.1, 8.9, 8.10, 9.6, 15.9.5)
unfoldable pub type_declarations : List (List ℕ)
type_declarations = codes "ClassDeclaration" ∷ codes "EnumDeclaration" ∷ codes "RecordDeclaration" ∷ codes "AnnotationTypeDeclaration" ∷ codes "AnonymousClassDeclaration" ∷ []

-- whether a kind is in the group of a name; of any other name there is no group
abbrev pub is_in_group : List ℕ → List ℕ → Bool
is_in_group group kind =
    if pointwise nat_eq group (codes "Expression") then is_expression kind
    else if pointwise nat_eq group (codes "Statement") then is_statement kind
    else if pointwise nat_eq group (codes "TypeDeclaration") then is_among kind type_declarations
    else if pointwise nat_eq group (codes "Type") then ends_with nat_eq kind (codes "Type")
    else if pointwise nat_eq group (codes "Literal") then is_literal kind
    else false

-- a kind of this name, or of the group of this name
abbrev pub is_kind_named : List ℕ → List ℕ → Bool
is_kind_named text kind = pointwise nat_eq text kind || is_in_group text kind

abbrev pub is_kind_of : List ℕ → Option Kind → Bool
is_kind_of text None = false
is_kind_of text (Some kind) = is_kind_named text (name_of kind)

-- whether the context node is of the kind, or of the group, of a name; without a node it is not
abbrev pub node_is : Tree → Option Node → List ℕ → Bool
node_is tree None text = false
node_is tree (Some n) text = is_kind_of text (kind_of tree n)
