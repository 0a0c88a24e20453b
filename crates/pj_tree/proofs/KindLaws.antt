-- No two kinds have one name.
use Rattle.std.proofs.Common.{ℕ, ◌≡◌, List, [], ◌∷◌, refl, ap, sym, ◌∙◌, nat_eq, Option, Some}
use Rattle.std.specs.List.{find}
use Rattle.std.specs.Cmp.Lexicographic.{pointwise}
use Rattle.pj_tree.specs.Kind.{name_of}
use Rattle.pj_tree.specs.declared.kind.Kind.{Kind}
use Rattle.pj_tree.specs.declared.kind.Kind.TheVariants as k

-- the kinds in order
abbrev all_kinds : List Kind
all_kinds =
    k.CompilationUnit
    ∷ k.PackageDeclaration
    ∷ k.ImportDeclaration
    ∷ k.EmptyDeclaration
    ∷ k.ModifierList
    ∷ k.Annotation
    ∷ k.ClassType
    ∷ k.AnnotationMemberList
    ∷ k.MemberValuePair
    ∷ k.MemberValueArrayInitializer
    ∷ k.ClassDeclaration
    ∷ k.EnumDeclaration
    ∷ k.RecordDeclaration
    ∷ k.AnnotationTypeDeclaration
    ∷ k.ExtendsList
    ∷ k.ImplementsList
    ∷ k.PermitsList
    ∷ k.ThrowsList
    ∷ k.TypeParameters
    ∷ k.TypeParameter
    ∷ k.IntersectionType
    ∷ k.ClassBody
    ∷ k.AnnotationTypeBody
    ∷ k.RecordBody
    ∷ k.EnumBody
    ∷ k.EnumConstant
    ∷ k.AnonymousClassDeclaration
    ∷ k.RecordComponentList
    ∷ k.RecordComponent
    ∷ k.CompactConstructorDeclaration
    ∷ k.Initializer
    ∷ k.ConstructorDeclaration
    ∷ k.Block
    ∷ k.ExplicitConstructorInvocation
    ∷ k.MethodDeclaration
    ∷ k.DefaultValue
    ∷ k.FieldDeclaration
    ∷ k.VariableDeclarator
    ∷ k.ArrayInitializer
    ∷ k.VariableId
    ∷ k.ArrayDimensions
    ∷ k.ArrayTypeDim
    ∷ k.FormalParameters
    ∷ k.ReceiverParameter
    ∷ k.FormalParameter
    ∷ k.ArrayType
    ∷ k.PrimitiveType
    ∷ k.VoidType
    ∷ k.TypeArguments
    ∷ k.WildcardType
    ∷ k.LocalClassStatement
    ∷ k.LocalVariableDeclaration
    ∷ k.LabeledStatement
    ∷ k.IfStatement
    ∷ k.WhileStatement
    ∷ k.DoStatement
    ∷ k.ForeachStatement
    ∷ k.ForStatement
    ∷ k.ForInit
    ∷ k.ForUpdate
    ∷ k.StatementExpressionList
    ∷ k.TryStatement
    ∷ k.ResourceList
    ∷ k.Resource
    ∷ k.CatchClause
    ∷ k.CatchParameter
    ∷ k.UnionType
    ∷ k.FinallyClause
    ∷ k.SwitchStatement
    ∷ k.SwitchExpression
    ∷ k.SwitchArrowBranch
    ∷ k.SwitchFallthroughBranch
    ∷ k.SwitchLabel
    ∷ k.SynchronizedStatement
    ∷ k.ReturnStatement
    ∷ k.ThrowStatement
    ∷ k.BreakStatement
    ∷ k.ContinueStatement
    ∷ k.AssertStatement
    ∷ k.YieldStatement
    ∷ k.EmptyStatement
    ∷ k.ExpressionStatement
    ∷ k.LambdaExpression
    ∷ k.LambdaParameterList
    ∷ k.LambdaParameter
    ∷ k.AssignmentExpression
    ∷ k.ConditionalExpression
    ∷ k.InfixExpression
    ∷ k.PatternExpression
    ∷ k.TypePattern
    ∷ k.TypeExpression
    ∷ k.UnaryExpression
    ∷ k.CastExpression
    ∷ k.MethodCall
    ∷ k.FieldAccess
    ∷ k.ConstructorCall
    ∷ k.ArrayAccess
    ∷ k.MethodReference
    ∷ k.NumericLiteral
    ∷ k.StringLiteral
    ∷ k.CharLiteral
    ∷ k.BooleanLiteral
    ∷ k.NullLiteral
    ∷ k.ClassLiteral
    ∷ k.ThisExpression
    ∷ k.SuperExpression
    ∷ k.ArrayAllocation
    ∷ k.ArrayDimExpr
    ∷ k.VariableAccess
    ∷ k.ArgumentList
    ∷ []

-- the first kind of a name
abbrev kind_named : List ℕ → Option Kind
kind_named name = find (λ kind. pointwise nat_eq (name_of kind) name) all_kinds

kind_named-name_of : (kind : Kind) → kind_named (name_of kind) ≡ Some kind
kind_named-name_of k.CompilationUnit = refl
kind_named-name_of k.PackageDeclaration = refl
kind_named-name_of k.ImportDeclaration = refl
kind_named-name_of k.EmptyDeclaration = refl
kind_named-name_of k.ModifierList = refl
kind_named-name_of k.Annotation = refl
kind_named-name_of k.ClassType = refl
kind_named-name_of k.AnnotationMemberList = refl
kind_named-name_of k.MemberValuePair = refl
kind_named-name_of k.MemberValueArrayInitializer = refl
kind_named-name_of k.ClassDeclaration = refl
kind_named-name_of k.EnumDeclaration = refl
kind_named-name_of k.RecordDeclaration = refl
kind_named-name_of k.AnnotationTypeDeclaration = refl
kind_named-name_of k.ExtendsList = refl
kind_named-name_of k.ImplementsList = refl
kind_named-name_of k.PermitsList = refl
kind_named-name_of k.ThrowsList = refl
kind_named-name_of k.TypeParameters = refl
kind_named-name_of k.TypeParameter = refl
kind_named-name_of k.IntersectionType = refl
kind_named-name_of k.ClassBody = refl
kind_named-name_of k.AnnotationTypeBody = refl
kind_named-name_of k.RecordBody = refl
kind_named-name_of k.EnumBody = refl
kind_named-name_of k.EnumConstant = refl
kind_named-name_of k.AnonymousClassDeclaration = refl
kind_named-name_of k.RecordComponentList = refl
kind_named-name_of k.RecordComponent = refl
kind_named-name_of k.CompactConstructorDeclaration = refl
kind_named-name_of k.Initializer = refl
kind_named-name_of k.ConstructorDeclaration = refl
kind_named-name_of k.Block = refl
kind_named-name_of k.ExplicitConstructorInvocation = refl
kind_named-name_of k.MethodDeclaration = refl
kind_named-name_of k.DefaultValue = refl
kind_named-name_of k.FieldDeclaration = refl
kind_named-name_of k.VariableDeclarator = refl
kind_named-name_of k.ArrayInitializer = refl
kind_named-name_of k.VariableId = refl
kind_named-name_of k.ArrayDimensions = refl
kind_named-name_of k.ArrayTypeDim = refl
kind_named-name_of k.FormalParameters = refl
kind_named-name_of k.ReceiverParameter = refl
kind_named-name_of k.FormalParameter = refl
kind_named-name_of k.ArrayType = refl
kind_named-name_of k.PrimitiveType = refl
kind_named-name_of k.VoidType = refl
kind_named-name_of k.TypeArguments = refl
kind_named-name_of k.WildcardType = refl
kind_named-name_of k.LocalClassStatement = refl
kind_named-name_of k.LocalVariableDeclaration = refl
kind_named-name_of k.LabeledStatement = refl
kind_named-name_of k.IfStatement = refl
kind_named-name_of k.WhileStatement = refl
kind_named-name_of k.DoStatement = refl
kind_named-name_of k.ForeachStatement = refl
kind_named-name_of k.ForStatement = refl
kind_named-name_of k.ForInit = refl
kind_named-name_of k.ForUpdate = refl
kind_named-name_of k.StatementExpressionList = refl
kind_named-name_of k.TryStatement = refl
kind_named-name_of k.ResourceList = refl
kind_named-name_of k.Resource = refl
kind_named-name_of k.CatchClause = refl
kind_named-name_of k.CatchParameter = refl
kind_named-name_of k.UnionType = refl
kind_named-name_of k.FinallyClause = refl
kind_named-name_of k.SwitchStatement = refl
kind_named-name_of k.SwitchExpression = refl
kind_named-name_of k.SwitchArrowBranch = refl
kind_named-name_of k.SwitchFallthroughBranch = refl
kind_named-name_of k.SwitchLabel = refl
kind_named-name_of k.SynchronizedStatement = refl
kind_named-name_of k.ReturnStatement = refl
kind_named-name_of k.ThrowStatement = refl
kind_named-name_of k.BreakStatement = refl
kind_named-name_of k.ContinueStatement = refl
kind_named-name_of k.AssertStatement = refl
kind_named-name_of k.YieldStatement = refl
kind_named-name_of k.EmptyStatement = refl
kind_named-name_of k.ExpressionStatement = refl
kind_named-name_of k.LambdaExpression = refl
kind_named-name_of k.LambdaParameterList = refl
kind_named-name_of k.LambdaParameter = refl
kind_named-name_of k.AssignmentExpression = refl
kind_named-name_of k.ConditionalExpression = refl
kind_named-name_of k.InfixExpression = refl
kind_named-name_of k.PatternExpression = refl
kind_named-name_of k.TypePattern = refl
kind_named-name_of k.TypeExpression = refl
kind_named-name_of k.UnaryExpression = refl
kind_named-name_of k.CastExpression = refl
kind_named-name_of k.MethodCall = refl
kind_named-name_of k.FieldAccess = refl
kind_named-name_of k.ConstructorCall = refl
kind_named-name_of k.ArrayAccess = refl
kind_named-name_of k.MethodReference = refl
kind_named-name_of k.NumericLiteral = refl
kind_named-name_of k.StringLiteral = refl
kind_named-name_of k.CharLiteral = refl
kind_named-name_of k.BooleanLiteral = refl
kind_named-name_of k.NullLiteral = refl
kind_named-name_of k.ClassLiteral = refl
kind_named-name_of k.ThisExpression = refl
kind_named-name_of k.SuperExpression = refl
kind_named-name_of k.ArrayAllocation = refl
kind_named-name_of k.ArrayDimExpr = refl
kind_named-name_of k.VariableAccess = refl
kind_named-name_of k.ArgumentList = refl

pub name_of-same : (a b : Kind) → name_of a ≡ name_of b → a ≡ b
name_of-same a b e =
    let same : Some a ≡ Some b = sym (kind_named-name_of a) ∙ (ap kind_named e ∙ kind_named-name_of b) in
    cc
