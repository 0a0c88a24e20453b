-- The attributes of nodes: for each kind the names in their order, and beside each the property that gives its value.
--
-- `text`, `number` and `flag` say of what type the property is, and so the attribute. What each property is of a node stands in
-- `Texts`, `Numbers` and `Flags` of the crate of properties. A text or number is absent where the node tells none.
use Rattle.std.specs.Prelude.{ℕ, Bool, true, false, if◌then◌else◌, List, [], ◌∷◌, ◌++◌, codes}
use Prim.Native.String.{String}
use Rattle.pj_tree.specs.declared.kind.Kind.{Kind}
use Rattle.pj_tree.specs.declared.kind.Kind.TheVariants as k
use Rattle.pj_symbols.specs.declared.class.Nesting.TheVariants as nested
use Rattle.pj_symbols.specs.declared.variable.VariableKind.TheVariants as v
use Rattle.pj_xvalue.specs.declared.modifiers.Modifier.TheVariants as m
use Rattle.pj_properties.specs.declared.property.Property.{Property}
use Rattle.pj_properties.specs.declared.property.Property.TheVariants as property
use Rattle.pj_properties.specs.declared.property.TextProperty.{TextProperty}
use Rattle.pj_properties.specs.declared.property.TextProperty.TheVariants as t
use Rattle.pj_properties.specs.declared.property.NumberProperty.{NumberProperty}
use Rattle.pj_properties.specs.declared.property.NumberProperty.TheVariants as n
use Rattle.pj_properties.specs.declared.property.FlagProperty.{FlagProperty}
use Rattle.pj_properties.specs.declared.property.FlagProperty.TheVariants as f
use Rattle.pj_properties.specs.declared.property.Word.TheVariants as w

-- an attribute of a kind: its name, and what gives its value
abbrev pub Row : Type 0
Row = List ℕ × Property

infix 90 ◌⇐◌
abbrev pub ◌⇐◌ : String → Property → Row
name ⇐ property = (codes name, property)

abbrev pub text : TextProperty → Property
text p = property.Text p

abbrev pub number : NumberProperty → Property
number p = property.Number p

abbrev pub flag : FlagProperty → Property
flag p = property.Flag p

-- ---- declarations

-- a class or an interface: JLS 8.1, 8.9, 8.10, 9.1, 9.6, 15.9.5
abbrev pub class_attributes : List Row
class_attributes =
    "Abstract" ⇐ flag (f.Modifier m.Abstract)
    ∷ "Annotation" ⇐ flag (f.Kind k.AnnotationTypeDeclaration)
    ∷ "Anonymous" ⇐ flag (f.Nesting nested.Anonymous)
    ∷ "BinaryName" ⇐ text t.BinaryName
    ∷ "Enum" ⇐ flag (f.Kind k.EnumDeclaration)
    ∷ "Final" ⇐ flag (f.Modifier m.Final)
    ∷ "Interface" ⇐ flag f.Interface
    ∷ "Local" ⇐ flag (f.Nesting nested.Local)
    ∷ "Nested" ⇐ flag (f.Nesting nested.Nested)
    ∷ "PackageName" ⇐ text t.PackageName
    ∷ "Record" ⇐ flag (f.Kind k.RecordDeclaration)
    ∷ "RegularClass" ⇐ flag f.RegularClass
    ∷ "RegularInterface" ⇐ flag f.RegularInterface
    ∷ "SimpleName" ⇐ text t.LastWord
    ∷ "Static" ⇐ flag (f.Modifier m.Static)
    ∷ "TopLevel" ⇐ flag (f.Nesting nested.TopLevel)
    ∷ "Visibility" ⇐ text t.ClassVisibility
    ∷ []

-- the name of a variable, whose declaration says what it is
abbrev pub variable_attributes : List Row
variable_attributes =
    "ArrayType" ⇐ flag f.ArrayVariable
    ∷ "EnumConstant" ⇐ flag (f.Variable v.EnumConstant)
    ∷ "ExceptionBlockParameter" ⇐ flag (f.Variable v.ExceptionParameter)
    ∷ "Field" ⇐ flag (f.Variable v.Field)
    ∷ "Final" ⇐ flag (f.Modifier m.Final)
    ∷ "ForLoopVariable" ⇐ flag (f.Variable v.ForLoopVariable)
    ∷ "ForeachVariable" ⇐ flag (f.Variable v.ForeachVariable)
    ∷ "FormalParameter" ⇐ flag (f.Variable v.FormalParameter)
    ∷ "LambdaParameter" ⇐ flag (f.Variable v.LambdaParameter)
    ∷ "LocalVariable" ⇐ flag (f.Variable v.LocalVariable)
    ∷ "Name" ⇐ text t.FirstWord
    ∷ "PatternBinding" ⇐ flag (f.Variable v.PatternBinding)
    ∷ "RecordComponent" ⇐ flag (f.Variable v.RecordComponent)
    ∷ "ResourceDeclaration" ⇐ flag (f.Variable v.Resource)
    ∷ "TypeInferred" ⇐ flag f.VariableInferred
    ∷ "Visibility" ⇐ text t.VariableVisibility
    ∷ []

-- ---- expressions

-- before those of its kind, each expression has these
abbrev pub is_expression : Kind → Bool
is_expression k.NumericLiteral = true
is_expression k.StringLiteral = true
is_expression k.CharLiteral = true
is_expression k.BooleanLiteral = true
is_expression k.NullLiteral = true
is_expression k.ClassLiteral = true
is_expression k.ThisExpression = true
is_expression k.SuperExpression = true
is_expression k.TypeExpression = true
is_expression k.PatternExpression = true
is_expression k.VariableAccess = true
is_expression k.FieldAccess = true
is_expression k.ArrayAccess = true
is_expression k.MethodCall = true
is_expression k.MethodReference = true
is_expression k.ConstructorCall = true
is_expression k.ArrayAllocation = true
is_expression k.ArrayInitializer = true
is_expression k.InfixExpression = true
is_expression k.UnaryExpression = true
is_expression k.AssignmentExpression = true
is_expression k.ConditionalExpression = true
is_expression k.CastExpression = true
is_expression k.LambdaExpression = true
is_expression k.SwitchExpression = true
is_expression other = false

abbrev pub expression_attributes : List Row
expression_attributes = "Parenthesized" ⇐ flag f.Parenthesized ∷ "ParenthesisDepth" ⇐ number n.ParenthesisDepth ∷ []

-- an access to a variable, by its name alone or behind an expression
abbrev pub access_attributes : List Row
access_attributes = "AccessType" ⇐ text t.AccessType ∷ "Name" ⇐ text t.LastWord ∷ []

-- a `switch` (JLS 14.11.1): a label is `default`; it has branches with colons, which a `switch` without branches has not
abbrev pub switch_attributes : List Row
switch_attributes = "DefaultCase" ⇐ flag f.DefaultCase ∷ "FallthroughSwitch" ⇐ flag (f.Child k.SwitchFallthroughBranch) ∷ []

-- ---- the table

abbrev pub own_attributes : Kind → List Row
own_attributes k.CompilationUnit = "PackageName" ⇐ text t.PackageName ∷ []
own_attributes k.PackageDeclaration = "Name" ⇐ text t.Kept ∷ []
own_attributes k.EnumConstant = "Name" ⇐ text t.VariableName ∷ []
own_attributes k.TypeParameter = "Name" ⇐ text t.FirstWord ∷ []
own_attributes k.ImportDeclaration =
    "ImportOnDemand" ⇐ flag (f.Word w.Star)
    ∷ "ImportedName" ⇐ text t.Kept
    ∷ "ImportedSimpleName" ⇐ text t.ImportedSimpleName
    ∷ "PackageName" ⇐ text t.ImportedPackage
    ∷ "Static" ⇐ flag (f.Word w.Static)
    ∷ []
own_attributes k.ClassDeclaration = class_attributes
own_attributes k.EnumDeclaration = class_attributes
own_attributes k.RecordDeclaration = class_attributes
own_attributes k.AnnotationTypeDeclaration = class_attributes
own_attributes k.AnonymousClassDeclaration = class_attributes
own_attributes k.MethodDeclaration =
    "Abstract" ⇐ flag (f.Modifier m.Abstract)
    ∷ "Arity" ⇐ number n.Arity
    ∷ "Final" ⇐ flag (f.Modifier m.Final)
    ∷ "Name" ⇐ text t.FirstWord
    ∷ "Static" ⇐ flag (f.Modifier m.Static)
    ∷ "Varargs" ⇐ flag f.VarargsMethod
    ∷ "Visibility" ⇐ text t.MemberVisibility
    ∷ "Void" ⇐ flag (f.Child k.VoidType)
    ∷ []
own_attributes k.ConstructorDeclaration =
    "Arity" ⇐ number n.Arity
    ∷ "Name" ⇐ text t.FirstWord
    ∷ "Varargs" ⇐ flag f.VarargsMethod
    ∷ "Visibility" ⇐ text t.MemberVisibility
    ∷ []
own_attributes k.CompactConstructorDeclaration = "Name" ⇐ text t.FirstWord ∷ "Visibility" ⇐ text t.MemberVisibility ∷ []
own_attributes k.FieldDeclaration =
    "Final" ⇐ flag (f.Modifier m.Final)
    ∷ "Static" ⇐ flag (f.Modifier m.Static)
    ∷ "Visibility" ⇐ text t.MemberVisibility
    ∷ []
own_attributes k.LocalVariableDeclaration = "Final" ⇐ flag (f.Modifier m.Final) ∷ "TypeInferred" ⇐ flag f.TypeInferred ∷ []
own_attributes k.LambdaParameter = "Final" ⇐ flag (f.Modifier m.Final) ∷ "TypeInferred" ⇐ flag f.TypeInferred ∷ []
own_attributes k.FormalParameter = "Final" ⇐ flag (f.Modifier m.Final) ∷ "Varargs" ⇐ flag f.VarargsParameter ∷ []
own_attributes k.CatchParameter = "Final" ⇐ flag (f.Modifier m.Final) ∷ "Multicatch" ⇐ flag (f.Child k.UnionType) ∷ []
own_attributes k.RecordComponent = "Varargs" ⇐ flag f.VarargsParameter ∷ []
own_attributes k.ArrayTypeDim = "Varargs" ⇐ flag (f.Word w.Ellipsis) ∷ []
own_attributes k.FormalParameters = "Size" ⇐ number n.ParameterCount ∷ []
own_attributes k.ArgumentList = "Size" ⇐ number n.ChildCount ∷ []
own_attributes k.ArrayDimensions = "Size" ⇐ number n.ChildCount ∷ []
own_attributes k.VariableId = variable_attributes
own_attributes k.Initializer = "Static" ⇐ flag (f.Word w.Static) ∷ []
own_attributes k.Annotation = "SimpleName" ⇐ text t.TypeName ∷ []
own_attributes k.MemberValuePair = "Name" ⇐ text t.PairName ∷ "Shorthand" ⇐ flag f.Shorthand ∷ []
own_attributes k.ClassType =
    "FullyQualified" ⇐ flag f.FullyQualified
    ∷ "PackageQualifier" ⇐ text t.Kept
    ∷ "SimpleName" ⇐ text t.LastWord
    ∷ []
own_attributes k.TypeArguments = "Diamond" ⇐ flag f.Childless ∷ "Size" ⇐ number n.ChildCount ∷ []
own_attributes k.PrimitiveType = "Kind" ⇐ text t.LastWord ∷ []
own_attributes k.WildcardType = "LowerBound" ⇐ flag (f.Word w.Super) ∷ "UpperBound" ⇐ flag (f.Word w.Extends) ∷ []
own_attributes k.NumericLiteral =
    "Base" ⇐ number n.Radix
    ∷ "ConstValue" ⇐ number n.IntegerValue
    ∷ "DoubleLiteral" ⇐ flag f.DoubleLiteral
    ∷ "FloatLiteral" ⇐ flag f.FloatLiteral
    ∷ "Image" ⇐ text t.Spelling
    ∷ "IntLiteral" ⇐ flag f.IntLiteral
    ∷ "LongLiteral" ⇐ flag f.LongLiteral
    ∷ []
own_attributes k.StringLiteral =
    "ConstValue" ⇐ text t.Kept
    ∷ "Empty" ⇐ flag f.EmptyValue
    ∷ "Image" ⇐ text t.Spelling
    ∷ "Length" ⇐ number n.ValueLength
    ∷ "TextBlock" ⇐ flag f.TextBlock
    ∷ []
own_attributes k.CharLiteral = "ConstValue" ⇐ text t.Kept ∷ "Image" ⇐ text t.Spelling ∷ []
own_attributes k.BooleanLiteral = "ConstValue" ⇐ flag f.True ∷ "True" ⇐ flag f.True ∷ []
own_attributes k.InfixExpression = "Operator" ⇐ text t.Operator ∷ []
own_attributes k.UnaryExpression = "Operator" ⇐ text t.Operator ∷ "Prefix" ⇐ flag f.Prefix ∷ []
own_attributes k.AssignmentExpression = "Compound" ⇐ flag f.Compound ∷ "Operator" ⇐ text t.Operator ∷ []
own_attributes k.MethodCall = "MethodName" ⇐ text t.LastWord ∷ []
own_attributes k.MethodReference = "ConstructorReference" ⇐ flag f.ConstructorReference ∷ "MethodName" ⇐ text t.LastWord ∷ []
own_attributes k.ConstructorCall =
    "AnonymousClass" ⇐ flag (f.Child k.AnonymousClassDeclaration) ∷ "DiamondTypeArgs" ⇐ flag f.Diamond ∷ []
own_attributes k.FieldAccess = access_attributes
own_attributes k.VariableAccess = access_attributes
own_attributes k.LambdaExpression =
    "Arity" ⇐ number n.LambdaArity
    ∷ "BlockBody" ⇐ flag (f.Child k.Block)
    ∷ "ExpressionBody" ⇐ flag (f.NoChild k.Block)
    ∷ []
own_attributes k.ExplicitConstructorInvocation =
    "ArgumentCount" ⇐ number n.ArgumentCount
    ∷ "Qualified" ⇐ flag (f.Word w.Dot)
    ∷ "Super" ⇐ flag (f.Word w.Super)
    ∷ "This" ⇐ flag (f.Word w.This)
    ∷ []
own_attributes k.ArrayAllocation = "ArrayDepth" ⇐ number n.ArrayDepth ∷ []
own_attributes k.IfStatement = "Else" ⇐ flag (f.Word w.Else) ∷ []
own_attributes k.LabeledStatement = "Label" ⇐ text t.FirstWord ∷ []
own_attributes k.BreakStatement = "Label" ⇐ text t.JumpLabel ∷ []
own_attributes k.ContinueStatement = "Label" ⇐ text t.JumpLabel ∷ []
own_attributes k.SwitchLabel = "Default" ⇐ flag (f.Word w.Default) ∷ []
own_attributes k.SwitchStatement = switch_attributes
own_attributes k.SwitchExpression = switch_attributes
own_attributes k.TryStatement = "TryWithResources" ⇐ flag (f.Child k.ResourceList) ∷ []
own_attributes k.Block = "Empty" ⇐ flag f.Childless ∷ "Size" ⇐ number n.ChildCount ∷ []
own_attributes k.Resource = "ConciseResource" ⇐ flag (f.NoChild k.LocalVariableDeclaration) ∷ []
own_attributes other = []

-- The attributes of a kind, in order. Kinds that are not named above have none of their own.
unfoldable pub attributes : Kind → List Row
attributes kind = (if is_expression kind then expression_attributes else []) ++ own_attributes kind
