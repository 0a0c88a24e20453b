-- What attributes are, as evaluation sees them.
use Rattle.std.specs.Prelude.{ℕ, Bool, true, false, not, ◌&&◌, List, [], ◌∷◌, codes}
use Rattle.pj_xexpressions.specs.Among.{is_among}
use Rattle.pj_xvalue.specs.declared.value.Value.{Value}
use Rattle.pj_xvalue.specs.declared.value.Value.TheVariants as value
use Rattle.pj_xvalue.specs.Items.{ItemValue, String, Integer, Boolean}

-- the value of an attribute as an item
abbrev pub attribute_value : Value → ItemValue
attribute_value (value.Str text) = String text.now
attribute_value (value.Int z) = Integer z
attribute_value (value.Bool b) = Boolean b

-- the names of the attributes whose values may be booleans
unfoldable pub boolean_attributes : List (List ℕ)
boolean_attributes =
    codes "Abstract" ∷ codes "Annotation" ∷ codes "Anonymous" ∷ codes "AnonymousClass" ∷ codes "ArrayType" ∷ codes "BlockBody" ∷ codes "Compound"
    ∷ codes "ConciseResource" ∷ codes "ConstValue" ∷ codes "ConstructorReference" ∷ codes "Default" ∷ codes "DefaultCase" ∷ codes "Diamond"
    ∷ codes "DiamondTypeArgs" ∷ codes "DoubleLiteral" ∷ codes "Else" ∷ codes "Empty" ∷ codes "Enum" ∷ codes "EnumConstant"
    ∷ codes "ExceptionBlockParameter" ∷ codes "ExpressionBody" ∷ codes "FallthroughSwitch" ∷ codes "Field" ∷ codes "Final" ∷ codes "FloatLiteral"
    ∷ codes "ForLoopVariable" ∷ codes "ForeachVariable" ∷ codes "FormalParameter" ∷ codes "FullyQualified" ∷ codes "ImportOnDemand"
    ∷ codes "IntLiteral" ∷ codes "Interface" ∷ codes "LambdaParameter" ∷ codes "Local" ∷ codes "LocalVariable" ∷ codes "LongLiteral"
    ∷ codes "LowerBound" ∷ codes "Multicatch" ∷ codes "Nested" ∷ codes "Parenthesized" ∷ codes "PatternBinding" ∷ codes "Prefix"
    ∷ codes "Qualified" ∷ codes "Record" ∷ codes "RecordComponent" ∷ codes "RegularClass" ∷ codes "RegularInterface"
    ∷ codes "ResourceDeclaration" ∷ codes "Shorthand" ∷ codes "Static" ∷ codes "Super" ∷ codes "TextBlock" ∷ codes "This" ∷ codes "TopLevel"
    ∷ codes "True" ∷ codes "TryWithResources" ∷ codes "TypeInferred" ∷ codes "UpperBound" ∷ codes "Varargs" ∷ codes "Void" ∷ []

-- the names of the attributes whose values may be integers
unfoldable pub integer_attributes : List (List ℕ)
integer_attributes =
    codes "ArgumentCount" ∷ codes "Arity" ∷ codes "ArrayDepth" ∷ codes "Base" ∷ codes "ConstValue" ∷ codes "Length" ∷ codes "ParenthesisDepth" ∷ codes "Size" ∷ []

-- the names of the attributes whose values may be strings
unfoldable pub string_attributes : List (List ℕ)
string_attributes =
    codes "AccessType" ∷ codes "BinaryName" ∷ codes "ConstValue" ∷ codes "Image" ∷ codes "ImportedName" ∷ codes "ImportedSimpleName" ∷ codes "Kind"
    ∷ codes "Label" ∷ codes "MethodName" ∷ codes "Name" ∷ codes "Operator" ∷ codes "PackageName" ∷ codes "PackageQualifier" ∷ codes "SimpleName"
    ∷ codes "Visibility" ∷ []

-- whether no name stands twice
abbrev pub are_different : List (List ℕ) → Bool
are_different [] = true
are_different (name ∷ names) = not (is_among name names) && are_different names

-- whether an attribute of the name may have the value, by its type
abbrev pub is_typed : List ℕ → ItemValue → Bool
is_typed name (Boolean b) = is_among name boolean_attributes
is_typed name (Integer z) = is_among name integer_attributes
is_typed name (String text) = is_among name string_attributes
is_typed name _ = false
