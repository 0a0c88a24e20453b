-- What holds of nodes or does not.
use Rattle.std.specs.Prelude.{ℕ, ◌==◌, nat_lt, Bool, true, false, not, ◌&&◌, ◌||◌, is_some, List, [], length, codes, nat_eq}
use Rattle.std.specs.List.{list_any, starts_with}
use Rattle.std.specs.Option.{option_map_or, option_and_then}
use denote.Enum.Declared.{tag_of}
use Rattle.pj_tree.specs.Tree.{Tree, kind_of, children_of, text_of}
use Rattle.pj_tree.specs.declared.kind.Kind.{Kind}
use Rattle.pj_tree.specs.declared.kind.Kind.TheVariants as k
use Rattle.pj_tree.specs.declared.node.Node.{Node}
use Rattle.pj_tree.specs.Kinds.{is_kind}
use Rattle.pj_tree.specs.Children.{first_child, second_child, child_of, has_child}
use Rattle.pj_tree.specs.Words.{words_of, last_of, has}
use Rattle.pj_parse.specs.PoolText.{pool_text}
use Rattle.pj_symbols.specs.Classes.{nesting_of}
use Rattle.pj_symbols.specs.Variables.{declaration_of, variable_kind}
use Rattle.pj_symbols.specs.contracts.class.Nesting as nestings
use Rattle.pj_symbols.specs.contracts.variable.VariableKind as variables
use Rattle.pj_symbols.specs.declared.class.Nesting.{Nesting}
use Rattle.pj_symbols.specs.declared.variable.VariableKind.{VariableKind}
use Rattle.pj_modifiers.specs.Implied.{is_effective, is_interface}
use Rattle.pj_parse.specs.Parses.{FileParsed}
use Rattle.pj_properties.specs.Literals.{is_int_literal, is_long_literal, is_float_literal, is_double_literal, is_text_block}
use Rattle.pj_properties.specs.Parentheses.{parenthesis_depth}
use Rattle.pj_properties.specs.Texts.{same, operator_of}
use Rattle.pj_properties.specs.declared.property.FlagProperty.{FlagProperty}
use Rattle.pj_properties.specs.declared.property.FlagProperty.TheVariants as p
use Rattle.pj_properties.specs.declared.property.Word.{Word}
use Rattle.pj_properties.specs.declared.property.Word.TheVariants as w

abbrev pub word_text : Word → List ℕ
word_text w.Star = codes "*"
word_text w.Dot = codes "."
word_text w.Ellipsis = codes "..."
word_text w.Default = codes "default"
word_text w.Else = codes "else"
word_text w.Extends = codes "extends"
word_text w.Static = codes "static"
word_text w.Super = codes "super"
word_text w.This = codes "this"

-- whether the node has no children
abbrev pub is_childless : Tree → Node → Bool
is_childless t n = not (is_some (first_child t n))

-- ---- classes

abbrev pub same_nesting : Nesting → Nesting → Bool
same_nesting nesting other = tag_of nestings.the_type nesting == tag_of nestings.the_type other

-- a class that is declared there
abbrev pub is_nested_so : Nesting → Tree → Node → Bool
is_nested_so nesting t n = same_nesting (nesting_of t n) nesting

-- a class that is declared by `class`
abbrev pub is_regular_class : Tree → Node → Bool
is_regular_class t n = is_kind t k.ClassDeclaration n && not (is_interface t n)

-- an interface that is declared by `interface` alone
abbrev pub is_regular_interface : Tree → Node → Bool
is_regular_interface t n = is_kind t k.ClassDeclaration n && is_interface t n

-- ---- parameters of variable arity (JLS 8.4.1)

abbrev pub has_ellipsis : Tree → Node → Bool
has_ellipsis t n = has (codes "...") (words_of t n)

-- the sign stands in the dimensions of the type
abbrev pub is_varargs : Tree → Node → Bool
is_varargs t n =
    option_map_or (has_ellipsis t) (option_and_then (λ d. child_of t d k.ArrayTypeDim) (option_and_then (λ a. child_of t a k.ArrayDimensions) (child_of t n k.ArrayType))) false

abbrev pub varargs_among : Tree → Node → Bool
varargs_among t n = list_any (is_varargs t) (children_of t n)

-- of a method or constructor: one of its parameters is
abbrev pub is_varargs_method : Tree → Node → Bool
is_varargs_method t n = option_map_or (varargs_among t) (child_of t n k.FormalParameters) false

-- ---- the types of variables

abbrev pub is_type : Kind → Bool
is_type k.ClassType = true
is_type k.PrimitiveType = true
is_type k.ArrayType = true
is_type k.UnionType = true
is_type k.IntersectionType = true
is_type other = false

-- whether a declaration has a written type, which stands behind its modifiers; `var` is none (JLS 14.4.1), and a lambda parameter may have none (JLS 15.27.1)
abbrev pub has_type : Tree → Node → Bool
has_type t d = option_map_or is_type (option_and_then (kind_of t) (second_child t d)) false

abbrev pub is_inferred : Tree → Node → Bool
is_inferred t d = not (has_type t d)

-- of a variable: it is a local variable or a lambda parameter without a written type
abbrev pub may_be_inferred : Tree → Node → Bool
may_be_inferred t d = is_kind t k.LocalVariableDeclaration d || is_kind t k.LambdaParameter d

abbrev pub is_inferred_in : Tree → Node → Bool
is_inferred_in t d = may_be_inferred t d && is_inferred t d

abbrev pub is_variable_inferred : Tree → Node → Bool
is_variable_inferred t n = option_map_or (is_inferred_in t) (declaration_of t n) false

abbrev pub has_array_type : Tree → Node → Bool
has_array_type t d = option_map_or (is_kind t k.ArrayType) (second_child t d) false

abbrev pub has_array_declaration : Tree → Node → Bool
has_array_declaration t n = option_map_or (has_array_type t) (declaration_of t n) false

-- JLS 10.2: the written type is an array, or brackets stand behind the name
abbrev pub is_array_variable : Tree → Node → Bool
is_array_variable t n = has_child t n k.ArrayDimensions || has_array_declaration t n

abbrev pub same_variable : VariableKind → VariableKind → Bool
same_variable kind other = tag_of variables.the_type kind == tag_of variables.the_type other

-- a variable that is of that kind
abbrev pub is_variable_so : VariableKind → Tree → Node → Bool
is_variable_so kind t n = same_variable (variable_kind t n) kind

-- ---- expressions

-- a test of how the node is written
abbrev pub is_written_so : (List ℕ → Bool) → Tree → Node → Bool
is_written_so p t n = option_map_or p (text_of t n) false

abbrev pub has_empty_value : Tree → Node → Bool
has_empty_value t n = option_map_or (λ text. length text == 0) (pool_text t n) false

-- JLS 15.14 and 15.15: the expression begins with its operator
abbrev pub begins_with : List ℕ → List ℕ → Bool
begins_with operator text = starts_with nat_eq text operator

abbrev pub is_prefix : Tree → Node → Bool
is_prefix t n = option_map_or (λ operator. is_written_so (begins_with operator) t n) (operator_of t n) false

-- JLS 15.26.2: the operator is not `=` alone
abbrev pub is_compound : Tree → Node → Bool
is_compound t n = option_map_or (λ operator. not (same operator (codes "="))) (operator_of t n) false

-- JLS 15.13
abbrev pub is_constructor_reference : Tree → Node → Bool
is_constructor_reference t n = same (last_of [] (words_of t n)) (codes "new")

-- JLS 15.9: the type arguments of the class are `<>`
abbrev pub has_diamond : Tree → Node → Bool
has_diamond t n = option_map_or (is_childless t) (option_and_then (λ class. child_of t class k.TypeArguments) (child_of t n k.ClassType)) false

-- JLS 14.11.1: a label of a branch is `default`
abbrev pub is_default_label : Tree → Node → Bool
is_default_label t n = has (codes "default") (words_of t n)

abbrev pub is_default_branch : Tree → Node → Bool
is_default_branch t n = option_map_or (is_default_label t) (child_of t n k.SwitchLabel) false

abbrev pub has_default : Tree → Node → Bool
has_default t n = list_any (is_default_branch t) (children_of t n)

-- ---- all of them

abbrev pub flag_value : FlagProperty → FileParsed → Node → Bool
flag_value (p.Word word) f n = has (word_text word) (words_of f.tree n)
flag_value (p.Modifier modifier) f n = is_effective f.tree n modifier
flag_value (p.Kind kind) f n = is_kind f.tree kind n
flag_value (p.Child kind) f n = has_child f.tree n kind
flag_value (p.NoChild kind) f n = not (has_child f.tree n kind)
flag_value p.Childless f n = is_childless f.tree n
flag_value (p.Nesting nesting) f n = is_nested_so nesting f.tree n
flag_value p.Interface f n = is_interface f.tree n
flag_value p.RegularClass f n = is_regular_class f.tree n
flag_value p.RegularInterface f n = is_regular_interface f.tree n
flag_value p.VarargsMethod f n = is_varargs_method f.tree n
flag_value p.VarargsParameter f n = is_varargs f.tree n
flag_value p.TypeInferred f n = is_inferred f.tree n
flag_value p.VariableInferred f n = is_variable_inferred f.tree n
flag_value p.ArrayVariable f n = is_array_variable f.tree n
flag_value (p.Variable kind) f n = is_variable_so kind f.tree n
flag_value p.Shorthand f n = not (has (codes "=") (words_of f.tree n))
flag_value p.FullyQualified f n = is_some (pool_text f.tree n)
flag_value p.Parenthesized f n = nat_lt 0 (parenthesis_depth f n)
flag_value p.IntLiteral f n = is_written_so is_int_literal f.tree n
flag_value p.LongLiteral f n = is_written_so is_long_literal f.tree n
flag_value p.FloatLiteral f n = is_written_so is_float_literal f.tree n
flag_value p.DoubleLiteral f n = is_written_so is_double_literal f.tree n
flag_value p.EmptyValue f n = has_empty_value f.tree n
flag_value p.TextBlock f n = is_written_so is_text_block f.tree n
flag_value p.True f n = is_written_so (λ text. same text (codes "true")) f.tree n
flag_value p.Prefix f n = is_prefix f.tree n
flag_value p.Compound f n = is_compound f.tree n
flag_value p.ConstructorReference f n = is_constructor_reference f.tree n
flag_value p.Diamond f n = has_diamond f.tree n
flag_value p.DefaultCase f n = has_default f.tree n
