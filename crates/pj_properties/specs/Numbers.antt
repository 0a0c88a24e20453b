-- The numbers that nodes tell.
use Rattle.std.specs.Prelude.{ℕ, ℤ, pos, Option, Some, length}
use Rattle.std.specs.Option.{option_map, option_map_or, option_and_then}
use Rattle.std.specs.Str.{chars}
use Rattle.pj_tree.specs.Tree.{Tree, children_of, text_of}
use Rattle.pj_tree.specs.declared.kind.Kind.TheVariants as k
use Rattle.pj_tree.specs.declared.node.Node.{Node}
use Rattle.pj_tree.specs.Children.{child_of, kind_count}
use Rattle.pj_parse.specs.PoolText.{pool_text}
use Rattle.pj_parse.specs.Parses.{FileParsed}
use Rattle.pj_properties.specs.Literals.{radix_of, constant_integer}
use Rattle.pj_properties.specs.Parentheses.{parenthesis_depth}
use Rattle.pj_properties.specs.declared.property.NumberProperty.{NumberProperty}
use Rattle.pj_properties.specs.declared.property.NumberProperty.TheVariants as p

abbrev pub child_count : Tree → Node → ℕ
child_count t n = length (children_of t n)

-- formal parameters, without a receiver parameter (JLS 8.4.1)
abbrev pub parameter_count : Tree → Node → ℕ
parameter_count t n = kind_count t n k.FormalParameter

abbrev pub arity : Tree → Node → ℕ
arity t n = option_map_or (parameter_count t) (child_of t n k.FormalParameters) 0

abbrev pub lambda_parameters : Tree → Node → ℕ
lambda_parameters t n = kind_count t n k.LambdaParameter

abbrev pub lambda_arity : Tree → Node → ℕ
lambda_arity t n = option_map_or (lambda_parameters t) (child_of t n k.LambdaParameterList) 0

abbrev pub argument_count : Tree → Node → ℕ
argument_count t n = option_map_or (child_count t) (child_of t n k.ArgumentList) 0

-- the dimensions of an array type: pairs of brackets, with or without a length
abbrev pub dimension_count : Tree → Node → ℕ
dimension_count t n = option_map_or (child_count t) (child_of t n k.ArrayDimensions) 0

abbrev pub array_depth : Tree → Node → ℕ
array_depth t n = option_map_or (dimension_count t) (child_of t n k.ArrayType) 0

-- characters of the value that is kept of a literal
abbrev pub value_length : Tree → Node → Option ℤ
value_length t n = option_map (λ text. pos (length (chars text))) (pool_text t n)

abbrev pub number_value : NumberProperty → FileParsed → Node → Option ℤ
number_value p.ChildCount f n = Some (pos (child_count f.tree n))
number_value p.ParameterCount f n = Some (pos (parameter_count f.tree n))
number_value p.Arity f n = Some (pos (arity f.tree n))
number_value p.LambdaArity f n = Some (pos (lambda_arity f.tree n))
number_value p.ArgumentCount f n = Some (pos (argument_count f.tree n))
number_value p.ArrayDepth f n = Some (pos (array_depth f.tree n))
number_value p.ParenthesisDepth f n = Some (pos (parenthesis_depth f n))
number_value p.Radix f n = option_map (λ text. pos (radix_of text)) (text_of f.tree n)
number_value p.IntegerValue f n = option_and_then constant_integer (text_of f.tree n)
number_value p.ValueLength f n = value_length f.tree n
