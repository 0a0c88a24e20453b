-- Calls of functions (XPath 2.0, 3.1.5).
use Rattle.std.specs.Prelude.{ℕ, List, [], ◌∷◌, length, map, Option, Some, None, Result, Ok, Err, if◌then◌else◌}
use Rattle.std.specs.List.{slice_index_or}
use Rattle.pj_tree.specs.declared.node.Node.{Node}
use Rattle.pj_tree.specs.declared.kind.Kind.{Kind}
use Rattle.pj_tree.specs.Tree.{kind_of}
use Rattle.pj_tree.specs.Kind.{name_of}
use Rattle.pj_xvalue.specs.declared.fault.XCode.{XCode}
use Rattle.pj_xvalue.specs.declared.fault.XCode.TheVariants.{XPTY0004}
use Rattle.pj_xexpressions.specs.declared.function.Function.{Function}
use Rattle.pj_xexpressions.specs.declared.function.Function.TheVariants as f
use Rattle.pj_xexpressions.specs.declared.pmd_function.PmdFunction.{PmdFunction}
use Rattle.pj_xexpressions.specs.Functions.{takes, pmd_takes}
use Rattle.pj_xvalue.specs.Items.{ItemValue, Document, Element, Attribute, String, Integer, is_node}
use Rattle.pj_xvalue.specs.Arguments.{and_then}
use Rattle.pj_xfuncs.specs.Library.{called as given}
use Rattle.pj_xsteps.specs.Means.{Means, fail}
use Rattle.pj_xsteps.specs.Context.{Around, Context}
use Rattle.pj_xsteps.specs.Operands.{with_values}

-- the argument, and the context item where there is none
abbrev pub or_context : Context → List (List ItemValue) → List ItemValue
or_context context [] = context.item ∷ []
or_context context (argument ∷ rest) = argument

abbrev pub kind_name : Option Kind → List ℕ
kind_name (Some kind) = name_of kind
kind_name None = []

-- the name of a node (XPath Functions and Operators, 14.1), which the document has none of
abbrev pub node_name : Around → ItemValue → List ℕ
node_name around (Element n) = kind_name (kind_of around.tree n)
node_name around (Attribute n place) = slice_index_or (around.names_of n) place []
node_name around _ = []

-- `name` and `local-name` of at most one node
abbrev pub name_in : Around → List ItemValue → Result (List ItemValue) XCode
name_in around [] = Ok (String [] ∷ [])
name_in around (item ∷ []) = if is_node item then Ok (String (node_name around item) ∷ []) else Err XPTY0004
name_in around _ = Err XPTY0004

-- `root` of at most one node (14.9)
abbrev pub root_in : List ItemValue → Result (List ItemValue) XCode
root_in [] = Ok []
root_in (item ∷ []) = if is_node item then Ok (Document ∷ []) else Err XPTY0004
root_in _ = Err XPTY0004

-- a function of the string of the context item, where it has no argument
abbrev pub of_text : Around → Function → Context → List (List ItemValue) → Result (List ItemValue) XCode
of_text around function context [] = and_then (given around.patterns f.String (with_values around (context.item ∷ []) ∷ [])) (λ text. given around.patterns function (text ∷ []))
of_text around function context (argument ∷ rest) = given around.patterns function (map (with_values around) (argument ∷ rest))

-- `subsequence` takes the items as they are, and numbers
abbrev pub first_as_it_is : Around → List (List ItemValue) → List (List ItemValue)
first_as_it_is around [] = []
first_as_it_is around (argument ∷ rest) = argument ∷ map (with_values around) rest

-- What a function of XPath gives in a context for its arguments. Those that ask for the context, or for names of nodes, are
-- told here. Where arguments are atomised, or their string is taken, attributes have become their values before.
abbrev pub called : Around → Function → Context → List (List ItemValue) → Result (List ItemValue) XCode
called around f.Position context arguments = Ok (Integer context.position ∷ [])
called around f.Last context arguments = Ok (Integer context.size ∷ [])
called around f.Name context arguments = name_in around (or_context context arguments)
called around f.LocalName context arguments = name_in around (or_context context arguments)
called around f.Root context arguments = root_in (or_context context arguments)
called around f.String context arguments = given around.patterns f.String (with_values around (or_context context arguments) ∷ [])
called around f.StringLength context arguments = of_text around f.StringLength context arguments
called around f.NormalizeSpace context arguments = of_text around f.NormalizeSpace context arguments
called around f.Count context arguments = given around.patterns f.Count arguments
called around f.Exists context arguments = given around.patterns f.Exists arguments
called around f.Empty context arguments = given around.patterns f.Empty arguments
called around f.Not context arguments = given around.patterns f.Not arguments
called around f.Boolean context arguments = given around.patterns f.Boolean arguments
called around f.Reverse context arguments = given around.patterns f.Reverse arguments
called around f.Subsequence context arguments = given around.patterns f.Subsequence (first_as_it_is around arguments)
called around function context arguments = given around.patterns function (map (with_values around) arguments)

-- the same, where the function takes so many arguments
abbrev pub call : Around → Function → Context → List (List ItemValue) → Result (List ItemValue) XCode
call around function context arguments = if takes function (length arguments) then called around function context arguments else Err XPTY0004

-- the context node, where the context item is a node of the tree
abbrev pub node_in : ItemValue → Option Node
node_in (Element n) = Some n
node_in _ = None

-- what a function of PMD replies, where it takes so many arguments
abbrev pub pmd_call : (PmdFunction → Option Node → List (List ItemValue) → Means (List ItemValue)) → PmdFunction → Context → List (List ItemValue) → Means (List ItemValue)
pmd_call reply function context arguments = if pmd_takes function (length arguments) then reply function (node_in context.item) arguments else fail XPTY0004
