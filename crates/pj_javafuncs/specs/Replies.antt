-- What PMD's functions reply: each with its argument, at a context node or at none. A reply is a sequence or a code, with the classes that it asks for. Where a class
-- is asked, it is asked of an oracle that answers the classes of the file too; what is asked beneath is that meaning expanded (`file_answer` of `pj_file_oracle`).
use Rattle.std.specs.Prelude.{Bool, true, false, List, [], ◌∷◌, Option, Some, None, Result, Ok, Err}
use Rattle.pj_names.specs.Asking.{Asking, Return, bind}
use Rattle.pj_names.specs.JavaType.{JavaType, Unknown}
use Rattle.pj_tree.specs.Tree.{Tree}
use Rattle.pj_tree.specs.declared.node.Node.{Node}
use Rattle.pj_xexpressions.specs.declared.pmd_function.PmdFunction.{PmdFunction}
use Rattle.pj_xexpressions.specs.declared.pmd_function.PmdFunction.TheVariants as pmd
use Rattle.pj_xvalue.specs.declared.fault.XCode.{XCode}
use Rattle.pj_xvalue.specs.declared.fault.XCode.TheVariants.{XPTY0004}
use Rattle.pj_xvalue.specs.Arguments.{Text, truth}
use Rattle.pj_xvalue.specs.Items.{ItemValue}
use Rattle.pj_signature_patterns.specs.Reading.{pattern_in}
use Rattle.pj_signature_patterns.specs.declared.pattern.SigPattern.{SigPattern}
use Rattle.pj_node_functions.specs.Arguments.{text_argument}
use Rattle.pj_node_functions.specs.ModifierWords.{modifiers_at}
use Rattle.pj_node_functions.specs.Replies.{end_column, end_line, file_reply, kind_reply, start_column, start_line}
use Rattle.pj_type_tests.specs.Names.{has_name}
use Rattle.pj_type_tests.specs.Types.{type_is}
use Rattle.pj_annotation_tests.specs.Annotations.{has_annotation}
use Rattle.pj_exprtypes.specs.TypeOf.{type_of}
use Rattle.pj_javafuncs.specs.Called.{call_test}
use Rattle.pj_javafuncs.specs.Facts.{Facts}

abbrev pub Reply : Type 0
Reply = Asking (Result (List ItemValue) XCode)

-- the first argument, and nothing where there is none
abbrev pub first_of : List (List ItemValue) → List ItemValue
first_of [] = []
first_of (argument ∷ arguments) = argument

-- ---- what a text argument leads to

-- the text, and what follows for it; or the code of an argument that is no string
abbrev pub with_text : Result Text XCode → (Text → Reply) → Reply
with_text (Err code) next = Return (Err code)
with_text (Ok text) next = next text

-- a test, as one boolean
abbrev pub tested : Asking Bool → Reply
tested test = bind test (λ is. Return (truth is))

-- ---- tests of the context node

-- The type of the context node. A node that has no type, and no node at all, have one that is not known.
abbrev pub type_at : Tree → Option Node → Asking JavaType
type_at t None = Return Unknown
type_at t (Some n) = type_of t n

-- `typeIs(s)`: the type has the name, or is under a class that has it
abbrev pub type_test : Tree → Option Node → Text → Asking Bool
type_test t at text = bind (type_at t at) (λ ty. type_is text ty)

-- `typeIsExactly(s)`: the type has the name
abbrev pub exact_test : Tree → Option Node → Text → Asking Bool
exact_test t at text = bind (type_at t at) (λ ty. Return (has_name text ty))

-- `hasAnnotation(s)`: a declaration has an annotation of the class of the name
abbrev pub annotation_test : Tree → Option Node → Text → Asking Bool
annotation_test t None text = Return false
annotation_test t (Some n) text = has_annotation t n text

-- `matchesSig(s)`: whether the context node calls what the pattern says; a text that is none is XPTY0004, whatever the context node is. `pattern_in` is the one pattern that a text spells, by the law of
-- `pj_signature_patterns` on them.
abbrev pub call_reply : Tree → Option Node → Option SigPattern → Reply
call_reply t at None = Return (Err XPTY0004)
call_reply t at (Some pattern) = tested (call_test t at pattern)

-- ---- all functions

module _ (known : Facts) (t : Tree) where
  abbrev pub text_of : List ItemValue → Result Text XCode
  text_of argument = text_argument known.attribute_of known.names_of argument

  -- with the first argument
  abbrev pub reply_to : PmdFunction → Option Node → List ItemValue → Reply
  reply_to pmd.FileName at argument = Return (file_reply known.path)
  reply_to pmd.StartLine at argument = Return (start_line known.place_of t argument)
  reply_to pmd.StartColumn at argument = Return (start_column known.place_of t argument)
  reply_to pmd.EndLine at argument = Return (end_line known.place_of t argument)
  reply_to pmd.EndColumn at argument = Return (end_column known.place_of t argument)
  reply_to pmd.TypeIs at argument = with_text (text_of argument) (λ text. tested (type_test t at text))
  reply_to pmd.TypeIsExactly at argument = with_text (text_of argument) (λ text. tested (exact_test t at text))
  reply_to pmd.HasAnnotation at argument = with_text (text_of argument) (λ text. tested (annotation_test t at text))
  reply_to pmd.MatchesSig at argument = with_text (text_of argument) (λ text. call_reply t at (pattern_in text))
  reply_to pmd.NodeIs at argument = Return (kind_reply known.attribute_of known.names_of t at argument)
  reply_to pmd.Modifiers at argument = Return (Ok (modifiers_at (λ n. known.modifiers_of n true) t at))
  reply_to pmd.ExplicitModifiers at argument = Return (Ok (modifiers_at (λ n. known.modifiers_of n false) t at))

  abbrev pub reply : PmdFunction → Option Node → List (List ItemValue) → Reply
  reply function at arguments = reply_to function at (first_of arguments)
