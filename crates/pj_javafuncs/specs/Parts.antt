-- Tests by what they are called in the code, and of which kind their replies are, whether the world is told or not.
use Rattle.std.specs.Prelude.{Bool, IsTrue, List, Option, Result, Ok, Err}
use Rattle.pj_names.specs.Asking.{Asking}
use Rattle.pj_names.specs.declared.oracle.AskFault.{AskFault}
use Rattle.pj_tree.specs.Tree.{Tree}
use Rattle.pj_tree.specs.declared.node.Node.{Node}
use Rattle.pj_xvalue.specs.declared.fault.XCode.{XCode}
use Rattle.pj_xvalue.specs.Arguments.{IsGiven, Text}
use Rattle.pj_xvalue.specs.Items.{ItemValue}
use Rattle.pj_xvalue.specs.Replies.{is_one_boolean}
use Rattle.pj_javafuncs.specs.declared.node_tests.Test.{Test}
use Rattle.pj_javafuncs.specs.declared.node_tests.Test.TheVariants as by
use Rattle.pj_javafuncs.specs.Replies.{annotation_test, exact_test, type_test}

abbrev pub test_by : Test → Tree → Option Node → Text → Asking Bool
test_by by.TypeIs t at text = type_test t at text
test_by by.TypeIsExactly t at text = exact_test t at text
test_by by.HasAnnotation t at text = annotation_test t at text

-- one boolean, or a refusal
abbrev pub IsTruth : Result (Result (List ItemValue) XCode) AskFault → Type 0
IsTruth (Ok (Ok items)) = IsTrue (is_one_boolean items)
IsTruth (Ok (Err code)) = ⊥
IsTruth (Err asked) = Unit {0}

-- the same for a text, or the code of an argument that is none
abbrev pub IsTestReply : Result Text XCode → Result (Result (List ItemValue) XCode) AskFault → Type 0
IsTestReply (Ok text) given = IsTruth given
IsTestReply (Err code) given = IsGiven (Err code) given

-- one boolean, a code, or a refusal
abbrev pub IsTruthOrCode : Result (Result (List ItemValue) XCode) AskFault → Type 0
IsTruthOrCode (Ok (Ok items)) = IsTrue (is_one_boolean items)
IsTruthOrCode (Ok (Err code)) = Unit {0}
IsTruthOrCode (Err asked) = Unit {0}
