-- What the functions of PMD reply comes to something in a world that finds finitely many classes.
use Rattle.std.specs.Prelude.{ℕ, Bool, if◌then◌else◌, is_some, List, [], ◌∷◌, Option, None, Some, Result, Ok, Err}
use Rattle.pj_names.specs.Asking.{Asking}
use Rattle.pj_names.specs.JavaType.{JavaType}
use Rattle.pj_tree.specs.Kinds.{is_kind}
use Rattle.pj_tree.specs.Tree.{Tree, kind_of}
use Rattle.pj_tree.specs.declared.kind.Kind.TheVariants as k
use Rattle.pj_tree.specs.declared.node.Node.{Node}
use Rattle.pj_types.specs.Members.{FoundMethod}
use Rattle.pj_written.specs.Words.{below_child}
use Rattle.pj_xexpressions.specs.declared.pmd_function.PmdFunction.{PmdFunction}
use Rattle.pj_xexpressions.specs.declared.pmd_function.PmdFunction.TheVariants as pmd
use Rattle.pj_xvalue.specs.Arguments.{Text, truth}
use Rattle.pj_xvalue.specs.Items.{ItemValue}
use Rattle.pj_xvalue.specs.declared.fault.XCode.{XCode}
use Rattle.pj_signature_patterns.specs.Reading.{pattern_in}
use Rattle.pj_signature_patterns.specs.declared.pattern.SigPattern.{SigPattern}
use Rattle.pj_type_tests.specs.Names.{has_name}
use Rattle.pj_annotation_tests.specs.Annotations.{annotation_called, annotation_type, called, first_annotation, has_annotation}
use Rattle.pj_javafuncs.specs.Called.{call_test, calls_named, chosen_is}
use Rattle.pj_javafuncs.specs.Facts.{Facts}
use Rattle.pj_javafuncs.specs.Replies.{Reply, annotation_test, call_reply, exact_test, first_of, reply, reply_to, tested, text_of, type_at, type_test, with_text}
use Rattle.pj_settling.specs.Settling.{FindsFinitely, Settles, World}
use Rattle.pj_settling.proofs.Settled.{after, by_test, first_of as first_settles, given, made_by}
use Rattle.pj_settled_members.proofs.Tests.{called_on_settles, type_is_settles}
use Rattle.pj_settled_names.proofs.Declared.{declared_type_settles}
use Rattle.pj_settled_types.proofs.Expressions.{pair_settles, type_settles}

module _ {world : World} (finite : FindsFinitely world) (t : Tree) where
  -- ---- annotations

  annotation_called_settles : (text : List ℕ) (n : Node) → Settles world (annotation_called t text n)
  annotation_called_settles text n = by_test (is_kind t k.Annotation n) (made_by {m = annotation_type t n} (called text n) (declared_type_settles finite t 0 n)) (given _)

  pub has_annotation_settles : (n : Node) (text : List ℕ) → Settles world (has_annotation t n text)
  has_annotation_settles n text =
      made_by {m = first_annotation t n text} (λ hit. is_some hit) (first_settles {m = annotation_called t text} (annotation_called_settles text) (below_child t n k.ModifierList))

  -- ---- calls

  chosen_is_settles : (pattern : SigPattern) (found : Option (JavaType × FoundMethod)) → Settles world (chosen_is pattern found)
  chosen_is_settles pattern None = given _
  chosen_is_settles pattern (Some pair) = called_on_settles finite pattern pair.0 pair.1.types.arguments

  call_settles : (at : Option Node) (pattern : SigPattern) → Settles world (call_test t at pattern)
  call_settles None pattern = given _
  call_settles (Some n) pattern = by_test (calls_named pattern.method t n (kind_of t n)) (after (pair_settles finite t n) (chosen_is_settles pattern)) (given _)

  -- ---- tests

  tested_settles : {test : Asking Bool} → Settles world test → Settles world (tested test)
  tested_settles {test = test} h = made_by {m = test} (λ is. truth is) h

  with_text_settles : (text : Result Text XCode) {next : Text → Reply} → ((text : Text) → Settles world (next text)) → Settles world (with_text text next)
  with_text_settles (Err code) h = given _
  with_text_settles (Ok text) h = h text

  type_at_settles : (at : Option Node) → Settles world (type_at t at)
  type_at_settles None = given _
  type_at_settles (Some n) = type_settles finite t n

  annotation_settles : (at : Option Node) (text : Text) → Settles world (annotation_test t at text)
  annotation_settles None text = given _
  annotation_settles (Some n) text = has_annotation_settles n text

  call_reply_settles : (at : Option Node) (pattern : Option SigPattern) → Settles world (call_reply t at pattern)
  call_reply_settles at None = given _
  call_reply_settles at (Some pattern) = tested_settles {test = call_test t at pattern} (call_settles at pattern)

  module _ (known : Facts) where
    reply_to_settles : (function : PmdFunction) (at : Option Node) (argument : List ItemValue) → Settles world (reply_to known t function at argument)
    reply_to_settles pmd.FileName at argument = given _
    reply_to_settles pmd.StartLine at argument = given _
    reply_to_settles pmd.StartColumn at argument = given _
    reply_to_settles pmd.EndLine at argument = given _
    reply_to_settles pmd.EndColumn at argument = given _
    reply_to_settles pmd.TypeIs at argument =
        with_text_settles (text_of known t argument) (λ text. tested_settles {test = type_test t at text} (after (type_at_settles at) (λ ty. type_is_settles finite text ty)))
    reply_to_settles pmd.TypeIsExactly at argument =
        with_text_settles (text_of known t argument) (λ text. tested_settles {test = exact_test t at text} (made_by {m = type_at t at} (λ ty. has_name text ty) (type_at_settles at)))
    reply_to_settles pmd.HasAnnotation at argument = with_text_settles (text_of known t argument) (λ text. tested_settles {test = annotation_test t at text} (annotation_settles at text))
    reply_to_settles pmd.MatchesSig at argument = with_text_settles (text_of known t argument) (λ text. call_reply_settles at (pattern_in text))
    reply_to_settles pmd.NodeIs at argument = given _
    reply_to_settles pmd.Modifiers at argument = given _
    reply_to_settles pmd.ExplicitModifiers at argument = given _

    pub reply_settles : (function : PmdFunction) (at : Option Node) (arguments : List (List ItemValue)) → Settles world (reply known t function at arguments)
    reply_settles function at arguments = reply_to_settles function at (first_of arguments)
