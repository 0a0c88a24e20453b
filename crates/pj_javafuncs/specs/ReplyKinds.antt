-- Of which kind the replies are: atomic values, and that of `typeIs` with one string is one boolean and no code.
use Rattle.std.specs.Prelude.{◌≡◌, ℕ, Bool, true, false, not, pos, IsTrue, List, [], ◌∷◌, filter, map, cond, Option, Some, None, Result, Ok, Err, refl}
use Rattle.std.proofs.Common.{ap, subst, sym}
use Rattle.pj_names.specs.declared.answer.Answer.{Answer}
use Rattle.pj_names.specs.ClassName.{Name}
use Rattle.pj_names.specs.Asking.{Asking, Return, value_of}
use Rattle.pj_names.specs.Expand.{expand, world_by}
use Rattle.pj_names.specs.Told.{World}
use Rattle.pj_names.proofs.ExpandLaws.{value_of-expand}
use Rattle.pj_names.proofs.MeaningLaws.{value_of-bind}
use Rattle.pj_tree.specs.Tree.{Tree}
use Rattle.pj_tree.specs.Children.{has_child}
use Rattle.pj_tree.specs.declared.kind.Kind.TheVariants as k
use Rattle.pj_tree.specs.declared.node.Node.{Node}
use Rattle.pj_xexpressions.specs.declared.pmd_function.PmdFunction.{PmdFunction}
use Rattle.pj_xexpressions.specs.declared.pmd_function.PmdFunction.TheVariants as pmd
use Rattle.pj_xvalue.specs.declared.fault.XCode.{XCode}
use Rattle.pj_xvalue.specs.declared.fault.XCode.TheVariants.{XPTY0004}
use Rattle.pj_xvalue.specs.declared.modifiers.Modifier.{Modifier}
use Rattle.pj_xvalue.specs.declared.modifiers.Modifiers.{Modifiers}
use Rattle.pj_xvalue.specs.Arguments.{Text, and_then, one, truth}
use Rattle.pj_xvalue.specs.Items.{ItemValue, String, Integer, are_atomic}
use Rattle.pj_xvalue.specs.Modifiers.{has}
use Rattle.pj_xvalue.specs.Replies.{is_one_boolean, is_type_test, may_be}
use Rattle.pj_file_oracle.specs.FileAnswer.{file_answer}
use Rattle.pj_signature_patterns.specs.Reading.{pattern_in}
use Rattle.pj_signature_patterns.specs.declared.pattern.SigPattern.{SigPattern}
use Rattle.pj_node_functions.specs.Arguments.{one_node}
use Rattle.pj_node_functions.specs.Kinds.{node_is}
use Rattle.pj_node_functions.specs.ModifierWords.{all_modifiers, modifiers_at, word_of, words_among, words_of}
use Rattle.pj_javafuncs.specs.Called.{call_test}
use Rattle.pj_javafuncs.specs.Facts.{Facts}
use Rattle.pj_javafuncs.specs.Replies.{annotation_test, call_reply, exact_test, first_of, reply, tested, text_of, type_test, with_text}

-- ---- atomic values

-- atomic values, or a code
abbrev pub IsAtomic : Result (List ItemValue) XCode → Type 0
IsAtomic (Ok items) = IsTrue (are_atomic items)
IsAtomic (Err code) = Unit {0}

numbers : (n : Result Node XCode) (number : Node → ℕ) → IsAtomic (and_then n (λ m. one (Integer (pos (number m)))))
numbers (Ok n) number = refl
numbers (Err code) number = tt

truths : (text : Result Text XCode) (is : Text → Bool) → IsAtomic (and_then text (λ x. truth (is x)))
truths (Ok text) is = refl
truths (Err code) is = tt

words : (set : Modifiers) (modifiers : List Modifier) → IsTrue (are_atomic (words_among set modifiers))
words set [] = refl
words set (modifier ∷ modifiers) =
    elim (has set modifier) as (λ b. IsTrue (are_atomic (map (λ m. String (word_of m)) (cond b (modifier ∷ filter (has set) modifiers) (filter (has set) modifiers))))) [
      | true ↦ words set modifiers
      | false ↦ words set modifiers
    ]

all_words : (modifiers_of : Node → Modifiers) (t : Tree) (at : Option Node) → IsTrue (are_atomic (modifiers_at modifiers_of t at))
all_words modifiers_of t None = refl
all_words modifiers_of t (Some n) =
    elim (has_child t n k.ModifierList) as (λ b. IsTrue (are_atomic (cond b (words_of (modifiers_of n)) []))) [
      | true ↦ words (modifiers_of n) all_modifiers
      | false ↦ refl
    ]

-- ---- of a kind

-- what is no test may be any atomic values, and any code
pub atomic_may_be : (function : PmdFunction) (arguments : List (List ItemValue)) (given : Result (List ItemValue) XCode) → is_type_test function arguments ≡ false → IsAtomic given → IsTrue (may_be function arguments given)
atomic_may_be function arguments (Ok items) none atomic = subst (λ b. IsTrue (cond b (is_one_boolean items) (are_atomic items))) (sym none) atomic
atomic_may_be function arguments (Err code) none atomic = ap not none

-- every function may be one boolean
pub truth_may_be : (function : PmdFunction) (arguments : List (List ItemValue)) (is : Bool) → IsTrue (may_be function arguments (truth is))
truth_may_be function arguments is = elim (is_type_test function arguments) as (λ b. cond b true true ≡ true) [ true ↦ refl | false ↦ refl ]

-- a test of a text, or the code of an argument that is none
module _ (depth : ℕ) (world : Name → Answer) where
  test_may_be : (function : PmdFunction) (arguments : List (List ItemValue)) (text : Text) (test : Text → Asking Bool) → IsTrue (may_be function arguments (value_of depth world (tested (test text))))
  test_may_be function arguments text test =
      subst (λ r. IsTrue (may_be function arguments r)) (sym (value_of-bind depth world (test text) (λ is. Return (truth is)))) (truth_may_be function arguments (value_of depth world (test text)))

  by_text : (function : PmdFunction) (arguments : List (List ItemValue)) (text : Result Text XCode) (test : Text → Asking Bool) → is_type_test function arguments ≡ false
      → IsTrue (may_be function arguments (value_of depth world (with_text text (λ x. tested (test x)))))
  by_text function arguments (Ok text) test none = test_may_be function arguments text test
  by_text function arguments (Err code) test none = atomic_may_be function arguments (Err code) none tt

  module _ (known : Facts) (t : Tree) (at : Option Node) where
    type_may_be : (arguments : List (List ItemValue)) → IsTrue (may_be pmd.TypeIs arguments (value_of depth world (reply known t pmd.TypeIs at arguments)))
    type_may_be ((String text ∷ []) ∷ []) = test_may_be pmd.TypeIs ((String text ∷ []) ∷ []) text (λ x. type_test t at x)
    type_may_be (argument ∷ []) = by_text pmd.TypeIs (argument ∷ []) (text_of known t argument) (λ x. type_test t at x) refl
    type_may_be (argument ∷ (other ∷ arguments)) = by_text pmd.TypeIs (argument ∷ (other ∷ arguments)) (text_of known t argument) (λ x. type_test t at x) refl
    type_may_be [] = by_text pmd.TypeIs [] (text_of known t []) (λ x. type_test t at x) refl

    call_may_be : (arguments : List (List ItemValue)) (pattern : Option SigPattern) → IsTrue (may_be pmd.MatchesSig arguments (value_of depth world (call_reply t at pattern)))
    call_may_be arguments None = atomic_may_be pmd.MatchesSig arguments (Err XPTY0004) refl tt
    call_may_be arguments (Some pattern) = test_may_be pmd.MatchesSig arguments [] (λ x. call_test t at pattern)

    calls_may_be : (arguments : List (List ItemValue)) (text : Result Text XCode) → IsTrue (may_be pmd.MatchesSig arguments (value_of depth world (with_text text (λ x. call_reply t at (pattern_in x)))))
    calls_may_be arguments (Ok text) = call_may_be arguments (pattern_in text)
    calls_may_be arguments (Err code) = atomic_may_be pmd.MatchesSig arguments (Err code) refl tt

    pub value_may_be : (function : PmdFunction) (arguments : List (List ItemValue)) → IsTrue (may_be function arguments (value_of depth world (reply known t function at arguments)))
    value_may_be pmd.FileName arguments = refl
    value_may_be pmd.StartLine arguments = atomic_may_be pmd.StartLine arguments _ refl (numbers (one_node (first_of arguments)) _)
    value_may_be pmd.StartColumn arguments = atomic_may_be pmd.StartColumn arguments _ refl (numbers (one_node (first_of arguments)) _)
    value_may_be pmd.EndLine arguments = atomic_may_be pmd.EndLine arguments _ refl (numbers (one_node (first_of arguments)) _)
    value_may_be pmd.EndColumn arguments = atomic_may_be pmd.EndColumn arguments _ refl (numbers (one_node (first_of arguments)) _)
    value_may_be pmd.TypeIs arguments = type_may_be arguments
    value_may_be pmd.TypeIsExactly arguments = by_text pmd.TypeIsExactly arguments (text_of known t (first_of arguments)) (λ x. exact_test t at x) refl
    value_may_be pmd.HasAnnotation arguments = by_text pmd.HasAnnotation arguments (text_of known t (first_of arguments)) (λ x. annotation_test t at x) refl
    value_may_be pmd.MatchesSig arguments = calls_may_be arguments (text_of known t (first_of arguments))
    value_may_be pmd.NodeIs arguments = atomic_may_be pmd.NodeIs arguments _ refl (truths (text_of known t (first_of arguments)) (λ x. node_is t at x))
    value_may_be pmd.Modifiers arguments = all_words (λ n. known.modifiers_of n true) t at
    value_may_be pmd.ExplicitModifiers arguments = all_words (λ n. known.modifiers_of n false) t at

-- a reply over the world beneath
pub reply_kinds : (known : Facts) (t : Tree) (function : PmdFunction) (at : Option Node) (arguments : List (List ItemValue)) (depth : ℕ) (w : World)
    → IsTrue (may_be function arguments (value_of depth w.answer (expand (file_answer t) (reply known t function at arguments))))
reply_kinds known t function at arguments depth w =
    let meaning = reply known t function at arguments in
    subst (λ r. IsTrue (may_be function arguments r)) (value_of-expand (file_answer t) depth w meaning) (value_may_be depth (world_by (file_answer t) depth w).answer known t at function arguments)
