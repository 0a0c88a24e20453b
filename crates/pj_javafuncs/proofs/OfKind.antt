-- Of which kind replies are, whether the world is told or not.
use Rattle.std.proofs.Common.{◌≡◌, ◌∙◌, true, false, cond, IsTrue, List, [], ◌∷◌, refl, ap, subst, sym}
use Rattle.std.specs.Prelude.{Option, Result, Ok, Err}
use Rattle.pj_names.specs.declared.answer.Answer.{Answer}
use Rattle.pj_names.specs.declared.answer.Answer.TheVariants.{Absent}
use Rattle.pj_names.specs.declared.oracle.AskFault.{AskFault}
use Rattle.pj_names.specs.ClassName.{Name}
use Rattle.pj_names.specs.Asking.{Return, value_of}
use Rattle.pj_tree.specs.Tree.{Tree}
use Rattle.pj_tree.specs.declared.node.Node.{Node}
use Rattle.pj_xexpressions.specs.declared.pmd_function.PmdFunction.{PmdFunction}
use Rattle.pj_xexpressions.specs.declared.pmd_function.PmdFunction.TheVariants as pmd
use Rattle.pj_xvalue.specs.declared.fault.XCode.{XCode}
use Rattle.pj_xvalue.specs.declared.fault.XFault.{XFault}
use Rattle.pj_xvalue.specs.declared.fault.XFault.TheVariants as fault
use Rattle.pj_xvalue.specs.Arguments.{IsGiven, Text}
use Rattle.pj_xvalue.specs.Items.{Boolean, ItemValue, String, are_atomic}
use Rattle.pj_xvalue.specs.Replies.{is_one_boolean, is_type_test, may_be, may_return, outcome}
use Rattle.pj_javafuncs.specs.Facts.{Facts}
use Rattle.pj_javafuncs.specs.Parts.{IsTestReply, IsTruthOrCode}
use Rattle.pj_javafuncs.specs.ReplyKinds.{atomic_may_be, value_may_be}
use Rattle.pj_javafuncs.specs.Replies.{first_of, reply, reply_to, text_of}

nothing : Name → Answer
nothing name = Absent

-- what is given without asking
pub given-kind : (known : Facts) (t : Tree) (at : Option Node) (function : PmdFunction) (argument : List ItemValue) (arguments : List (List ItemValue)) (meant : Result (List ItemValue) XCode)
    (r : Result (Result (List ItemValue) XCode) AskFault)
    → first_of arguments ≡ argument → reply_to known t function at argument ≡ Return meant → IsGiven meant r → IsTrue (may_return function arguments r)
given-kind known t at function argument arguments meant (Ok given) first plain is =
    let there : reply known t function at arguments ≡ Return meant = ap (λ a. reply_to known t function at a) first ∙ plain in
    subst (λ x. IsTrue (may_be function arguments x)) (ap (λ m. value_of 0 nothing m) there ∙ sym is) (value_may_be 0 nothing known t at function arguments)
given-kind known t at function argument arguments meant (Err asked) first plain is = refl

one_boolean : (items : List ItemValue) → IsTrue (is_one_boolean items) → IsTrue (are_atomic items)
one_boolean (Boolean b ∷ []) is = refl
one_boolean items is = absurd (cc)

a_boolean : (function : PmdFunction) (arguments : List (List ItemValue)) (items : List ItemValue) → IsTrue (is_one_boolean items) → IsTrue (may_be function arguments (Ok items))
a_boolean function arguments items is =
    elim (is_type_test function arguments) as (λ b. IsTrue (cond b (is_one_boolean items) (are_atomic items))) [ true ↦ is | false ↦ one_boolean items is ]

-- a test
by_test : (function : PmdFunction) (arguments : List (List ItemValue)) (text : Result Text XCode) (r : Result (Result (List ItemValue) XCode) AskFault)
    → ((code : XCode) → text ≡ Err code → is_type_test function arguments ≡ false) → IsTestReply text r → IsTrue (may_return function arguments r)
by_test function arguments (Ok text) (Ok (Ok items)) none is = a_boolean function arguments items is
by_test function arguments (Ok text) (Ok (Err code)) none is = absurd is
by_test function arguments (Err code) (Ok given) none is = subst (λ x. IsTrue (may_be function arguments x)) (sym is) (atomic_may_be function arguments (Err code) (none code refl) tt)
by_test function arguments text (Err asked) none is = refl

pub test-kind : (known : Facts) (t : Tree) (function : PmdFunction) (argument : List ItemValue) (arguments : List (List ItemValue)) (r : Result (Result (List ItemValue) XCode) AskFault)
    → first_of arguments ≡ argument → ((code : XCode) → text_of known t (first_of arguments) ≡ Err code → is_type_test function arguments ≡ false)
    → IsTestReply (text_of known t argument) r → IsTrue (may_return function arguments r)
test-kind known t function argument arguments r first none is =
    by_test function arguments (text_of known t (first_of arguments)) r none (subst (λ a. IsTestReply (text_of known t a) r) (sym first) is)

-- `typeIs` with one string has no code
pub no-code : (known : Facts) (t : Tree) (arguments : List (List ItemValue)) (code : XCode) → text_of known t (first_of arguments) ≡ Err code → is_type_test pmd.TypeIs arguments ≡ false
no-code known t ((String text ∷ []) ∷ []) code is = absurd (cc)
no-code known t (argument ∷ []) code is = refl
no-code known t (argument ∷ (other ∷ arguments)) code is = refl
no-code known t [] code is = refl

-- one boolean, or a code
pub call-kind : (arguments : List (List ItemValue)) (r : Result (Result (List ItemValue) XCode) AskFault) → IsTruthOrCode r → IsTrue (may_return pmd.MatchesSig arguments r)
call-kind arguments (Ok (Ok items)) is = a_boolean pmd.MatchesSig arguments items is
call-kind arguments (Ok (Err code)) is = refl
call-kind arguments (Err asked) is = refl

-- a fault is none
pub no-truth : {B : Type 0} (view : B → List ItemValue) (refused : XFault) → IsTruthOrCode (outcome view (Err refused))
no-truth view (fault.Code code) = tt
no-truth view (fault.Ask asked) = tt
