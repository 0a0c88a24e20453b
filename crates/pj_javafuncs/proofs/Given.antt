-- Replies that ask for no class, and those of tests, as computations that ask.
use Rattle.std.proofs.Common.{◌≡◌, ◌∙◌, Bool, List, [], ◌∷◌, refl, ap, subst, sym}
use Rattle.std.specs.Prelude.{Result, Ok, Err}
use Rattle.pj_names.specs.declared.oracle.AskFault.{AskFault}
use Rattle.pj_names.specs.declared.oracle.AskFault.TheVariants.{Failed, Memory}
use Rattle.pj_names.specs.Asking.{Asking, Return}
use Rattle.pj_names.specs.Told.{Asks, Told}
use Rattle.pj_names.proofs.AskingLaws.{asks-refused, asks-return, asks-stop, asks-then}
use Rattle.pj_xvalue.specs.declared.fault.XCode.{XCode}
use Rattle.pj_xvalue.specs.declared.fault.XFault.{XFault}
use Rattle.pj_xvalue.specs.declared.fault.XFault.TheVariants.{Code, Ask}
use Rattle.pj_xvalue.specs.Arguments.{IsGiven, Text}
use Rattle.pj_xvalue.specs.Items.{Boolean, ItemValue}
use Rattle.pj_xvalue.specs.Replies.{outcome}
use Rattle.pj_javafuncs.specs.Replies.{Reply, tested, with_text}

-- what is given without asking
pub given-asks : {K A : Type 0} {m : Asking (Result A XCode)} {v : Result A XCode} {t : Told K} (r : Result (Result A XCode) AskFault) → m ≡ Return v → IsGiven v r → Asks m t t r
given-asks {t = t} (Ok given) plain is = subst (λ x. Asks x t t (Ok given)) (sym plain) (asks-return (ap (λ x. Ok x) is))
given-asks {t = t} (Err Memory) plain is = subst (λ x. Asks x t t (Err Memory)) (sym plain) (asks-stop refl)
given-asks (Err Failed) plain is = absurd is

-- an argument that is no text
pub text-refused : {K B : Type 0} (text : Result Text XCode) (next : Text → Reply) {t : Told K} (view : B → List ItemValue) (fault : XFault)
    → IsGiven text (outcome {A = Text} (λ x. x) (Err fault)) → Asks (with_text text next) t t (outcome view (Err fault))
text-refused text next {t = t} view (Code code) is = subst (λ x. Asks (with_text x next) t t (Ok (Err code))) is (asks-return refl)
text-refused text next view (Ask Memory) is = asks-stop refl
text-refused text next view (Ask Failed) is = absurd is

-- one that is a text
pub text-then : {K : Type 0} (text : Result Text XCode) (next : Text → Reply) {t u : Told K} {r : Result (Result (List ItemValue) XCode) AskFault} (x : Text)
    → IsGiven text (Ok (Ok x)) → Asks (next x) t u r → Asks (with_text text next) t u r
text-then text next {t = t} {u = u} {r = r} x is h = subst (λ y. Asks (with_text y next) t u r) is h

-- a test that refuses, one after which memory is wanting, and one that is done
pub test-refused : {K B : Type 0} {test : Asking Bool} {t u : Told K} {e : AskFault} (view : B → List ItemValue) (r : Result B XFault) (fault : XFault) → r ≡ Err fault → fault ≡ Ask e → Asks test t u (Err e) → Asks (tested test) t u (outcome view r)
test-refused {test = test} {t = t} {u = u} {e = e} view r fault is by h =
    subst (λ x. Asks (tested test) t u (outcome view x)) (sym (is ∙ ap (λ x. Err x) by)) (asks-refused _ h refl)

pub test-late : {K : Type 0} {test : Asking Bool} {t u : Told K} {is : Bool} → Asks test t u (Ok is) → Asks (tested test) t u (Err Memory)
test-late h = asks-then _ h (asks-stop refl)

pub test-done : {K : Type 0} {test : Asking Bool} {t u : Told K} {is : Bool} {items : List ItemValue} → Asks test t u (Ok is) → items ≡ Boolean is ∷ [] → Asks (tested test) t u (Ok (Ok items))
test-done h one = asks-then _ h (asks-return (ap (λ l. Ok (Ok l)) one))
