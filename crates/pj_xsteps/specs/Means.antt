-- What evaluation comes to, and the two ways in which many evaluations follow each other.
use Rattle.std.specs.Prelude.{Bool, true, not, List, [], ◌∷◌, Result, Ok, Err, if◌then◌else◌}
use Rattle.pj_names.specs.Asking.{Asking, Return, bind}
use Rattle.pj_xvalue.specs.declared.fault.XCode.{XCode}
use Rattle.pj_xexpressions.specs.declared.operator.Quantifier.{Quantifier}
use Rattle.pj_xexpressions.specs.declared.operator.Quantifier.TheVariants as quantifier
use Rattle.pj_xvalue.specs.Items.{ItemValue, Boolean}
use Rattle.pj_xvalue.specs.Boolean.{effective_boolean}

-- a value or the code of an error, with the classes that are asked for
abbrev pub Means : Type 0 → Type 0
Means A = Asking (Result A XCode)

abbrev pub give : {A : Type 0} → A → Means A
give value = Return (Ok value)

abbrev pub fail : {A : Type 0} → XCode → Means A
fail code = Return (Err code)

-- a value or a code, without asking
abbrev pub judged : {A : Type 0} → Result A XCode → Means A
judged result = Return result

abbrev pub after : {A B : Type 0} → (A → Means B) → Result A XCode → Means B
after next (Ok value) = next value
after next (Err code) = Return (Err code)

-- one evaluation after another, which takes the first one's value: a code ends both
infixl 10 ◌>>=◌
abbrev pub ◌>>=◌ : {A B : Type 0} → Means A → (A → Means B) → Means B
meaning >>= next = bind meaning (after next)

-- Members one after the other, with a state from member to member: a member is evaluated, and its value is taken into the
-- state or found to be an error, before the next one is evaluated.
abbrev pub chain : {X S : Type 0} → (X → Means (List ItemValue)) → (X → S → List ItemValue → Result S XCode) → List X → S → Means S
chain meaning taken [] state = give state
chain meaning taken (x ∷ xs) state = meaning x >>= λ value. judged (taken x state value) >>= λ next. chain meaning taken xs next

abbrev pub one_boolean : Bool → List ItemValue
one_boolean b = Boolean b ∷ []

-- whether such a truth of one member decides
abbrev pub decides : Quantifier → Bool → Bool
decides quantifier.Some truth = truth
decides quantifier.Every truth = not truth

-- whether some, or every, member has the effective boolean value true, up to the first that decides: behind it nothing is
-- evaluated
abbrev pub decided : {X : Type 0} → Quantifier → (X → Means (List ItemValue)) → List X → Means (List ItemValue)
decided quantifier meaning [] = give (one_boolean (not (decides quantifier true)))
decided quantifier meaning (x ∷ xs) = meaning x >>= λ value. judged (effective_boolean value) >>= λ truth. if decides quantifier truth then give (one_boolean truth) else decided quantifier meaning xs
