-- What constructs of several operands promise, in the form in which the code's facts stand.
use Rattle.std.proofs.Common.{◌≡◌, ℕ, ◌-◌, ◌<◌, ◌≤◌, ℤ, pos, ◌+ℤ◌, ◌-ℤ◌, Bool, true, false, List, [], ◌∷◌, map, length, take, drop, get_or, IsTrue, Option, Some, None, Result, Ok, refl, sym, ◌∙◌, ap, subst, arith}
use Rattle.std.specs.List.{range_with_len}
use Rattle.std.specs.Prelude.{if◌then◌else◌, not}
use Rattle.pj_xexpressions.specs.declared.operator.Quantifier.{Quantifier}
use Rattle.pj_xvalue.specs.declared.fault.XCode.{XCode}
use Rattle.pj_xvalue.specs.declared.fault.XFault.{XFault}
use Rattle.pj_xvalue.specs.Items.{ItemValue, Integer, are_atomic}
use Rattle.pj_xvalue.specs.OfTree.{OfTree}
use Rattle.pj_xvalue.proofs.OfTreeLaws.{of_tree-nil, of_tree-atomic}
use Rattle.pj_xvalue.specs.Arguments.{and_then}
use Rattle.pj_xsteps.specs.Arithmetic.{integers, natural, range}
use Rattle.pj_xsteps.specs.Context.{Around, Context}
use Rattle.pj_xsteps.specs.Means.{Means, give, judged, ◌>>=◌, chain, decided, decides, one_boolean}
use Rattle.pj_xsteps.proofs.SequenceLaws.{then-assoc}
use Rattle.pj_xframes.specs.declared.frame.Next.{Next}
use Rattle.pj_xframes.specs.Frames.{Replies}
use Rattle.pj_xframes.specs.Going.{GoesIf}
use Rattle.pj_xframes.specs.Scopes.{Scoped}
use Rattle.pj_xframes.proofs.Fronts.{whole}

-- the first of some parts, before the others and what follows them
pub front-then : {P X S B : Type 0} (f : P → X) (m : X → Means (List ItemValue)) (t : X → S → List ItemValue → Result S XCode) (k : S → Means B) (ps : List P) (p : P) (s : S) → 1 ≤ length ps → p ≡ get_or ps 0 p
    → (m (f p) >>= λ value. ((judged (t (f p) s value) >>= λ next. chain m t (map f (take (length ps - 1) (drop 1 ps))) next) >>= k)) ≡ (chain m t (map f ps) s >>= k)
front-then f m t k ps p s some is =
    sym (then-assoc (m (f p)) (λ value. judged (t (f p) s value) >>= λ next. chain m t (map f (take (length ps - 1) (drop 1 ps))) next) k)
    ∙ sym (ap (λ qs. chain m t (map f qs) s >>= k) (whole ps p some is))

-- no truths
pub decided-none : {P X : Type 0} (f : P → X) (q : Quantifier) (m : X → Means (List ItemValue)) (ps : List P) (truth : Bool) → length ps < 1 → truth ≡ decides q true → give (one_boolean (not truth)) ≡ decided q m (map f ps)
decided-none f q m [] truth few is = ap (λ b. give (one_boolean (not b))) is
decided-none f q m (p ∷ ps) truth few is = absurd (omega arith)

-- a construct that goes as another does which means the same
pub goes-same : (a : Around) (reply : Replies) (c : Context) (s : Scoped) (c_left : Context) (s_left : Scoped) (result : Result Next XFault) (m n : Means (List ItemValue)) → m ≡ n
    → GoesIf a reply m c s c_left s_left result → GoesIf a reply n c s c_left s_left result
goes-same a reply c s c_left s_left result m n is h = subst (λ (meant : Means (List ItemValue)). GoesIf a reply meant c s c_left s_left result) is h

-- a construct that begins with what was made without asking
pub goes-made : {A : Type 0} (a : Around) (reply : Replies) (c : Context) (s : Scoped) (c_left : Context) (s_left : Scoped) (result : Result Next XFault) (meant : Result A XCode → Means (List ItemValue)) (r : Result A XCode) (value : A) → Ok value ≡ r
    → GoesIf a reply (meant (Ok value)) c s c_left s_left result → GoesIf a reply (meant r) c s c_left s_left result
goes-made {A} a reply c s c_left s_left result meant r value is h = subst (λ (made : Result A XCode). GoesIf a reply (meant made) c s c_left s_left result) is h

abbrev ok_of : {B : Type 0} → B → Result B XCode
ok_of value = Ok value

-- what is made of what was made
pub made-then : {A B : Type 0} (r : Result A XCode) (x : A) (f : A → Result B XCode) (value : B) → Ok x ≡ r → Ok value ≡ f x → Ok value ≡ and_then r f
made-then {A} r x f value is then_is = then_is ∙ ap (λ (made : Result A XCode). and_then made f) is

pub made-as : {A B : Type 0} (r : Result A XCode) (x : A) (f : A → B) (value : B) → Ok x ≡ r → value ≡ f x → Ok value ≡ and_then r (λ y. Ok (f y))
made-as {A} {B} r x f value is as_is = ap (λ (v : B). ok_of v) as_is ∙ ap (λ (made : Result A XCode). and_then made (λ y. Ok (f y))) is

-- a construct with a test
pub goes-then : (a : Around) (reply : Replies) (c : Context) (s : Scoped) (c_left : Context) (s_left : Scoped) (result : Result Next XFault) (b : Bool) (m n : Means (List ItemValue)) → b ≡ true
    → GoesIf a reply m c s c_left s_left result → GoesIf a reply (if b then m else n) c s c_left s_left result
goes-then a reply c s c_left s_left result b m n is h = subst (λ (test : Bool). GoesIf a reply (if test then m else n) c s c_left s_left result) (sym is) h

pub goes-else : (a : Around) (reply : Replies) (c : Context) (s : Scoped) (c_left : Context) (s_left : Scoped) (result : Result Next XFault) (b : Bool) (m n : Means (List ItemValue)) → b ≡ false
    → GoesIf a reply n c s c_left s_left result → GoesIf a reply (if b then m else n) c s c_left s_left result
goes-else a reply c s c_left s_left result b m n is h = subst (λ (test : Bool). GoesIf a reply (if test then m else n) c s c_left s_left result) (sym is) h

-- numbers are of every tree
each_integer : (from : ℤ) (ks : List ℕ) → IsTrue (are_atomic (map (λ k. Integer (from +ℤ pos k)) ks))
each_integer from [] = refl
each_integer from (k ∷ ks) = each_integer from ks

pub range-of_tree : (n : ℕ) (from to : Option ℤ) → OfTree n (range from to)
range-of_tree n (Some from) (Some to) = of_tree-atomic n (integers from to) (each_integer from (range_with_len 0 (natural ((to -ℤ from) +ℤ pos 1))))
range-of_tree n (Some from) None = of_tree-nil n
range-of_tree n None to = of_tree-nil n
