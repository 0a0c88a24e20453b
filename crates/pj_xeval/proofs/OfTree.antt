-- What is of the tree.
use Rattle.std.proofs.Common.{◌≡◌, ℕ, zero, suc, true, false, List, [], ◌∷◌, ◌++◌, drop, IsTrue, sym, ap, ◌∙◌, subst, nat_eq}
use Rattle.std.specs.Prelude.{if◌then◌else◌}
use Rattle.std.specs.Cmp.Lexicographic.{pointwise}
use Rattle.std.specs.List.{AllByRecursion}
use Rattle.std.proofs.lemmas.List.{map-append}
use Rattle.std.proofs.lemmas.List.Elements.{All-from_recursion, recursion_from_All, All-nil, All-cons, All-append}
use Rattle.pj_xvalue.specs.declared.item.Item.{Item}
use Rattle.pj_xexpressions.specs.declared.pmd_function.PmdFunction.{PmdFunction}
use Rattle.pj_xvalue.specs.Items.{ItemValue, Document, Element, Attribute, String, Integer, Boolean, value_of_item, values_of, are_atomic, IsOfTree, AreOfTree}
use Rattle.pj_xvalue.specs.OfTree.{OfTree, VariablesOfTree}
use Rattle.pj_xvalue.proofs.OfTreeLaws.{of_tree-nil, of_tree-one, of_tree-append, of_tree-atomic, of_tree-each, each-of_tree, arguments-nil, variables-more}
use Rattle.pj_xvalue.specs.Replies.{is_one_boolean, is_type_test, may_give}
use Rattle.pj_xsteps.specs.Context.{Variables, value_of_variable}
use Rattle.pj_xframes.specs.declared.frame.Frame.{Frame}
use Rattle.pj_xframes.specs.Scopes.{Scoped, variables_of, with_variable, without}
use Rattle.pj_xframes.specs.Going.{FrameOfTree}
use Rattle.pj_xeval.specs.Whole.{FramesOfTree}

split : {X : Type 0} (P : X → Type 0) (xs ys : List X) → AllByRecursion P (xs ++ ys) → AllByRecursion P xs × AllByRecursion P ys
split P [] ys h = (tt, h)
split P (x ∷ xs) ys h = let rest = split P xs ys h.1 in ((h.0, rest.0), rest.1)

-- the last item, and those before it
pub of_tree-before : (n : ℕ) (all before : List Item) (x : Item) → all ≡ before ++ x ∷ [] → OfTree n (values_of all) → OfTree n (values_of before)
of_tree-before n all before x is h =
    let whole = each-of_tree n (values_of before ++ value_of_item x ∷ []) (subst (λ xs. OfTree n xs) (ap values_of is ∙ map-append value_of_item before (x ∷ [])) h) in
    of_tree-each n (values_of before) (split (IsOfTree n) (values_of before) (value_of_item x ∷ []) whole).0

pub of_tree-last : (n : ℕ) (all before : List Item) (x : Item) → all ≡ before ++ x ∷ [] → OfTree n (values_of all) → IsOfTree n (value_of_item x)
of_tree-last n all before x is h =
    let whole = each-of_tree n (values_of before ++ value_of_item x ∷ []) (subst (λ xs. OfTree n xs) (ap values_of is ∙ map-append value_of_item before (x ∷ [])) h) in
    (split (IsOfTree n) (values_of before) (value_of_item x ∷ []) whole).1.0

-- items behind others
pub of_tree-behind : (n : ℕ) (all before more : List Item) → all ≡ before ++ more → OfTree n (values_of before) → OfTree n (values_of more) → OfTree n (values_of all)
of_tree-behind n all before more is h k = subst (λ xs. OfTree n xs) (sym (ap values_of is ∙ map-append value_of_item before more)) (of_tree-append n (values_of before) (values_of more) h k)

pub of_tree-pushed : (n : ℕ) (all before : List Item) (x : Item) → all ≡ before ++ x ∷ [] → OfTree n (values_of before) → IsOfTree n (value_of_item x) → OfTree n (values_of all)
of_tree-pushed n all before x is h k = of_tree-behind n all before (x ∷ []) is h (of_tree-one n (value_of_item x) k)

-- variables
abbrev EachOfTree : ℕ → List ℕ × List ItemValue → Type 0
EachOfTree n v = AreOfTree n v.1

dropped : (n k : ℕ) (xs ys : Variables) → AllByRecursion (EachOfTree n) (xs ++ ys) → AllByRecursion (EachOfTree n) (drop k xs ++ ys)
dropped n zero xs ys h = h
dropped n (suc k) [] ys h = h
dropped n (suc k) (x ∷ xs) ys h = dropped n k xs ys h.1

pub variables-without : (n k : ℕ) (s : Scoped) → VariablesOfTree n (variables_of s) → VariablesOfTree n (variables_of (without k s))
variables-without n k s h = record {
  each = All-from_recursion (EachOfTree n) (variables_of (without k s)) (dropped n k s.bound s.given (recursion_from_All (EachOfTree n) (variables_of s) h.each));
}

pub variables-with : (n : ℕ) (name : List ℕ) (items : List ItemValue) (s : Scoped) → OfTree n items → VariablesOfTree n (variables_of s) → VariablesOfTree n (variables_of (with_variable name items s))
variables-with n name items s h k = variables-more n name items (variables_of s) h k

of-variable : (n : ℕ) (name : List ℕ) (vs : Variables) → AllByRecursion (EachOfTree n) vs → AreOfTree n (value_of_variable name vs)
of-variable n name [] h = All-nil (IsOfTree n)
of-variable n name (v ∷ vs) h = elim (pointwise nat_eq v.0 name) as (λ b. AreOfTree n (if b then v.1 else value_of_variable name vs)) [
  | true ↦ h.0
  | false ↦ of-variable n name vs h.1
]

pub variable-of_tree : (n : ℕ) (name : List ℕ) (vs : Variables) → VariablesOfTree n vs → OfTree n (value_of_variable name vs)
variable-of_tree n name vs h = record { each = of-variable n name vs (recursion_from_All (EachOfTree n) vs h.each) }

-- stacks of frames
pub frames-nil : (n : ℕ) → FramesOfTree n []
frames-nil n = record { each = All-nil (FrameOfTree n) }

pub frames-pushed : (n : ℕ) (new frames : List Frame) (top : Frame) → new ≡ frames ++ top ∷ [] → FramesOfTree n frames → FrameOfTree n top → FramesOfTree n new
frames-pushed n new frames top is h k = subst (λ fs. FramesOfTree n fs) (sym is) (record { each = All-append (FrameOfTree n) frames (top ∷ []) h.each (All-cons (FrameOfTree n) top [] k (All-nil (FrameOfTree n))) })

pub frames-before : (n : ℕ) (all frames : List Frame) (top : Frame) → all ≡ frames ++ top ∷ [] → FramesOfTree n all → FramesOfTree n frames
frames-before n all frames top is h =
    let whole = recursion_from_All (FrameOfTree n) (frames ++ top ∷ []) (subst (λ fs. FramesOfTree n fs) is h).each in
    record { each = All-from_recursion (FrameOfTree n) frames (split (FrameOfTree n) frames (top ∷ []) whole).0 }

pub frames-top : (n : ℕ) (all frames : List Frame) (top : Frame) → all ≡ frames ++ top ∷ [] → FramesOfTree n all → FrameOfTree n top
frames-top n all frames top is h =
    let whole = recursion_from_All (FrameOfTree n) (frames ++ top ∷ []) (subst (λ fs. FramesOfTree n fs) is h).each in
    (split (FrameOfTree n) frames (top ∷ []) whole).1.0

-- what a function of PMD gives
one_boolean-of_tree : (n : ℕ) (items : List ItemValue) → IsTrue (is_one_boolean items) → OfTree n items
one_boolean-of_tree n [] h = of_tree-nil n
one_boolean-of_tree n (Boolean b ∷ []) h = of_tree-one n (Boolean b) tt
one_boolean-of_tree n (Boolean b ∷ y ∷ ys) h = absurd (cc)
one_boolean-of_tree n (Document ∷ xs) h = absurd (cc)
one_boolean-of_tree n (Element m ∷ xs) h = absurd (cc)
one_boolean-of_tree n (Attribute m place ∷ xs) h = absurd (cc)
one_boolean-of_tree n (String text ∷ xs) h = absurd (cc)
one_boolean-of_tree n (Integer z ∷ xs) h = absurd (cc)

pub given-of_tree : (n : ℕ) (function : PmdFunction) (arguments : List (List ItemValue)) (items : List ItemValue) → IsTrue (may_give function arguments items) → OfTree n items
given-of_tree n function arguments items h = elim (is_type_test function arguments) as (λ b. IsTrue (if b then is_one_boolean items else are_atomic items) → OfTree n items) [
  | true ↦ λ k. one_boolean-of_tree n items k
  | false ↦ λ k. of_tree-atomic n items k
] h

pub ruleset of_tree = (of_tree-nil, of_tree-one, of_tree-append, of_tree-before, of_tree-last, of_tree-behind, of_tree-pushed, arguments-nil, variables-without, variables-with, variable-of_tree, frames-nil, frames-pushed, frames-before, frames-top)
