-- What stays of the tree where variables are bound and taken back, and truths that decide.
use Rattle.std.proofs.Common.{◌≡◌, ℕ, ◌<◌, Bool, true, false, List, [], ◌∷◌, ◌++◌, length, Result, Ok, Err, refl, sym, ◌∙◌, ap, subst, arith}
use Rattle.std.specs.Prelude.{if◌then◌else◌, OnOk}
use Rattle.pj_xexpressions.specs.declared.operator.Quantifier.{Quantifier}
use Rattle.pj_xvalue.specs.declared.fault.XCode.{XCode}
use Rattle.pj_xvalue.specs.declared.item.Item.{Item}
use Rattle.pj_xvalue.specs.Items.{ItemValue, value_of_item, values_of}
use Rattle.pj_xvalue.specs.OfTree.{OfTree, VariablesOfTree}
use Rattle.pj_xvalue.proofs.OfTreeLaws.{of_tree-nil, of_tree-one}
use Rattle.pj_xsteps.specs.Means.{Means, give, after, decides, one_boolean}
use Rattle.pj_xframes.specs.Scopes.{Scoped, variables_of, with_variable, without}
use Rattle.pj_xeval.proofs.OfTree.{of_tree-last, variables-with, variables-without}

-- no member is left
pub nothing : {X : Type 0} (xs : List X) → length xs < 1 → xs ≡ []
nothing [] h = refl
nothing (x ∷ xs) h = absurd (omega arith)

-- what holds also holds where there is a value
pub on-ok : {A E : Type 0} (P : Type 0) (r : Result A E) → P → OnOk r P
on-ok P (Ok x) h = h
on-ok P (Err e) h = tt

pub none-of_tree : (n : ℕ) (items : List Item) → items ≡ [] → OfTree n (values_of items)
none-of_tree n items is = subst (λ (xs : List Item). OfTree n (values_of xs)) (sym is) (of_tree-nil n)

pub bound-of_tree : (n : ℕ) (name : List ℕ) (items : List ItemValue) (s bound : Scoped) → bound ≡ with_variable name items s → OfTree n items → VariablesOfTree n (variables_of s) → VariablesOfTree n (variables_of bound)
bound-of_tree n name items s bound is h k = subst (λ (t : Scoped). VariablesOfTree n (variables_of t)) (sym is) (variables-with n name items s h k)

-- with the last item of some
pub taken-of_tree : (n : ℕ) (name : List ℕ) (all before : List Item) (x : Item) (items : List Item) (s bound : Scoped) → all ≡ before ++ x ∷ [] → values_of items ≡ value_of_item x ∷ [] → bound ≡ with_variable name (values_of items) s
    → OfTree n (values_of all) → VariablesOfTree n (variables_of s) → VariablesOfTree n (variables_of bound)
taken-of_tree n name all before x items s bound is one at h k =
    bound-of_tree n name (values_of items) s bound at (subst (λ (xs : List ItemValue). OfTree n xs) (sym one) (of_tree-one n (value_of_item x) (of_tree-last n all before x is h))) k

pub unbound-of_tree : (n count : ℕ) (s less : Scoped) → less ≡ without count s → VariablesOfTree n (variables_of s) → VariablesOfTree n (variables_of less)
unbound-of_tree n count s less is k = subst (λ (t : Scoped). VariablesOfTree n (variables_of t)) (sym is) (variables-without n count s k)

-- a truth that decides, and one that does not
pub decides-now : (q : Quantifier) (truth : Bool) (e : Result Bool XCode) (others : Means (List ItemValue)) → Ok truth ≡ e → decides q truth ≡ true
    → give (one_boolean truth) ≡ after (λ t. if decides q t then give (one_boolean t) else others) e
decides-now q truth e others is decided = sym (ap (λ (b : Bool). if b then give (one_boolean truth) else others) decided) ∙ ap (λ (r : Result Bool XCode). after (λ t. if decides q t then give (one_boolean t) else others) r) is

pub decides-not : (q : Quantifier) (truth : Bool) (e : Result Bool XCode) (others : Means (List ItemValue)) → Ok truth ≡ e → decides q truth ≡ false
    → others ≡ after (λ t. if decides q t then give (one_boolean t) else others) e
decides-not q truth e others is undecided = sym (ap (λ (b : Bool). if b then give (one_boolean truth) else others) undecided) ∙ ap (λ (r : Result Bool XCode). after (λ t. if decides q t then give (one_boolean t) else others) r) is
