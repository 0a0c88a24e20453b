-- What stays of the tree.
use Rattle.std.specs.Prelude.{◌≡◌, ℕ, List, [], ◌∷◌, ◌++◌, map, length, IsTrue}
use Rattle.std.specs.List.{All, AllByRecursion}
use Rattle.std.proofs.Common.{sym, ◌∙◌, ap, subst, ◌<◌, get_or}
use Rattle.std.proofs.lemmas.List.Elements.{All-from_recursion, recursion_from_All, All-nil, All-cons, All-append}
use Rattle.std.proofs.lemmas.List.{length-map, get_or-map}
use Rattle.pj_xvalue.specs.declared.item.Item.{Item}
use Rattle.pj_xvalue.specs.Items.{ItemValue, Document, Element, Attribute, String, Integer, Boolean, are_atomic, value_of_item, values_of, IsOfTree, AreOfTree}
use Rattle.pj_xvalue.specs.OfTree.{OfTree, ArgumentsOfTree, VariablesOfTree}

pub of_tree-nil : (n : ℕ) → OfTree n []
of_tree-nil n = record { each = All-nil (IsOfTree n) }

pub of_tree-cons : (n : ℕ) (x : ItemValue) (xs : List ItemValue) → IsOfTree n x → OfTree n xs → OfTree n (x ∷ xs)
of_tree-cons n x xs h hs = record { each = All-cons (IsOfTree n) x xs h hs.each }

pub of_tree-one : (n : ℕ) (x : ItemValue) → IsOfTree n x → OfTree n (x ∷ [])
of_tree-one n x h = of_tree-cons n x [] h (of_tree-nil n)

pub of_tree-append : (n : ℕ) (xs ys : List ItemValue) → OfTree n xs → OfTree n ys → OfTree n (xs ++ ys)
of_tree-append n xs ys h k = record { each = All-append (IsOfTree n) xs ys h.each k.each }

pub of_tree-each : (n : ℕ) (xs : List ItemValue) → AllByRecursion (IsOfTree n) xs → OfTree n xs
of_tree-each n xs h = record { each = All-from_recursion (IsOfTree n) xs h }

pub each-of_tree : (n : ℕ) (xs : List ItemValue) → OfTree n xs → AllByRecursion (IsOfTree n) xs
each-of_tree n xs h = recursion_from_All (IsOfTree n) xs h.each

pub of_tree-head : (n : ℕ) (x : ItemValue) (xs : List ItemValue) → OfTree n (x ∷ xs) → IsOfTree n x
of_tree-head n x xs h = (each-of_tree n (x ∷ xs) h).0

pub of_tree-tail : (n : ℕ) (x : ItemValue) (xs : List ItemValue) → OfTree n (x ∷ xs) → OfTree n xs
of_tree-tail n x xs h = of_tree-each n xs (each-of_tree n (x ∷ xs) h).1

-- the item at an index of a sequence
pub of_tree-at : (n : ℕ) (xs : List Item) (i : ℕ) (x : Item) → i < length xs → x ≡ get_or xs i x → OfTree n (values_of xs) → IsOfTree n (value_of_item x)
of_tree-at n xs i x lt is h =
    subst (λ y. IsOfTree n y) (get_or-map value_of_item xs i x (value_of_item x) lt ∙ ap value_of_item (sym is)) (h.each i (value_of_item x) (subst (λ k. i < k) (sym (length-map xs value_of_item)) lt))

atomic-each : (n : ℕ) (xs : List ItemValue) → IsTrue (are_atomic xs) → AllByRecursion (IsOfTree n) xs
atomic-each n [] h = tt
atomic-each n (Document ∷ xs) h = absurd (cc)
atomic-each n (Element m ∷ xs) h = absurd (cc)
atomic-each n (Attribute m place ∷ xs) h = absurd (cc)
atomic-each n (String text ∷ xs) h = (tt, atomic-each n xs h)
atomic-each n (Integer z ∷ xs) h = (tt, atomic-each n xs h)
atomic-each n (Boolean b ∷ xs) h = (tt, atomic-each n xs h)

-- atomic values are of every tree
pub of_tree-atomic : (n : ℕ) (xs : List ItemValue) → IsTrue (are_atomic xs) → OfTree n xs
of_tree-atomic n xs h = of_tree-each n xs (atomic-each n xs h)

pub arguments-nil : (n : ℕ) → ArgumentsOfTree n []
arguments-nil n = record { each = All-nil (AreOfTree n) }

pub arguments-cons : (n : ℕ) (xs : List ItemValue) (xss : List (List ItemValue)) → OfTree n xs → ArgumentsOfTree n xss → ArgumentsOfTree n (xs ∷ xss)
arguments-cons n xs xss h hs = record { each = All-cons (AreOfTree n) xs xss h.each hs.each }

pub arguments-more : (n : ℕ) (xss : List (List ItemValue)) (xs : List ItemValue) → ArgumentsOfTree n xss → OfTree n xs → ArgumentsOfTree n (xss ++ xs ∷ [])
arguments-more n xss xs h k = record { each = All-append (AreOfTree n) xss (xs ∷ []) h.each (All-cons (AreOfTree n) xs [] k.each (All-nil (AreOfTree n))) }

pub arguments-head : (n : ℕ) (xs : List ItemValue) (xss : List (List ItemValue)) → ArgumentsOfTree n (xs ∷ xss) → OfTree n xs
arguments-head n xs xss h = record { each = (recursion_from_All (AreOfTree n) (xs ∷ xss) h.each).0 }

pub arguments-tail : (n : ℕ) (xs : List ItemValue) (xss : List (List ItemValue)) → ArgumentsOfTree n (xs ∷ xss) → ArgumentsOfTree n xss
arguments-tail n xs xss h = record { each = All-from_recursion (AreOfTree n) xss (recursion_from_All (AreOfTree n) (xs ∷ xss) h.each).1 }

pub variables-nil : (n : ℕ) → VariablesOfTree n []
variables-nil n = record { each = All-nil (λ (v : List ℕ × List ItemValue). AreOfTree n v.1) }

pub variables-more : (n : ℕ) (name : List ℕ) (items : List ItemValue) (variables : List (List ℕ × List ItemValue)) → OfTree n items → VariablesOfTree n variables → VariablesOfTree n ((name, items) ∷ variables)
variables-more n name items variables h k = record { each = All-cons (λ (v : List ℕ × List ItemValue). AreOfTree n v.1) (name, items) variables h.each k.each }

pub ruleset of_tree = (of_tree-nil, of_tree-one, of_tree-cons, of_tree-append, of_tree-atomic, arguments-nil, arguments-more, variables-nil, variables-more)
