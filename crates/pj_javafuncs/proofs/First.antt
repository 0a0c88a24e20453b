-- The first argument of a function.
use Rattle.std.proofs.Common.{◌≡◌, ◌≤◌, arith, List, [], ◌∷◌, length, get_or, ℕ, ap, refl, subst, sym}
use Rattle.std.specs.Prelude.{map}
use Rattle.pj_xvalue.specs.Items.{values_of}
use Rattle.pj_xvalue.specs.OfTree.{ArgumentsOfTree, OfTree}
use Rattle.pj_xvalue.specs.declared.item.Item.{Item}
use Rattle.pj_xvalue.proofs.OfTreeLaws.{arguments-head}
use Rattle.pj_javafuncs.specs.Replies.{first_of}

pub first-of-tree : (n : ℕ) (arguments : List (List Item)) (x : List Item) → 1 ≤ length arguments → x ≡ get_or arguments 0 x → ArgumentsOfTree n (map values_of arguments) → OfTree n (values_of x)
first-of-tree n [] x some is all = absurd (omega arith)
first-of-tree n (y ∷ ys) x some is all = subst (λ z. OfTree n (values_of z)) (sym is) (arguments-head n (values_of y) (map values_of ys) all)

pub first-is : (arguments : List (List Item)) (x : List Item) → 1 ≤ length arguments → x ≡ get_or arguments 0 x → first_of (map values_of arguments) ≡ values_of x
first-is [] x some is = absurd (omega arith)
first-is (y ∷ ys) x some is = sym (ap values_of is)

pub first-none : (arguments : List (List Item)) → length arguments ≡ 0 → first_of (map values_of arguments) ≡ []
first-none [] none = refl
first-none (y ∷ ys) none = absurd (omega arith)
