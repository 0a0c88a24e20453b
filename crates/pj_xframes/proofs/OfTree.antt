-- What is of the tree.
use Rattle.std.proofs.Common.{◌≡◌, ℕ, List, [], ◌∷◌, ◌++◌, map, sym, ap, ◌∙◌, subst}
use Rattle.std.proofs.lemmas.List.{map-append}
use Rattle.pj_xvalue.specs.declared.item.Item.{Item}
use Rattle.pj_xvalue.specs.Items.{value_of_item, values_of}
use Rattle.pj_xvalue.specs.OfTree.{OfTree, ArgumentsOfTree}
use Rattle.pj_xvalue.proofs.OfTreeLaws.{of_tree-append, arguments-more}

-- items behind others
pub of_tree-behind : (n : ℕ) (all before more : List Item) → all ≡ before ++ more → OfTree n (values_of before) → OfTree n (values_of more) → OfTree n (values_of all)
of_tree-behind n all before more is h k = subst (λ xs. OfTree n xs) (sym (ap values_of is ∙ map-append value_of_item before more)) (of_tree-append n (values_of before) (values_of more) h k)

-- one argument more
pub arguments-pushed : (n : ℕ) (all before : List (List Item)) (x : List Item) → all ≡ before ++ x ∷ [] → ArgumentsOfTree n (map values_of before) → OfTree n (values_of x) → ArgumentsOfTree n (map values_of all)
arguments-pushed n all before x is h k = subst (λ xss. ArgumentsOfTree n xss) (sym (ap (map values_of) is ∙ map-append values_of before (x ∷ []))) (arguments-more n (map values_of before) (values_of x) h k)
