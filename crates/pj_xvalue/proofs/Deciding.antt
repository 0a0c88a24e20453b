-- General comparisons, one left item after the other.
use Rattle.std.proofs.Common.{◌≡◌, ℕ, suc, ◌+◌, ◌<◌, Bool, true, false, List, [], ◌∷◌, ◌++◌, map, length, get_or, drop, drop-cons, add-one, Result, Ok, Err, refl, sym, ◌∙◌, ap}
use Rattle.pj_xexpressions.specs.declared.operator.Compare.{Compare}
use Rattle.pj_xvalue.specs.declared.fault.XCode.{XCode}
use Rattle.pj_xvalue.specs.declared.item.Item.{Item}
use Rattle.pj_xvalue.specs.Items.{ItemValue, value_of_item}
use Rattle.pj_xvalue.specs.Comparison.{pair_compares, decided, first_deciding, pairs, general_comparison}

decided-assoc : (a b c : Result Bool XCode) → decided (decided a b) c ≡ decided a (decided b c)
decided-assoc (Ok true) b c = refl
decided-assoc (Ok false) b c = refl
decided-assoc (Err code) b c = refl

pub first_deciding-append : (op : Compare) (xs ys : List (ItemValue × ItemValue)) → first_deciding op (xs ++ ys) ≡ decided (first_deciding op xs) (first_deciding op ys)
first_deciding-append op [] ys = refl
first_deciding-append op (x ∷ xs) ys = ap (decided (pair_compares op x.0 x.1)) (first_deciding-append op xs ys) ∙ sym (decided-assoc (pair_compares op x.0 x.1) (first_deciding op xs) (first_deciding op ys))

-- what the next left item gives decides, or what those behind it give
pub next_item : (op : Compare) (items right rights : List Item) (i : ℕ) (x : Item) (r whole : Result Bool XCode) → i < length items → x ≡ get_or items i x
    → general_comparison op (map value_of_item (drop i items)) (map value_of_item right) ≡ whole → rights ≡ right
    → r ≡ first_deciding op (map (λ other. (value_of_item x, other)) (map value_of_item rights))
    → decided r (general_comparison op (map value_of_item (drop (i + 1) items)) (map value_of_item right)) ≡ whole
next_item op items right rights i x r whole inside is before same given =
    let here : drop i items ≡ x ∷ drop (i + 1) items = rw add-one (drop-cons items i x inside ∙ ap (λ y. y ∷ drop (suc i) items) (sym is)) in
    ap (λ d. decided d (general_comparison op (map value_of_item (drop (i + 1) items)) (map value_of_item right))) (given ∙ ap (λ ys. first_deciding op (map (λ other. (value_of_item x, other)) (map value_of_item ys))) same)
    ∙ sym (first_deciding-append op (map (λ other. (value_of_item x, other)) (map value_of_item right)) (pairs (map value_of_item (drop (i + 1) items)) (map value_of_item right)))
    ∙ ap (λ xs. general_comparison op (map value_of_item xs) (map value_of_item right)) (sym here)
    ∙ before
