-- Values in the place of attributes, item by item.
use Rattle.std.proofs.Common.{◌≡◌, ℕ, ◌+◌, ◌<◌, ◌≤◌, arith, List, [], ◌∷◌, ◌++◌, length, get_or, map, take, drop, filter, cond, ◌&&◌, true, false, Option, refl, sym, ap, ◌∙◌, append_assoc, append-nil, add-one, drop-cons}
use Rattle.std.proofs.lemmas.List.{take_more, map-append}
use Rattle.std.proofs.lemmas.Grind.{flat_map-append}
use Rattle.std.proofs.lemmas.List.Elements.{filter-append}
use Rattle.std.specs.List.{enumerate_from}
use Rattle.pj_tree.specs.declared.node.Node.{Node}
use Rattle.pj_xexpressions.specs.declared.expr.NodeTest.{NodeTest}
use Rattle.pj_xvalue.specs.declared.item.Item.{Item}
use Rattle.pj_xvalue.specs.Items.{ItemValue, Attribute, value_of_item, values_of}
use Rattle.pj_xsteps.specs.Steps.{named_attributes, passes_name, has_value}
use Rattle.pj_xexpressions.specs.declared.function.Function.{Function}
use Rattle.pj_xfuncs.specs.Library.{called as given}
use Rattle.pj_xsteps.specs.Context.{Around, Context}
use Rattle.pj_xsteps.specs.Calls.{of_text}
use Rattle.pj_xsteps.specs.Operands.{valued, with_values}

pub values_more : (items : List Item) (i : ℕ) (x : Item) → i < length items → x ≡ get_or items i x → values_of (take (i + 1) items) ≡ values_of (take i items) ++ value_of_item x ∷ []
values_more items i x lt is =
    ap (λ l. values_of l) (take_more items i x lt ∙ ap (λ y. take i items ++ y ∷ []) (sym is)) ∙ map-append value_of_item (take i items) (x ∷ [])

pub valued_more : (a : Around) (items : List Item) (i : ℕ) (x : Item) → i < length items → x ≡ get_or items i x → with_values a (values_of (take (i + 1) items)) ≡ with_values a (values_of (take i items)) ++ valued a (value_of_item x)
valued_more a items i x lt is =
    ap (with_values a) (values_more items i x lt is) ∙ flat_map-append (valued a) (values_of (take i items)) (value_of_item x ∷ [])
    ∙ ap (λ l. with_values a (values_of (take i items)) ++ l) (append-nil (valued a (value_of_item x)))

pub pushed : (all new : List (List Item)) (v : List Item) → new ≡ all ++ v ∷ [] → map values_of new ≡ map values_of all ++ values_of v ∷ []
pushed all new v is = ap (map values_of) is ∙ map-append values_of all (v ∷ [])

pub arguments_more : (a : Around) (before : List (List ItemValue)) (arguments : List (List Item)) (i : ℕ) (x : List Item) → i < length arguments → x ≡ get_or arguments i x
    → before ++ map (with_values a) (map values_of (take (i + 1) arguments)) ≡ (before ++ map (with_values a) (map values_of (take i arguments))) ++ with_values a (values_of x) ∷ []
arguments_more a before arguments i x lt is =
    ap (λ l. before ++ map (with_values a) (map values_of l)) (take_more arguments i x lt ∙ ap (λ y. take i arguments ++ y ∷ []) (sym is))
    ∙ ap (λ l. before ++ map (with_values a) l) (map-append values_of (take i arguments) (x ∷ []))
    ∙ ap (λ l. before ++ l) (map-append (with_values a) (map values_of (take i arguments)) (values_of x ∷ []))
    ∙ sym (append_assoc before (map (with_values a) (map values_of (take i arguments))) (with_values a (values_of x) ∷ []))

pub ruleset filters = (filter-append, append_assoc)

left_from : {X : Type 0} (xs : List X) (i : ℕ) (x : X) → i < length xs → drop i xs ≡ get_or xs i x ∷ drop (i + 1) xs
left_from xs i x h = rw (add-one, drop-cons xs i x) refl

named_front : (value_of : List ℕ → Option ItemValue) (test : NodeTest) (n : Node) (p : ℕ × List ℕ) (ps : List (ℕ × List ℕ)) → named_attributes value_of test n (p ∷ ps) ≡ named_attributes value_of test n (p ∷ []) ++ named_attributes value_of test n ps
named_front value_of test n p ps = elim (passes_name test p.1 && has_value (value_of p.1)) as (λ b. map (λ q. Attribute n q.0) (cond b (p ∷ filter (λ q. passes_name test q.1 && has_value (value_of q.1)) ps) (filter (λ q. passes_name test q.1 && has_value (value_of q.1)) ps)) ≡ map (λ q. Attribute n q.0) (cond b (p ∷ []) []) ++ named_attributes value_of test n ps) [
  | true ↦ refl
  | false ↦ refl
]

-- one more name
pub named-more : (value_of : List ℕ → Option ItemValue) (test : NodeTest) (n : Node) (names : List (List ℕ)) (i : ℕ) (x : List ℕ) (old new whole : List ItemValue) → i < length names → x ≡ get_or names i x
    → new ≡ old ++ named_attributes value_of test n ((i, x) ∷ []) → old ++ named_attributes value_of test n (enumerate_from i (drop i names)) ≡ whole
    → new ++ named_attributes value_of test n (enumerate_from (i + 1) (drop (i + 1) names)) ≡ whole
named-more value_of test n names i x old new whole lt is added so_far =
    let rest = named_attributes value_of test n (enumerate_from (i + 1) (drop (i + 1) names)) in
    ap (λ l. l ++ rest) added ∙ append_assoc old (named_attributes value_of test n ((i, x) ∷ [])) rest
    ∙ ap (λ l. old ++ l) (sym (named_front value_of test n (i, x) (enumerate_from (i + 1) (drop (i + 1) names)))
    ∙ ap (λ l. named_attributes value_of test n (enumerate_from i l)) (sym (left_from names i x lt ∙ ap (λ y. y ∷ drop (i + 1) names) (sym is))))
    ∙ so_far

-- a function of text with an argument
pub of_text-some : (a : Around) (function : Function) (c : Context) (arguments : List (List Item)) → 1 ≤ length arguments
    → of_text a function c (map values_of arguments) ≡ given a.patterns function (map (with_values a) (map values_of arguments))
of_text-some a function c [] h = absurd (omega arith)
of_text-some a function c (x ∷ xs) h = refl
