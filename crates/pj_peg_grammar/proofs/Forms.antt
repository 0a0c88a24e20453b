-- What each kind of item stands for.
use Rattle.std.proofs.Common.{◌≡◌, ℕ, List, Vec, Box, Global, map, sym, ◌∙◌, ap, drop, get_or, length, ◌<◌, ◌≤◌, ◌+◌, ◌-◌, ◌∷◌, suc, drop-cons, add-one, arith}
use Rattle.std.proofs.lemmas.List.{drop_all}
use Rattle.pj_peg_grammar.specs.declared.item.Item.{Item}
use Rattle.pj_peg_grammar.specs.declared.item.Item.TheOpen.{Item-F}
use Rattle.pj_peg_grammar.specs.declared.item.Item.TheVariants.{Token, Any, Rule, Seq, Choice, Star, Maybe, And, Not}
use Rattle.pj_peg_grammar.specs.declared.item.Item.TheViews.{roll-Item}
use Rattle.pj_peg_grammar.specs.declared.item.Item.TheFolds.{fold-roll-Item}
use Rattle.pj_peg_grammar.specs.Form.{Form, token, any, rule, nothing, seq, never, choice, star, maybe, ahead, not_ahead, seq_all, choice_all, item_form, form_of}

pub form_token : (k : ℕ) → form_of (Token k) ≡ token k
unfolding roll-Item denote.Hole.Carrier.roll
form_token k = fold-roll-Item Form item_form (Item-F.Token k)

pub form_any : form_of Any ≡ any
unfolding roll-Item denote.Hole.Carrier.roll
form_any = fold-roll-Item Form item_form (Item-F.Any)

pub form_rule : (r : ℕ) → form_of (Rule r) ≡ rule r
unfolding roll-Item denote.Hole.Carrier.roll
form_rule r = fold-roll-Item Form item_form (Item-F.Rule r)

pub form_seq : (parts : Vec Item Global) → form_of (Seq parts) ≡ seq_all (map form_of parts.items)
unfolding roll-Item denote.Hole.Carrier.roll
form_seq parts = fold-roll-Item Form item_form (Item-F.Seq parts)

pub form_choice : (parts : Vec Item Global) → form_of (Choice parts) ≡ choice_all (map form_of parts.items)
unfolding roll-Item denote.Hole.Carrier.roll
form_choice parts = fold-roll-Item Form item_form (Item-F.Choice parts)

pub form_star : (part : Box Item Global) → form_of (Star part) ≡ star (form_of part.value)
unfolding roll-Item denote.Hole.Carrier.roll
form_star part = fold-roll-Item Form item_form (Item-F.Star part)

pub form_maybe : (part : Box Item Global) → form_of (Maybe part) ≡ maybe (form_of part.value)
unfolding roll-Item denote.Hole.Carrier.roll
form_maybe part = fold-roll-Item Form item_form (Item-F.Maybe part)

pub form_ahead : (part : Box Item Global) → form_of (And part) ≡ ahead (form_of part.value)
unfolding roll-Item denote.Hole.Carrier.roll
form_ahead part = fold-roll-Item Form item_form (Item-F.And part)

pub form_not_ahead : (part : Box Item Global) → form_of (Not part) ≡ not_ahead (form_of part.value)
unfolding roll-Item denote.Hole.Carrier.roll
form_not_ahead part = fold-roll-Item Form item_form (Item-F.Not part)

pub maybe_item : (item x : Item) (part : Box Item Global) → item ≡ Maybe part → x ≡ part.value → form_of item ≡ maybe (form_of x)
maybe_item item x part is same = ap form_of is ∙ form_maybe part ∙ ap (λ y. maybe (form_of y)) (sym same)

pub ahead_item : (item x : Item) (part : Box Item Global) → item ≡ And part → x ≡ part.value → form_of item ≡ ahead (form_of x)
ahead_item item x part is same = ap form_of is ∙ form_ahead part ∙ ap (λ y. ahead (form_of y)) (sym same)

pub not_ahead_item : (item x : Item) (part : Box Item Global) → item ≡ Not part → x ≡ part.value → form_of item ≡ not_ahead (form_of x)
not_ahead_item item x part is same = ap form_of is ∙ form_not_ahead part ∙ ap (λ y. not_ahead (form_of y)) (sym same)

forms_cons : (parts : List Item) (i : ℕ) (x : Item) → i < length parts → x ≡ get_or parts i x → map form_of (drop i parts) ≡ form_of x ∷ map form_of (drop (i + 1) parts)
forms_cons parts i x lt is = rw add-one (ap (map form_of) (drop-cons parts i x lt) ∙ ap (λ y. form_of y ∷ map form_of (drop (suc i) parts)) (sym is))

pub seq_cons : (parts : List Item) (i : ℕ) (x : Item) → i < length parts → x ≡ get_or parts i x → seq_all (map form_of (drop i parts)) ≡ seq (form_of x) (seq_all (map form_of (drop (i + 1) parts)))
seq_cons parts i x lt is = ap seq_all (forms_cons parts i x lt is)

pub choice_cons : (parts : List Item) (i : ℕ) (x : Item) → i < length parts → x ≡ get_or parts i x → choice_all (map form_of (drop i parts)) ≡ choice (form_of x) (choice_all (map form_of (drop (i + 1) parts)))
choice_cons parts i x lt is = ap choice_all (forms_cons parts i x lt is)

pub seq_end : (parts : List Item) (i : ℕ) → length parts ≤ i → seq_all (map form_of (drop i parts)) ≡ nothing
seq_end parts i le = ap (λ l. seq_all (map form_of l)) (drop_all i parts le)

pub choice_end : (parts : List Item) (i : ℕ) → length parts ≤ i → choice_all (map form_of (drop i parts)) ≡ never
choice_end parts i le = ap (λ l. choice_all (map form_of l)) (drop_all i parts le)

pub star_item : (item x : Item) (part : Box Item Global) → item ≡ Star part → x ≡ part.value → form_of item ≡ star (form_of x)
star_item item x part is same = ap form_of is ∙ form_star part ∙ ap (λ y. star (form_of y)) (sym same)

one_back : (n : ℕ) → 0 < n → (n - 1) + 1 ≡ n
one_back n lt = omega arith

pub seq_back : (parts : List Item) (n : ℕ) (x : Item) → 0 < n → n ≤ length parts → x ≡ get_or parts (n - 1) x →
    seq_all (map form_of (drop (n - 1) parts)) ≡ seq (form_of x) (seq_all (map form_of (drop n parts)))
seq_back parts n x lt le is =
    seq_cons parts (n - 1) x (omega arith) is ∙ ap (λ m. seq (form_of x) (seq_all (map form_of (drop m parts)))) (one_back n lt)

pub choice_back : (parts : List Item) (n : ℕ) (x : Item) → 0 < n → n ≤ length parts → x ≡ get_or parts (n - 1) x →
    choice_all (map form_of (drop (n - 1) parts)) ≡ choice (form_of x) (choice_all (map form_of (drop n parts)))
choice_back parts n x lt le is =
    choice_cons parts (n - 1) x (omega arith) is ∙ ap (λ m. choice (form_of x) (choice_all (map form_of (drop m parts)))) (one_back n lt)
