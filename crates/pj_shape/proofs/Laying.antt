-- Where the nodes of a derivation stand.
use Rattle.std.proofs.Common.{◌≡◌, ℕ, ◌+◌, ◌≤◌, Bool, true, false, List, [], ◌∷◌, ◌++◌, length, Option, None, refl, sym, ◌∙◌, ap, arith}
use Rattle.std.specs.Prelude.{if◌then◌else◌}
use Rattle.std.specs.List.{All}
use Rattle.std.proofs.lemmas.Option.{slice_get_within}
use Rattle.std.proofs.lemmas.List.Elements.{All-nil, All-cons, All-append}
use Rattle.pj_tree.specs.declared.kind.Kind.{Kind}
use Rattle.pj_peg_grammar.specs.Form.{Form, rule}
use Rattle.pj_peg_grammar.specs.Derivation.{Forest, no_tree, tree, append, count, steps_from}
use Rattle.pj_peg_grammar.specs.Derives.{Outcome, To, Fails, Derives, token_is, token_not, any_is, any_not, rule_to, rule_fails, nothing_to, seq_to, seq_first, seq_second, never_fails, choice_first, choice_other, star_more, star_end, maybe_some, maybe_none, ahead_is, ahead_not, not_ahead_is, not_ahead_not}
use Rattle.pj_peg_grammar.specs.declared.derivation.Step.{Step}
use Rattle.pj_shape.specs.declared.shape.Shape.{Shape}
use Rattle.pj_shape.specs.declared.shape.Shape.TheVariants.{Pass, Node, Joined, Turn, Segment}
use Rattle.pj_shape.specs.Shaped.{Nodes, no_nodes, node, one_node, joined, with_rule, acts, leads, shape_of, shaped}
use Rattle.pj_shape.specs.Shaped as nodes
use Rattle.pj_shape.specs.Flat.{flat}
use Rattle.pj_shape.specs.Typed.{Words, around_of, is_class, type_then, typed}
use Rattle.pj_shape.specs.Writing.{IsWithin}
use Rattle.pj_shape.proofs.Places.{steps_length}

-- ---- derivations

-- derivations that lie one behind the other from a place to another, and so do those below each
abbrev pub Laid : ℕ → ℕ → Forest → Type 0
Laid i j no_tree = i ≤ j
Laid i j (tree r a b below after) = (i ≤ a) × Laid a b below × Laid b j after

pub laid_le : (i j : ℕ) (d : Forest) → Laid i j d → i ≤ j
laid_le i j no_tree l = l
laid_le i j (tree r a b below after) l = let x = laid_le a b below l.1 in let y = laid_le b j after l.2 in let z = l.0 in omega arith

laid_from : (i i' j : ℕ) (d : Forest) → i ≤ i' → Laid i' j d → Laid i j d
laid_from i i' j no_tree le l = omega arith
laid_from i i' j (tree r a b below after) le l = let z = l.0 in (omega arith, l.1, l.2)

laid-append : (i j n : ℕ) (d e : Forest) → Laid i j d → Laid j n e → Laid i n (append d e)
laid-append i j n no_tree e l m = laid_from i j n e l m
laid-append i j n (tree r a b below after) e l m = (l.0, l.1, laid-append b j n after e l.2 m)

-- what was taken lies among the tokens
abbrev Lies : ℕ → ℕ → Outcome → Type 0
Lies n i (To j d) = Laid i j d × (i ≤ n → j ≤ n)
Lies n i Fails = Unit {0}

both : (n i j m : ℕ) (d e : Forest) → Lies n i (To j d) → Lies n j (To m e) → Lies n i (To m (append d e))
both n i j m d e l p = (laid-append i j m d e l.0 p.0, λ h. p.1 (l.1 h))

here : (n i : ℕ) → Lies n i (To i no_tree)
here n i = (omega arith, λ h. h)

pub lies : {rules : List Form} {kinds : List ℕ} {f : Form} {i : ℕ} {o : Outcome} → Derives rules kinds f i o → Lies (length kinds) i o
lies {kinds = kinds} (token_is {k} {i} e) = (omega arith, λ h. let w = slice_get_within kinds i k e in omega arith)
lies (token_not e) = tt
lies (any_is {i} lt) = (omega arith, λ h. omega arith)
lies (any_not le) = tt
lies (rule_to {r} {i} {j} {d} f is x) = let l = lies x in let le : i ≤ i = omega arith in let le' : j ≤ j = omega arith in ((le, l.0, le'), l.1)
lies (rule_fails f is x) = tt
lies {kinds = kinds} (nothing_to {i}) = here (length kinds) i
lies {kinds = kinds} (seq_to {i = i} {j = j} {k = m} {d = d} {e = e} x y) = both (length kinds) i j m d e (lies x) (lies y)
lies (seq_first x) = tt
lies (seq_second x y) = tt
lies never_fails = tt
lies (choice_first x) = lies x
lies (choice_other x y) = lies y
lies {kinds = kinds} (star_more {i = i} {j = j} {k = m} {d = d} {e = e} x y) = both (length kinds) i j m d e (lies x) (lies y)
lies {kinds = kinds} (star_end {i = i} x) = here (length kinds) i
lies (maybe_some x) = lies x
lies {kinds = kinds} (maybe_none {i = i} x) = here (length kinds) i
lies {kinds = kinds} (ahead_is {i = i} x) = here (length kinds) i
lies (ahead_not x) = tt
lies {kinds = kinds} (not_ahead_is {i = i} x) = here (length kinds) i
lies (not_ahead_not x) = tt

-- what a rule took is one tree
abbrev IsOne : Form → ℕ → Outcome → Type 0
IsOne (rule r) i (To j d) = (below : Forest) × (d ≡ tree r i j below no_tree)
IsOne f i o = Unit {0}

pub one_tree : {rules : List Form} {kinds : List ℕ} {f : Form} {i : ℕ} {o : Outcome} → Derives rules kinds f i o → IsOne f i o
one_tree (token_is e) = tt
one_tree (token_not e) = tt
one_tree (any_is lt) = tt
one_tree (any_not le) = tt
one_tree (rule_to {r} {i} {j} {d} f is x) = (d, refl)
one_tree (rule_fails f is x) = tt
one_tree nothing_to = tt
one_tree (seq_to x y) = tt
one_tree (seq_first x) = tt
one_tree (seq_second x y) = tt
one_tree never_fails = tt
one_tree (choice_first x) = tt
one_tree (choice_other x y) = tt
one_tree (star_more x y) = tt
one_tree (star_end x) = tt
one_tree (maybe_some x) = tt
one_tree (maybe_none x) = tt
one_tree (ahead_is x) = tt
one_tree (ahead_not x) = tt
one_tree (not_ahead_is x) = tt
one_tree (not_ahead_not x) = tt

-- ---- nodes

-- each node takes tokens up to one of so many places, none of which stands before its first
abbrev pub AreIn : ℕ → Nodes → Type 0
AreIn n no_nodes = Unit {0}
AreIn n (node kind a b below after) = (a ≤ b) × (b ≤ n) × AreIn n below × AreIn n after

in-append : (n : ℕ) (xs ys : Nodes) → AreIn n xs → AreIn n ys → AreIn n (nodes.append xs ys)
in-append n no_nodes ys h g = g
in-append n (node kind a b below after) ys h g = (h.0, h.1, h.2, in-append n after ys h.3 g)

in_joined : (n : ℕ) (kind : Kind) (i j : ℕ) (ns : Nodes) → i ≤ j → j ≤ n → AreIn n ns → AreIn n (joined kind i j ns)
in_joined n kind i j no_nodes le within h = tt
in_joined n kind i j (node l a b below no_nodes) le within h = h
in_joined n kind i j (node l a b below (node l' a' b' under after)) le within h = (le, within, h, tt)

in_rule : (n : ℕ) (s : Shape) (start i j : ℕ) (so_far ns : Nodes) → start ≤ j → i ≤ j → j ≤ n → AreIn n so_far → AreIn n ns → AreIn n (with_rule s start i j so_far ns)
in_rule n Pass start i j so_far ns sj ij within h g = in-append n so_far ns h g
in_rule n (Node kind) start i j so_far ns sj ij within h g = in-append n so_far (one_node kind i j ns) h (ij, within, g, tt)
in_rule n (Joined kind) start i j so_far ns sj ij within h g = in-append n so_far (joined kind i j ns) h (in_joined n kind i j ns ij within g)
in_rule n (Turn kind) start i j so_far ns sj ij within h g = (sj, within, in-append n so_far ns h g, tt)
in_rule n (Segment kind) start i j so_far ns sj ij within h g = (sj, within, in-append n so_far ns h g, tt)

pub in_shaped : (n : ℕ) (shapes : List Shape) (small : ℕ → Bool) (start s e : ℕ) (so_far : Nodes) (d : Forest) → start ≤ s → Laid s e d → e ≤ n → AreIn n so_far → AreIn n (shaped shapes small start so_far d)
in_shaped n shapes small start s e so_far no_tree le l within h = h
in_shaped n shapes small start s e so_far (tree r i j below after) le l within h =
    let si = l.0 in
    let ij = laid_le i j below l.1 in
    let je = laid_le j e after l.2 in
    let jn : j ≤ n = omega arith in
    let sj : start ≤ j = omega arith in
    let ii : i ≤ i = omega arith in
    let inner : AreIn n (shaped shapes small i no_nodes below) = in_shaped n shapes small i i j no_nodes below ii l.1 jn tt in
    in_shaped n shapes small start j e _ after sj l.2 within (in_rule n (acts (shape_of shapes r) (leads small i j so_far after)) start i j so_far (shaped shapes small i no_nodes below) sj ij jn h inner)

pub in_typed : (n : ℕ) (w : Words) (around : Option ℕ) (ns : Nodes) → AreIn n ns → AreIn n (typed w around ns)
in_typed n w around no_nodes h = tt
in_typed n w around (node kind i j below after) h =
    go (is_class w around (node kind i j below no_nodes)) (in_typed n w (around_of kind i) below h.2) (in_typed n w None after h.3)
  where
    go : (b : Bool) → AreIn n (typed w (around_of kind i) below) → AreIn n (typed w None after) →
        AreIn n (if b then type_then i j (typed w None after) else node kind i j (typed w (around_of kind i) below) (typed w None after))
    go true f g = (h.0, h.1, (h.0, h.1, tt, tt), g)
    go false f g = (h.0, h.1, f, g)

pub flat_within : (n : ℕ) (ns : Nodes) → AreIn n ns → All (IsWithin n) (flat ns)
flat_within n no_nodes h = All-nil (IsWithin n)
flat_within n (node kind i j below after) h =
    All-cons (IsWithin n) (record { kind = kind; from = i; to = j; size = 1 + length (flat below) }) (flat below ++ flat after) (h.0, h.1)
    (All-append (IsWithin n) (flat below) (flat after) (flat_within n below h.2) (flat_within n after h.3))

-- ---- a derivation is told by its steps

heads : {A : Type 0} {x y : A} {xs ys : List A} → x ∷ xs ≡ y ∷ ys → x ≡ y
heads e = cc

tails : {A : Type 0} {x y : A} {xs ys : List A} → x ∷ xs ≡ y ∷ ys → xs ≡ ys
tails e = cc

fronts : {A : Type 0} (xs xs' ys ys' : List A) → length xs ≡ length xs' → xs ++ ys ≡ xs' ++ ys' → (xs ≡ xs') × (ys ≡ ys')
fronts [] [] ys ys' l e = (refl, e)
fronts [] (x ∷ xs') ys ys' l e = absurd (omega arith)
fronts (x ∷ xs) [] ys ys' l e = absurd (omega arith)
fronts (x ∷ xs) (x' ∷ xs') ys ys' l e =
    let h = fronts xs xs' ys ys' (omega arith) (tails e) in
    (ap (λ y. y ∷ xs) (heads e) ∙ ap (λ l'. x' ∷ l') h.0, h.1)

same_tree : (r r' i i' j j' : ℕ) (b b' a a' : Forest) → r ≡ r' → i ≡ i' → j ≡ j' → b ≡ b' → a ≡ a' → tree r i j b a ≡ tree r' i' j' b' a'
same_tree r r' i i' j j' b b' a a' e1 e2 e3 e4 e5 =
    ap (λ x. tree x i j b a) e1 ∙ ap (λ x. tree r' x j b a) e2 ∙ ap (λ x. tree r' i' x b a) e3 ∙ ap (λ x. tree r' i' j' x a) e4 ∙ ap (λ x. tree r' i' j' b' x) e5

pub one_forest : (n : ℕ) (d e : Forest) → steps_from n d ≡ steps_from n e → d ≡ e
one_forest n no_tree no_tree is = refl
one_forest n no_tree (tree r i j below after) is = absurd cc
one_forest n (tree r i j below after) no_tree is = absurd cc
one_forest n (tree r i j b a) (tree r' i' j' b' a') is =
    let s : ◌≡◌ {A = Step} record { rule = r; from = i; to = j; next = n + 1 + count b } record { rule = r'; from = i'; to = j'; next = n + 1 + count b' } = heads is in
    let c : n + 1 + count b ≡ n + 1 + count b' = ap (λ (x : Step). x.next) s in
    let l : length (steps_from (n + 1) b) ≡ length (steps_from (n + 1) b') =
    (let x = steps_length (n + 1) b in let y = steps_length (n + 1) b' in omega arith) in
    let h = fronts (steps_from (n + 1) b) (steps_from (n + 1) b') (steps_from (n + 1 + count b) a) (steps_from (n + 1 + count b') a') l (tails is) in
    same_tree r r' i i' j j' b b' a a' (ap (λ (x : Step). x.rule) s) (ap (λ (x : Step). x.from) s) (ap (λ (x : Step). x.to) s)
    (one_forest (n + 1) b b' h.0) (one_forest (n + 1 + count b) a a' (h.1 ∙ ap (λ m. steps_from m a') (sym c)))
