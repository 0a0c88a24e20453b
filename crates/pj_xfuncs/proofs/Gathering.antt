-- Steps of loops that gather items.
use Rattle.std.proofs.Common.{◌≡◌, ◌∙◌, ℕ, suc, ◌+◌, ◌<◌, ◌≤◌, ℤ, pos, ◌+ℤ◌, Result, Ok, Err, Bool, true, false, cond, List, [], ◌∷◌, ◌++◌, map, take, drop, length, get_or, reverse, refl, sym, ap, ◌||◌, if◌then◌else◌, add-one}
use Rattle.std.specs.List.{list_any}
use Rattle.pj_xvalue.specs.declared.fault.XCode.{XCode}
use Rattle.pj_xvalue.specs.Arguments.{and_then}
use Rattle.pj_xfuncs.specs.Gathered.{sum_behind}
use Rattle.pj_xfuncs.specs.Numbers.{held, sum_from}
use Rattle.std.proofs.lemmas.List.{reverse-append, at_drop_more, at_drop_all, append-nil, append_assoc, map-append, take_more}
use Rattle.pj_xvalue.specs.declared.item.Item.{Item}
use Rattle.pj_xvalue.specs.Items.{ItemValue, Integer, value_of_item, values_of}
use Rattle.pj_xfuncs.specs.Sequences.{first_occurrences, places_from, same}

list_any-map : {A B : Type 0} (test : B → Bool) (f : A → B) (xs : List A) → list_any test (map f xs) ≡ list_any (λ x. test (f x)) xs
list_any-map test f [] = refl
list_any-map test f (x ∷ xs) = ap (λ b. test (f x) || b) (list_any-map test f xs)

values-more : (items : List Item) (i : ℕ) (x : Item) → i < length items → x ≡ get_or items i x → values_of (take (i + 1) items) ≡ values_of (take i items) ++ value_of_item x ∷ []
values-more items i x lt is = ap values_of (take_more items i x lt ∙ ap (λ (y : Item). take i items ++ y ∷ []) (sym is)) ∙ map-append value_of_item (take i items) (x ∷ [])

-- the values that are left, where so many were taken
abbrev occurrences_at : List Item → ℕ → List ItemValue
occurrences_at items i = first_occurrences (values_of (take i items)) (values_of (drop i items))

occurrences-step : (items : List Item) (i : ℕ) (x : Item) (b : Bool) → i < length items → x ≡ get_or items i x → b ≡ list_any (λ other. same (value_of_item x) (value_of_item other)) (take i items)
    → occurrences_at items i ≡ (if b then [] else value_of_item x ∷ []) ++ occurrences_at items (i + 1)
occurrences-step items i x b lt is among =
    at_drop_more (λ (t : List Item). first_occurrences (values_of (take i items)) (values_of t)) items i x lt
    ∙ ap (λ (y : Item). first_occurrences (values_of (take i items)) (value_of_item y ∷ values_of (drop (i + 1) items))) (sym is)
    ∙ ap (λ (t : Bool). cond t (next) (value_of_item x ∷ next)) (list_any-map (same (value_of_item x)) value_of_item (take i items) ∙ sym among)
    ∙ ap (λ (before : List ItemValue). cond b (first_occurrences before (values_of (drop (i + 1) items))) (value_of_item x ∷ first_occurrences before (values_of (drop (i + 1) items)))) (sym (values-more items i x lt is))
    ∙ join b
  where
    next : List ItemValue
    next = first_occurrences (values_of (take i items) ++ value_of_item x ∷ []) (values_of (drop (i + 1) items))

    join : (c : Bool) → cond c (occurrences_at items (i + 1)) (value_of_item x ∷ occurrences_at items (i + 1)) ≡ (if c then [] else value_of_item x ∷ []) ++ occurrences_at items (i + 1)
    join true = refl
    join false = refl

pub occurrences-more : (kept new whole : List ItemValue) (items : List Item) (i : ℕ) (x : Item) (b : Bool) → i < length items → x ≡ get_or items i x → b ≡ list_any (λ other. same (value_of_item x) (value_of_item other)) (take i items)
    → new ≡ kept ++ (if b then [] else value_of_item x ∷ []) → kept ++ occurrences_at items i ≡ whole → new ++ occurrences_at items (i + 1) ≡ whole
occurrences-more kept new whole items i x b lt is among put h =
    ap (λ (t : List ItemValue). t ++ occurrences_at items (i + 1)) put ∙ append_assoc kept (if b then [] else value_of_item x ∷ []) (occurrences_at items (i + 1))
    ∙ ap (λ (t : List ItemValue). kept ++ t) (sym (occurrences-step items i x b lt is among)) ∙ h

-- the places of what is left
abbrev places_at : ItemValue → List Item → ℕ → List ItemValue
places_at sought items i = places_from sought (i + 1) (values_of (drop i items))

places-step : (sought : ItemValue) (items : List Item) (i : ℕ) (x : Item) (b : Bool) → i < length items → x ≡ get_or items i x → b ≡ same (value_of_item x) sought
    → places_at sought items i ≡ (if b then Integer (pos (i + 1)) ∷ [] else []) ++ places_at sought items (i + 1)
places-step sought items i x b lt is here =
    at_drop_more (λ (t : List Item). places_from sought (i + 1) (values_of t)) items i x lt
    ∙ ap (λ (y : Item). places_from sought (i + 1) (value_of_item y ∷ values_of (drop (i + 1) items))) (sym is)
    ∙ ap (λ (t : Bool). cond t (Integer (pos (i + 1)) ∷ places_from sought (suc (i + 1)) (values_of (drop (i + 1) items))) (places_from sought (suc (i + 1)) (values_of (drop (i + 1) items)))) (sym here)
    ∙ ap (λ (n : ℕ). cond b (Integer (pos (i + 1)) ∷ places_from sought n (values_of (drop (i + 1) items))) (places_from sought n (values_of (drop (i + 1) items)))) (sym (add-one (i + 1)))
    ∙ join b
  where
    join : (c : Bool) → cond c (Integer (pos (i + 1)) ∷ places_at sought items (i + 1)) (places_at sought items (i + 1)) ≡ (if c then Integer (pos (i + 1)) ∷ [] else []) ++ places_at sought items (i + 1)
    join true = refl
    join false = refl

pub places-more : (kept new whole : List ItemValue) (sought : ItemValue) (items : List Item) (i : ℕ) (x : Item) (b : Bool) → i < length items → x ≡ get_or items i x → b ≡ same (value_of_item x) sought
    → new ≡ kept ++ (if b then Integer (pos (i + 1)) ∷ [] else []) → kept ++ places_at sought items i ≡ whole → new ++ places_at sought items (i + 1) ≡ whole
places-more kept new whole sought items i x b lt is here put h =
    ap (λ (t : List ItemValue). t ++ places_at sought items (i + 1)) put ∙ append_assoc kept (if b then Integer (pos (i + 1)) ∷ [] else []) (places_at sought items (i + 1))
    ∙ ap (λ (t : List ItemValue). kept ++ t) (sym (places-step sought items i x b lt is here)) ∙ h

-- nothing is left
pub occurrences-end : (kept whole : List ItemValue) (items : List Item) (i : ℕ) → length items ≤ i → kept ++ occurrences_at items i ≡ whole → kept ≡ whole
occurrences-end kept whole items i le h = sym (append-nil kept) ∙ ap (λ (t : List ItemValue). kept ++ t) (sym (at_drop_all (λ (t : List Item). first_occurrences (values_of (take i items)) (values_of t)) items i le)) ∙ h

pub places-end : (kept whole : List ItemValue) (sought : ItemValue) (items : List Item) (i : ℕ) → length items ≤ i → kept ++ places_at sought items i ≡ whole → kept ≡ whole
places-end kept whole sought items i le h = sym (append-nil kept) ∙ ap (λ (t : List ItemValue). kept ++ t) (sym (at_drop_all (λ (t : List Item). places_from sought (i + 1) (values_of t)) items i le)) ∙ h

-- the values of items the other way round
pub values-reverse : (items : List Item) → values_of (reverse items) ≡ reverse (values_of items)
values-reverse [] = refl
values-reverse (x ∷ items) =
    ap values_of (reverse-append (x ∷ []) items) ∙ map-append value_of_item (reverse items) (reverse (x ∷ []))
    ∙ ap (λ (t : List ItemValue). t ++ value_of_item x ∷ []) (values-reverse items) ∙ sym (reverse-append (value_of_item x ∷ []) (values_of items))

-- ---- integers

code-behind : (code : XCode) (numbers : List ℤ) → sum_behind (Err code) numbers ≡ Err code
code-behind code [] = refl
code-behind code (z ∷ zs) = code-behind code zs

pub sum-behind : (total : ℤ) (numbers : List ℤ) → sum_behind (Ok total) numbers ≡ sum_from total numbers
sum-behind total [] = refl
sum-behind total (z ∷ zs) = go (λ t. sum-behind t zs) (held (total +ℤ z))
  where
    go : ((t : ℤ) → sum_behind (Ok t) zs ≡ sum_from t zs) → (r : Result ℤ XCode) → sum_behind r zs ≡ and_then r (λ t. sum_from t zs)
    go ih (Ok t) = ih t
    go ih (Err code) = code-behind code zs
