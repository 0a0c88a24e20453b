-- Byte strings put to others, list after list.
use Rattle.std.proofs.Common.{◌≡◌, ℕ, ◌+◌, ◌<◌, List, [], ◌∷◌, ◌++◌, length, take, get_or, refl, sym, ap, ◌∙◌}
use Rattle.std.specs.List.{flat_map}
use Rattle.std.specs.BTreeSet.{insert_key}
use Rattle.std.proofs.lemmas.List.{append-nil, take_more}
use Rattle.std.proofs.lemmas.List.Concat.{flat_map-cons}
use Rattle.std.proofs.lemmas.Grind.{flat_map-append}
use Rattle.pj_cache.specs.Places.{byte_order}
use Rattle.pj_cache_format.specs.FormatTwo.{with_more}

pub with_more-append : (held xs ys : List (List ℕ)) → with_more held (xs ++ ys) ≡ with_more (with_more held xs) ys
with_more-append held [] ys = refl
with_more-append held (x ∷ xs) ys = with_more-append (insert_key byte_order held x) xs ys

-- the lists of one more member
pub flat_more : {A B : Type 0} (f : A → List B) (xs : List A) (i : ℕ) (x : A) → i < length xs → x ≡ get_or xs i x → flat_map f (take (i + 1) xs) ≡ flat_map f (take i xs) ++ f x
flat_more {A} {B} f xs i x lt is =
    let more : take (i + 1) xs ≡ take i xs ++ x ∷ [] = take_more xs i x lt ∙ ap (λ (y : A). take i xs ++ y ∷ []) (sym is) in
    ap (flat_map f) more ∙ flat_map-append f (take i xs) (x ∷ []) ∙ ap (λ (l : List B). flat_map f (take i xs) ++ l) (flat_map-cons f x [] ∙ append-nil (f x))

-- a step of a loop that puts the list of each member
pub noted_more : {A : Type 0} (f : A → List (List ℕ)) (xs : List A) (i : ℕ) (x : A) (start before after : List (List ℕ)) → i < length xs → x ≡ get_or xs i x → before ≡ with_more start (flat_map f (take i xs)) → after ≡ with_more before (f x) → after ≡ with_more start (flat_map f (take (i + 1) xs))
noted_more f xs i x start before after lt is so_far step =
    step ∙ ap (λ (h : List (List ℕ)). with_more h (f x)) so_far ∙ sym (with_more-append start (flat_map f (take i xs)) (f x)) ∙ ap (with_more start) (sym (flat_more f xs i x lt is))

-- the same where a member has a list of members, each with its list
pub noted_deep : {A B : Type 0} (f : B → List (List ℕ)) (g : A → List B) (xs : List A) (i : ℕ) (x : A) (start before after : List (List ℕ)) → i < length xs → x ≡ get_or xs i x → before ≡ with_more start (flat_map f (flat_map g (take i xs))) → after ≡ with_more before (flat_map f (g x)) → after ≡ with_more start (flat_map f (flat_map g (take (i + 1) xs)))
noted_deep {A} {B} f g xs i x start before after lt is so_far step =
    let joined : flat_map f (flat_map g (take (i + 1) xs)) ≡ flat_map f (flat_map g (take i xs)) ++ flat_map f (g x) = ap (flat_map f) (flat_more g xs i x lt is) ∙ flat_map-append f (flat_map g (take i xs)) (g x) in
    step ∙ ap (λ (h : List (List ℕ)). with_more h (flat_map f (g x))) so_far ∙ sym (with_more-append start (flat_map f (flat_map g (take i xs))) (flat_map f (g x))) ∙ ap (with_more start) (sym joined)
