-- Lists in the other order.
use Rattle.std.proofs.Common.{◌≡◌, ◌∙◌, ℕ, zero, suc, ◌<◌, List, [], ◌∷◌, ◌++◌, map, reverse, length, refl, sym, ap, subst, arith, get_or}
use Rattle.std.specs.List.{AllByRecursion, AllZip}
use Rattle.std.proofs.lemmas.List.{map-append, reverse-append}
use mathlib.Core.Option.{some}
use lib.ListN.{get_elem?}
use Rattle.atomic_table.proofs.Lists.{at_longer}

pub reverse_first : {A : Type 0} (x : A) (xs : List A) → reverse (x ∷ xs) ≡ reverse xs ++ x ∷ []
reverse_first x xs = reverse-append (x ∷ []) xs

pub reverse_last : {A : Type 0} (xs : List A) (x : A) → reverse (xs ++ x ∷ []) ≡ x ∷ reverse xs
reverse_last xs x = reverse-append xs (x ∷ [])

pub map_reverse : {A B : Type 0} (f : A → B) (xs : List A) → map f (reverse xs) ≡ reverse (map f xs)
map_reverse f [] = refl
map_reverse {B = B} f (x ∷ xs) = ap (map f) (reverse_first x xs) ∙ map-append f (reverse xs) (x ∷ []) ∙ ap (λ (l : List B). l ++ f x ∷ []) (map_reverse f xs) ∙ sym (reverse_first (f x) (map f xs))

zip_append : {A B : Type 0} (R : A → B → Type 0) (xs : List A) (ys : List B) (us : List A) (vs : List B) → AllZip R xs ys → AllZip R us vs → AllZip R (xs ++ us) (ys ++ vs)
zip_append R [] [] us vs all more = more
zip_append R [] (y ∷ ys) us vs all more = absurd all
zip_append R (x ∷ xs) [] us vs all more = absurd all
zip_append R (x ∷ xs) (y ∷ ys) us vs all more = (all.0, zip_append R xs ys us vs all.1 more)

pub zip_reverse : {A B : Type 0} (R : A → B → Type 0) (xs : List A) (ys : List B) → AllZip R xs ys → AllZip R (reverse xs) (reverse ys)
zip_reverse R [] [] all = tt
zip_reverse R [] (y ∷ ys) all = absurd all
zip_reverse R (x ∷ xs) [] all = absurd all
zip_reverse {A} {B} R (x ∷ xs) (y ∷ ys) all =
    subst (λ (l : List A). AllZip R l (reverse (y ∷ ys))) (sym (reverse_first x xs))
    (subst (λ (l : List B). AllZip R (reverse xs ++ x ∷ []) l) (sym (reverse_first y ys)) (zip_append R (reverse xs) (reverse ys) (x ∷ []) (y ∷ []) (zip_reverse R xs ys all.1) (all.0, tt)))

all_append : {A : Type 0} (P : A → Type 0) (xs ys : List A) → AllByRecursion P xs → AllByRecursion P ys → AllByRecursion P (xs ++ ys)
all_append P [] ys all more = more
all_append P (x ∷ xs) ys all more = (all.0, all_append P xs ys all.1 more)

pub all_last : {A : Type 0} (P : A → Type 0) (xs : List A) (x : A) → AllByRecursion P xs → P x → AllByRecursion P (xs ++ x ∷ [])
all_last P xs x all one = all_append P xs (x ∷ []) all (one, tt)

pub all_reverse : {A : Type 0} (P : A → Type 0) (xs : List A) → AllByRecursion P xs → AllByRecursion P (reverse xs)
all_reverse P [] all = tt
all_reverse {A} P (x ∷ xs) all = subst (λ (l : List A). AllByRecursion P l) (sym (reverse_first x xs)) (all_append P (reverse xs) (x ∷ []) (all_reverse P xs all.1) (all.0, tt))

-- two lists of one length, place by place
pub zip_by_index : {A : Type 0} (R : A → A → Type 0) (xs ys : List A) → length ys ≡ length xs → ((i : ℕ) (d : A) → i < length xs → R (get_or xs i d) (get_or ys i d)) → AllZip R xs ys
zip_by_index R [] [] long each = tt
zip_by_index R [] (y ∷ ys) long each = absurd (omega (arith, long))
zip_by_index R (x ∷ xs) [] long each = absurd (omega (arith, long))
zip_by_index R (x ∷ xs) (y ∷ ys) long each = (each 0 x (omega arith), zip_by_index R xs ys (omega (arith, long)) (λ i d below. each (suc i) d (omega (arith, below))))

-- a member of a list
abbrev pub IsIn : {A : Type 0} → List A → A → Type 0
IsIn xs x = (k : ℕ) × (get_elem? xs k ≡ some x)

pub in_front : {A : Type 0} (xs ys : List A) (x : A) → IsIn xs x → IsIn (xs ++ ys) x
in_front xs ys x at = (at.0, at_longer xs ys at.0 x at.1)

pub in_back : {A : Type 0} (xs ys : List A) (x : A) → IsIn ys x → IsIn (xs ++ ys) x
in_back [] ys x at = at
in_back (y ∷ xs) ys x at = let later = in_back xs ys x at in (suc later.0, later.1)

pub in_reverse : {A : Type 0} (xs : List A) (x : A) → IsIn xs x → IsIn (reverse xs) x
in_reverse {A} xs x at = go xs at.0 at.1 where
  go : (ys : List A) (k : ℕ) → get_elem? ys k ≡ some x → IsIn (reverse ys) x
  go [] k is = absurd (cc)
  go (y ∷ ys) zero is = subst (λ (l : List A). IsIn l x) (sym (reverse_first y ys)) (in_back (reverse ys) (y ∷ []) x (0, is))
  go (y ∷ ys) (suc k) is = subst (λ (l : List A). IsIn l x) (sym (reverse_first y ys)) (in_front (reverse ys) (y ∷ []) x (go ys k is))
