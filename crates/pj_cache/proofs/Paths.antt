-- In a list in strict order the member that has a byte string stands at its place.
use Rattle.std.proofs.Common.{◌≡◌, ℕ, zero, suc, ◌<◌, ◌≤◌, Bool, true, false, cond, List, [], ◌∷◌, length, map, get_or, Some, None, refl, sym, ap, subst, ◌∙◌, arith}
use Rattle.std.specs.Prelude.{nat_eq}
use Rattle.std.specs.List.{AllByRecursion}
use Rattle.std.specs.List.Sorted.{IsStrictlySortedBy}
use Rattle.std.specs.declared.cmp.Ordering.TheVariants.{Less}
use Rattle.std.specs.Ordering.{is_lt}
use Rattle.std.specs.Cmp.{tied_itself}
use Rattle.std.specs.Cmp.Lexicographic.{pointwise, bytes_decides, nat_list_cmp_total}
use Rattle.pj_cache.specs.Places.{byte_order, place_in}
use Rattle.pj_cache.specs.Found.{first_named}

is_itself : (x : List ℕ) → is_lt (byte_order x x) ≡ false
is_itself x = ap is_lt (tied_itself nat_list_cmp_total x)

same : (a b : List ℕ) → a ≡ b → pointwise nat_eq a b ≡ true
same a b e = (bytes_decides a b).1 e

other_by : (a b : List ℕ) (t : Bool) → pointwise nat_eq a b ≡ t → ¬ (a ≡ b) → pointwise nat_eq a b ≡ false
other_by a b true e differ = absurd (differ ((bytes_decides a b).0 e))
other_by a b false e differ = e

other : (a b : List ℕ) → ¬ (a ≡ b) → pointwise nat_eq a b ≡ false
other a b differ = other_by a b (pointwise nat_eq a b) refl differ

pub not_both : (b : Bool) → b ≡ true → b ≡ false → ⊥
not_both true p q = absurd cc
not_both false p q = absurd cc

below_differs : (a b : List ℕ) → is_lt (byte_order a b) ≡ true → ¬ (a ≡ b)
below_differs a b e equal = not_both (is_lt (byte_order b b)) (subst (λ (x : List ℕ). is_lt (byte_order x b) ≡ true) equal e) (is_itself b)

module _ {A : Type 0} (f : A → List ℕ) where
  abbrev pub place : List A → List ℕ → ℕ
  place xs name = place_in (map f xs) name

  -- behind a member that is not below there is none
  none_behind : (name : List ℕ) (y : A) (xs : List A) → AllByRecursion (λ z. byte_order (f y) z ≡ Less) (map f xs) → is_lt (byte_order (f y) name) ≡ false → first_named f xs name ≡ None
  none_behind name y [] all above = refl
  none_behind name y (x ∷ xs) all above =
      let differ : ¬ (f x ≡ name) = λ equal. not_both (is_lt (byte_order (f y) name)) (subst (λ (z : List ℕ). is_lt (byte_order (f y) z) ≡ true) equal (ap is_lt all.0)) above in
      rw (other (f x) name differ) (none_behind name y xs all.1 above)

  there_by : (x : A) (xs : List A) (name : List ℕ) (b : Bool) (y : A) → is_lt (byte_order (f x) name) ≡ b → cond b (suc (place xs name)) 0 < suc (length xs) → y ≡ get_or (x ∷ xs) (cond b (suc (place xs name)) 0) y → f y ≡ name
      → (place xs name < length xs → y ≡ get_or xs (place xs name) y → first_named f xs name ≡ Some y) → cond (pointwise nat_eq (f x) name) (Some x) (first_named f xs name) ≡ Some y
  there_by x xs name true y below lt is here others =
      rw (other (f x) name (below_differs (f x) name below)) (others (omega (arith, lt)) is)
  there_by x xs name false y below lt is here others =
      let at : f x ≡ name = ap f (sym is) ∙ here in
      rw (same (f x) name at) (ap (λ (z : A). Some z) (sym is))

  -- where the member at the place has the byte string, it is the one
  pub there : (xs : List A) (name : List ℕ) (y : A) → place xs name < length xs → y ≡ get_or xs (place xs name) y → f y ≡ name → first_named f xs name ≡ Some y
  there [] name y lt is here = absurd (omega (arith, lt))
  there (x ∷ xs) name y lt is here = there_by x xs name (is_lt (byte_order (f x) name)) y refl lt is here (λ less at. there xs name y less at here)

  nowhere_by : (x : A) (xs : List A) (name : List ℕ) (b : Bool) → is_lt (byte_order (f x) name) ≡ b → AllByRecursion (λ z. byte_order (f x) z ≡ Less) (map f xs)
      → (cond b (suc (place xs name)) 0 < suc (length xs) → (y : A) → y ≡ get_or (x ∷ xs) (cond b (suc (place xs name)) 0) y → ¬ (f y ≡ name))
      → ((place xs name < length xs → (y : A) → y ≡ get_or xs (place xs name) y → ¬ (f y ≡ name)) → first_named f xs name ≡ None) → cond (pointwise nat_eq (f x) name) (Some x) (first_named f xs name) ≡ None
  nowhere_by x xs name true below all differs others =
      rw (other (f x) name (below_differs (f x) name below)) (others (λ lt y is. differs (omega (arith, lt)) y is))
  nowhere_by x xs name false below all differs others =
      rw (other (f x) name (differs (omega arith) x refl)) (none_behind name x xs all below)

  -- where it has another one, or there is no member, there is none
  pub nowhere : (xs : List A) (name : List ℕ) → IsStrictlySortedBy byte_order (map f xs) → (place xs name < length xs → (y : A) → y ≡ get_or xs (place xs name) y → ¬ (f y ≡ name)) → first_named f xs name ≡ None
  unfolding IsStrictlySortedBy
  nowhere [] name sorted differs = refl
  nowhere (x ∷ xs) name sorted differs = nowhere_by x xs name (is_lt (byte_order (f x) name)) refl sorted.0 differs (λ rest. nowhere xs name sorted.1 rest)

  same_get : (xs : List A) (i : ℕ) (d e : A) → i < length xs → get_or xs i d ≡ get_or xs i e
  same_get [] i d e lt = absurd (omega (arith, lt))
  same_get (x ∷ xs) zero d e lt = refl
  same_get (x ∷ xs) (suc i) d e lt = same_get xs i d e (omega (arith, lt))

  -- The same by what code has found: a list, the place, and the member there.

  pub none_at : (xs ys : List A) (name : List ℕ) (at : ℕ) → xs ≡ ys → IsStrictlySortedBy byte_order (map f ys) → at ≡ place xs name → length xs ≤ at → first_named f ys name ≡ None
  none_at xs ys name at same sorted is past =
      let there_is : IsStrictlySortedBy byte_order (map f xs) = subst (λ (l : List A). IsStrictlySortedBy byte_order (map f l)) (sym same) sorted in
      ap (λ (l : List A). first_named f l name) (sym same) ∙ nowhere xs name there_is (λ lt y at_place. absurd (omega (arith, lt, is, past)))

  pub none_here : (xs ys : List A) (name : List ℕ) (at : ℕ) (y : A) → xs ≡ ys → IsStrictlySortedBy byte_order (map f ys) → at ≡ place xs name → y ≡ get_or xs at y → ¬ (f y ≡ name) → first_named f ys name ≡ None
  none_here xs ys name at y same sorted is here differs =
      let there_is : IsStrictlySortedBy byte_order (map f xs) = subst (λ (l : List A). IsStrictlySortedBy byte_order (map f l)) (sym same) sorted in
      let y_is : y ≡ get_or xs (place xs name) y = subst (λ (k : ℕ). y ≡ get_or xs k y) is here in
      ap (λ (l : List A). first_named f l name) (sym same)
      ∙ nowhere xs name there_is (λ lt z z_is equal. differs (ap f (y_is ∙ same_get xs (place xs name) y z lt ∙ sym z_is) ∙ equal))

  pub some_here : (xs ys : List A) (name : List ℕ) (at : ℕ) (y : A) → xs ≡ ys → at ≡ place xs name → at < length xs → y ≡ get_or xs at y → f y ≡ name → first_named f ys name ≡ Some y
  some_here xs ys name at y same is lt here equal =
      let y_is : y ≡ get_or xs (place xs name) y = subst (λ (k : ℕ). y ≡ get_or xs k y) is here in
      ap (λ (l : List A). first_named f l name) (sym same) ∙ there xs name y (omega (arith, lt, is)) y_is equal
