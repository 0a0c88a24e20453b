-- Results sorted by their first keys ascend strictly, where no two of these are one.
use Rattle.std.proofs.Common.{◌≡◌, ℕ, suc, ◌+◌, Bool, true, false, List, [], ◌∷◌, map, get_or, refl, sym, ap, subst, ◌∙◌, arith}
use Rattle.std.specs.List.{AllByRecursion, IsDistinct}
use Rattle.std.specs.List.Sorted.{IsPermutation, IsSortedBy, IsStrictlySortedBy}
use Rattle.std.specs.declared.cmp.Ordering.{Ordering}
use Rattle.std.specs.declared.cmp.Ordering.TheVariants.{Less, Equal, Greater}
use Rattle.std.specs.Ordering.{is_eq, is_lt, ordering_reverse}
use Rattle.std.specs.Cmp.Lexicographic.{nat_list_cmp_total}
use Rattle.std.proofs.lemmas.List.Elements.{recursion_from_All}
use Rattle.std.proofs.lemmas.List.Sorted.{IsPermutation-map, ranks_by, sorted_far}
use Rattle.std.proofs.lemmas.Map.Keys.{IsDistinct-IsPermutation}
use Rattle.pj_cache.specs.Places.{byte_order}
use Rattle.pj_fitting.specs.Right.{Key}
use Rattle.pj_left_cache.specs.Missing.{is_same_key}

eq_back : (o : Ordering) → is_eq (ordering_reverse o) ≡ is_eq o
eq_back Less = refl
eq_back Equal = refl
eq_back Greater = refl

pub same_key_flips : (a b : Key) → is_same_key a b ≡ is_same_key b a
same_key_flips a b = ap is_eq (nat_list_cmp_total.antisymm b a) ∙ eq_back (byte_order a b)

module _ {A : Type 0} (f : A → Key) where
  abbrev pub is_before : A → A → Bool
  is_before a b = is_lt (byte_order (f a) (f b))

  -- neither behind it nor at it
  below_by : (x y : A) (o : Ordering) → byte_order (f x) (f y) ≡ o → is_before y x ≡ false → is_same_key (f x) (f y) ≡ false → o ≡ Less
  below_by x y Less e behind apart = refl
  below_by x y Equal e behind apart =
      let never : true ≡ false = sym (same_key_flips (f x) (f y) ∙ ap is_eq e) ∙ apart in
      absurd cc
  below_by x y Greater e behind apart =
      let never : true ≡ false = sym (ap is_lt (nat_list_cmp_total.antisymm (f y) (f x) ∙ ap ordering_reverse e)) ∙ behind in
      absurd cc

  above : (x : A) (xs : List A) → AllByRecursion (λ y. is_before y x ≡ false) xs → AllByRecursion (λ y. is_same_key (f x) y ≡ false) (map f xs) → AllByRecursion (λ y. byte_order (f x) y ≡ Less) (map f xs)
  above x [] all apart = tt
  above x (y ∷ ys) all apart = (below_by x y (byte_order (f x) (f y)) refl all.0 apart.0, above x ys all.1 apart.1)

  ascends : (xs : List A) → IsSortedBy is_before xs → IsDistinct is_same_key (map f xs) → IsStrictlySortedBy byte_order (map f xs)
  unfolding IsStrictlySortedBy IsDistinct
  ascends [] up once = tt
  ascends (x ∷ xs) up once = (
    above x xs (recursion_from_All (λ y. is_before y x ≡ false) xs (λ k d small. sorted_far is_before (ranks_by nat_list_cmp_total f) (x ∷ xs) up 0 (suc k) d (omega arith) (omega (arith, small)))) once.0,
    ascends xs
        (λ k d low high.
        let next : suc k + 1 ≡ suc (k + 1) = omega arith in
        subst (λ (n : ℕ). is_before (get_or (x ∷ xs) n d) (get_or xs k d) ≡ false) next (up (suc k) d (omega arith) (omega (arith, high))))
        once.1,
  )

  -- so does a list in another order
  pub ascending : (xs ys : List A) → IsPermutation xs ys → IsSortedBy is_before ys → IsDistinct is_same_key (map f xs) → IsStrictlySortedBy byte_order (map f ys)
  ascending xs ys moved up once = ascends ys up (IsDistinct-IsPermutation is_same_key same_key_flips (map f xs) (map f ys) (IsPermutation-map f xs ys moved) once)
