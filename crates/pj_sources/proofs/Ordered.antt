-- Lists in the order of their bytes.
use Rattle.std.proofs.Common.{◌≡◌, ◌∙◌, All, get_or, zero, suc, List, [], ◌∷◌, nat_eq, ◌⊎◌, inl, inr, refl, sym, ap, subst, arith}
use Rattle.std.specs.Prelude.{Contains, IsPermutation}
use Rattle.std.specs.List.{dedup, AllByRecursion}
use Rattle.std.specs.List.Sorted.{IsSorted, IsStrictlySortedBy}
use Rattle.std.specs.Cmp.Lexicographic.{pointwise, slice_cmp, same_text, texts_ties}
use Rattle.std.specs.Ordering.{nat_cmp, is_eq, ordering_reverse}
use Rattle.std.specs.declared.cmp.Ordering.TheVariants.{Less, Equal, Greater}
use Rattle.std.proofs.lemmas.Cmp.{nat_list_cmp_total, nat_list_eq_equiv, tied_itself}
use Rattle.std.proofs.lemmas.List.Elements.{All-contains, All-from_recursion, Contains-get_or}
use Rattle.std.proofs.lemmas.List.Kept.{Contains-dedup, Contains-from_dedup, IsStrictlySortedBy-dedup}
use Rattle.std.proofs.lemmas.List.Sorted.{Contains-permutation, IsPermutation-sym}
use Rattle.pj_outside.specs.Files.{Bytes}
use Rattle.pj_sources.specs.Paths.{byte_order}
use Rattle.pj_sources.specs.Listing.{IsInOrder}

-- sorted, and then without doubles
pub in_order : (xs sorted ys : List Bytes) → IsPermutation xs sorted → IsSorted (slice_cmp nat_cmp) sorted → ys ≡ dedup (pointwise nat_eq) sorted → IsInOrder xs ys
in_order xs sorted ys moved up is = record {
  ascending = subst (λ (zs : List Bytes). IsStrictlySortedBy byte_order zs) (sym is) (IsStrictlySortedBy-dedup nat_list_cmp_total texts_ties sorted up);
  members = λ path. (
    λ h. Contains-permutation sorted xs path (IsPermutation-sym xs sorted moved) (Contains-from_dedup (pointwise nat_eq) sorted path (subst (λ (zs : List Bytes). Contains zs path) is h)),
    λ h. subst (λ (zs : List Bytes). Contains zs path) (sym is) (Contains-dedup nat_list_eq_equiv (λ x y e. same_text x y (sym e)) sorted path (Contains-permutation xs sorted path moved h)),
  );
}

-- ---- lists in order with the same members are one

pub member_cases : (x : Bytes) (xs : List Bytes) (q : Bytes) → Contains (x ∷ xs) q → (x ≡ q) ⊎ Contains xs q
member_cases x xs q (zero, below, is) = inl is
member_cases x xs q (suc k, below, is) = inr (k, omega arith, is)

pub first_member : (x : Bytes) (xs : List Bytes) → Contains (x ∷ xs) x
first_member x xs = (0, omega arith, refl)

pub later_member : (x : Bytes) (xs : List Bytes) (q : Bytes) → Contains xs q → Contains (x ∷ xs) q
later_member x xs q (k, below, is) = (suc k, omega arith, is)

pub no_member : (q : Bytes) → Contains {X = Bytes} [] q → ⊥
no_member q (k, below, is) = omega arith

not_below_itself : (x : Bytes) → byte_order x x ≡ Less → ⊥
not_below_itself x e = let same : Less ≡ Equal = sym e ∙ tied_itself nat_list_cmp_total x in absurd (cc)

pub above : (x : Bytes) (xs : List Bytes) (q : Bytes) → AllByRecursion (λ y. byte_order x y ≡ Less) xs → Contains xs q → byte_order x q ≡ Less
above x xs q all has = All-contains (λ y. byte_order x y ≡ Less) xs q (All-from_recursion (λ y. byte_order x y ≡ Less) xs all) has

-- what is below the first is no member
not_below_first : (x y : Bytes) (ys : List Bytes) → byte_order x y ≡ Less → AllByRecursion (λ z. byte_order y z ≡ Less) ys → Contains (y ∷ ys) x → ⊥
not_below_first x y ys less all has = elim (member_cases y ys x has) [
  | inl same ↦ not_below_itself x (subst (λ (z : Bytes). byte_order x z ≡ Less) same less)
  | inr later ↦ not_below_itself x (nat_list_cmp_total.trans x y x less (above y ys x all later))
]

tail_member : (x : Bytes) (xs ys : List Bytes) → AllByRecursion (λ y. byte_order x y ≡ Less) xs → ((q : Bytes) → Contains (x ∷ xs) q → Contains (x ∷ ys) q) → (q : Bytes) → Contains xs q → Contains ys q
tail_member x xs ys all to q has = elim (member_cases x ys q (to q (later_member x xs q has))) [
  | inl same ↦ absurd (not_below_itself x (subst (λ (z : Bytes). byte_order x z ≡ Less) (sym same) (above x xs q all has)))
  | inr later ↦ later
]

pub tied_same : (x y : Bytes) → byte_order x y ≡ Equal → x ≡ y
tied_same x y e = same_text x y (sym (texts_ties x y ∙ ap is_eq e))

pub one_order : (xs ys : List Bytes) → IsStrictlySortedBy byte_order xs → IsStrictlySortedBy byte_order ys → ((q : Bytes) → Contains xs q → Contains ys q) → ((q : Bytes) → Contains ys q → Contains xs q) → xs ≡ ys
unfolding IsStrictlySortedBy
one_order [] [] h k to from = refl
one_order [] (y ∷ ys) h k to from = absurd (no_member y (from y (first_member y ys)))
one_order (x ∷ xs) [] h k to from = absurd (no_member x (to x (first_member x xs)))
one_order (x ∷ xs) (y ∷ ys) h k to from = elim (byte_order x y) as (λ r. byte_order x y ≡ r → x ∷ xs ≡ y ∷ ys) [
  | Less ↦ λ e. absurd (not_below_first x y ys e k.0 (to x (first_member x xs)))
  | Greater ↦ λ e. absurd (not_below_first y x xs (nat_list_cmp_total.antisymm y x ∙ ap ordering_reverse e) h.0 (from y (first_member y ys)))
  | Equal ↦ λ e.
      let same = tied_same x y e in
      let to_x : (q : Bytes) → Contains (x ∷ xs) q → Contains (x ∷ ys) q = subst (λ (z : Bytes). (q : Bytes) → Contains (x ∷ xs) q → Contains (z ∷ ys) q) (sym same) to in
      let from_x : (q : Bytes) → Contains (x ∷ ys) q → Contains (x ∷ xs) q = subst (λ (z : Bytes). (q : Bytes) → Contains (z ∷ ys) q → Contains (x ∷ xs) q) (sym same) from in
      let above_x : AllByRecursion (λ z. byte_order x z ≡ Less) ys = subst (λ (w : Bytes). AllByRecursion (λ z. byte_order w z ≡ Less) ys) (sym same) k.0 in
      let rest = one_order xs ys h.1 k.1 (tail_member x xs ys h.0 to_x) (tail_member x ys xs above_x from_x) in
      (λ i. same i ∷ rest i)
] refl

pub one_in_order : (xs ys zs : List Bytes) → IsInOrder xs ys → IsInOrder xs zs → ys ≡ zs
one_in_order xs ys zs a b = one_order ys zs a.ascending b.ascending (λ q has. (b.members q).1 ((a.members q).0 has)) (λ q has. (a.members q).1 ((b.members q).0 has))

-- what holds of all paths holds of them in order
pub all_in_order : (P : Bytes → Type 0) (xs ys : List Bytes) → IsInOrder xs ys → All P xs → All P ys
all_in_order P xs ys o all = λ k d below. All-contains P xs (get_or ys k d) all ((o.members (get_or ys k d)).0 (Contains-get_or ys k d below))
