-- Lists in strict order by byte strings: those with the same members are the same.
use Rattle.std.proofs.Common.{◌≡◌, ℕ, zero, suc, ◌<◌, Bool, true, false, cond, ltb, ltb-true, eqb, ◌||◌, inl, inr, List, [], ◌∷◌, length, map, get_or, Option, Some, None, refl, sym, ap, subst, ◌∙◌, arith}
use Rattle.std.specs.Prelude.{◌⊎◌, slice_get}
use Rattle.std.specs.List.{AllByRecursion, Contains}
use Rattle.std.specs.List.Sorted.{IsStrictlySortedBy}
use Rattle.std.specs.BTreeMap.{is_at}
use Rattle.std.specs.BTreeSet.{insert_key}
use Rattle.std.specs.FinSet as set
use Rattle.std.specs.FinSet.{contains-from_list}
use Rattle.std.specs.declared.cmp.Ordering.{Ordering}
use Rattle.std.specs.declared.cmp.Ordering.TheVariants.{Less, Equal, Greater}
use Rattle.std.specs.Ordering.{is_lt, match_ordering, nat_cmp, ordering_reverse}
use Rattle.std.specs.Cmp.{tied_itself}
use Rattle.std.specs.Cmp.Lexicographic.{nat_list_cmp_total}
use Rattle.std.proofs.lemmas.List.Elements.{recursion_from_All}
use Rattle.pj_format.specs.Fields.{Chain}
use Rattle.pj_names.specs.ClassName.{Name, name_set}
use Rattle.pj_cache.specs.Places.{byte_order, member_at, place_in}
use Rattle.pj_cache.specs.declared.cache.KeyRows.{KeyRows}
use Rattle.pj_cache.specs.declared.cache.CachedResult.{CachedResult}
use Rattle.pj_cache_format.specs.FormatTwo.{first_of, is_key_place, with_more, with_places}
use Rattle.pj_cache_format.specs.Judges.{is_behind}
use Rattle.pj_cache_format.specs.Ordered.{IsKeyInOrder, IsNameInOrder, IsResultInOrder, places_of, result_step}
use Rattle.pj_reuse.specs.Serving.{has_key}
use Rattle.pj_reuse.proofs.Standing.{has_itself}
use Rattle.pj_fitting.proofs.Sets.{same_name}
use Rattle.pj_fitting.proofs.Among.{both_true}
use Rattle.pj_fitting.proofs.Lists.{all_both, all_map}

-- ---- members

abbrev pub IsIn : {A : Type 0} → A → List A → Type 0
IsIn x [] = ⊥
IsIn x (y ∷ ys) = (x ≡ y) ⊎ IsIn x ys

pub in_at : {A : Type 0} (P : A → Type 0) (x : A) (ys : List A) → AllByRecursion P ys → IsIn x ys → P x
in_at P x [] all there = absurd there
in_at P x (y ∷ ys) all (inl e) = subst P (sym e) all.0
in_at P x (y ∷ ys) all (inr rest) = in_at P x ys all.1 rest

in_from : {A : Type 0} (ys : List A) (x : A) (k : ℕ) → k < length ys → get_or ys k x ≡ x → IsIn x ys
in_from [] x k lt is = absurd (omega (arith, lt))
in_from (y ∷ ys) x zero lt is = inl (sym is)
in_from (y ∷ ys) x (suc k) lt is = inr (in_from ys x k (omega (arith, lt)) is)

pub contained : {A : Type 0} (ys : List A) (x : A) → Contains ys x → IsIn x ys
contained ys x there = in_from ys x there.0 there.1 there.2

-- ---- strict order

abbrev pub IsAscending : {A : Type 0} → (A → List ℕ) → List A → Type 0
IsAscending f [] = Unit {0}
IsAscending f (x ∷ xs) = AllByRecursion (λ y. byte_order (f x) (f y) ≡ Less) xs × IsAscending f xs

not_itself : (x : List ℕ) → byte_order x x ≡ Less → ⊥
not_itself x e = let both : Less ≡ Equal = sym e ∙ tied_itself nat_list_cmp_total x in absurd cc

module _ {A : Type 0} (f : A → List ℕ) where
  same_head : (x y : A) (xs ys : List A) → AllByRecursion (λ z. byte_order (f x) (f z) ≡ Less) xs → AllByRecursion (λ z. byte_order (f y) (f z) ≡ Less) ys → IsIn x (y ∷ ys) → IsIn y (x ∷ xs) → x ≡ y
  same_head x y xs ys above behind (inl e) other = e
  same_head x y xs ys above behind (inr there) (inl e) = sym e
  same_head x y xs ys above behind (inr there) (inr here) =
      absurd (not_itself (f x) (nat_list_cmp_total.trans (f x) (f y) (f x) (in_at (λ z. byte_order (f x) (f z) ≡ Less) y xs above here) (in_at (λ z. byte_order (f y) (f z) ≡ Less) x ys behind there)))

  behind_head : (x y : A) (ys : List A) → x ≡ y → (z : A) → byte_order (f x) (f z) ≡ Less → IsIn z (y ∷ ys) → IsIn z ys
  behind_head x y ys same z less (inl e) = absurd (not_itself (f x) (subst (λ (w : A). byte_order (f x) (f w) ≡ Less) (e ∙ sym same) less))
  behind_head x y ys same z less (inr rest) = rest

  pub same_lists : (xs ys : List A) → IsAscending f xs → IsAscending f ys → AllByRecursion (λ x. IsIn x ys) xs → AllByRecursion (λ y. IsIn y xs) ys → xs ≡ ys
  same_lists [] [] a b all others = refl
  same_lists [] (y ∷ ys) a b all others = absurd others.0
  same_lists (x ∷ xs) [] a b all others = absurd all.0
  same_lists (x ∷ xs) (y ∷ ys) a b all others =
      let same = same_head x y xs ys a.0 b.0 all.0 others.0 in
      let rest = same_lists xs ys a.1 b.1
      (all_both (λ z. byte_order (f x) (f z) ≡ Less) (λ z. IsIn z (y ∷ ys)) (λ z. IsIn z ys) xs (behind_head x y ys same) a.0 all.1)
      (all_both (λ z. byte_order (f y) (f z) ≡ Less) (λ z. IsIn z (x ∷ xs)) (λ z. IsIn z xs) ys (behind_head y x xs (sym same)) b.0 others.1) in
      λ i. same i ∷ rest i

-- ---- places

by_test : (a b : Bool) → is_lt (cond a Less (cond b Equal Greater)) ≡ a
by_test true b = refl
by_test false true = refl
by_test false false = refl

number_below : (x y : ℕ) → is_lt (nat_cmp x y) ≡ true → x < y
number_below x y e = ltb-true x y (sym (by_test (ltb x y) (eqb x y)) ∙ e)

pub all_member : (P : List ℕ → Type 0) (xs : List (List ℕ)) (i : ℕ) → AllByRecursion P xs → i < length xs → P (member_at xs i)
all_member P [] i all lt = absurd (omega (arith, lt))
all_member P (x ∷ xs) zero all lt = all.0
all_member P (x ∷ xs) (suc i) all lt = all_member P xs i all.1 (omega (arith, lt))

sorted_less : (xs : List (List ℕ)) (i j : ℕ) → IsStrictlySortedBy byte_order xs → i < j → j < length xs → byte_order (member_at xs i) (member_at xs j) ≡ Less
unfolding IsStrictlySortedBy
sorted_less [] i j s lt small = absurd (omega (arith, small))
sorted_less (x ∷ xs) i zero s lt small = absurd (omega (arith, lt))
sorted_less (x ∷ xs) zero (suc j) s lt small = all_member (λ z. byte_order x z ≡ Less) xs j s.0 (omega (arith, small))
sorted_less (x ∷ xs) (suc i) (suc j) s lt small = sorted_less xs i j s.1 (omega (arith, lt)) (omega (arith, small))

-- A byte string is a member of a list behind a place.
record IsMemberBehind (list : List (List ℕ)) (p : ℕ) (x : List ℕ) : Type 0 where
  behind : p < place_in list x
  small : place_in list x < length list
  is : member_at list (place_in list x) ≡ x

members_less : (list : List (List ℕ)) (x y : List ℕ) → IsStrictlySortedBy byte_order list → member_at list (place_in list x) ≡ x → IsMemberBehind list (place_in list x) y → byte_order x y ≡ Less
members_less list x y sorted is m =
    let less = sorted_less list (place_in list x) (place_in list y) sorted m.behind m.small in
    subst (λ (z : List ℕ). byte_order x z ≡ Less) m.is (subst (λ (z : List ℕ). byte_order z (member_at list (place_in list y)) ≡ Less) is less)

-- ---- byte strings put in order

pub all_put : (P : List ℕ → Type 0) (k : List ℕ) (xs : List (List ℕ)) → P k → AllByRecursion P xs → AllByRecursion P (insert_key byte_order xs k)
all_put P k [] here all = (here, tt)
all_put P k (x ∷ xs) here all = by (byte_order k x) (all_put P k xs here all.1)
  where
    by : (o : Ordering) → AllByRecursion P (insert_key byte_order xs k) → AllByRecursion P (match_ordering o (k ∷ x ∷ xs) (x ∷ xs) (x ∷ insert_key byte_order xs k))
    by Less rest = (here, all)
    by Equal rest = all
    by Greater rest = (all.0, rest)

all_above : (k x : List ℕ) (xs : List (List ℕ)) → byte_order k x ≡ Less → AllByRecursion (λ z. byte_order x z ≡ Less) xs → AllByRecursion (λ z. byte_order k z ≡ Less) xs
all_above k x xs less all = all_map (λ z. byte_order x z ≡ Less) (λ z. byte_order k z ≡ Less) xs (λ z e. nat_list_cmp_total.trans k x z less e) all

sorted_by : (k x : List ℕ) (xs : List (List ℕ)) (o : Ordering) → byte_order k x ≡ o → IsStrictlySortedBy byte_order (x ∷ xs) → IsStrictlySortedBy byte_order (insert_key byte_order xs k) → IsStrictlySortedBy byte_order (match_ordering o (k ∷ x ∷ xs) (x ∷ xs) (x ∷ insert_key byte_order xs k))
unfolding IsStrictlySortedBy
sorted_by k x xs Less e s rest = ((e, all_above k x xs e s.0), s)
sorted_by k x xs Equal e s rest = s
sorted_by k x xs Greater e s rest = (all_put (λ z. byte_order x z ≡ Less) k xs (nat_list_cmp_total.antisymm x k ∙ ap ordering_reverse e) s.0, rest)

put_sorted : (k : List ℕ) (xs : List (List ℕ)) → IsStrictlySortedBy byte_order xs → IsStrictlySortedBy byte_order (insert_key byte_order xs k)
unfolding IsStrictlySortedBy
put_sorted k [] s = (tt, tt)
put_sorted k (x ∷ xs) s = sorted_by k x xs (byte_order k x) refl s (put_sorted k xs s.1)

pub all_sorted : (held xs : List (List ℕ)) → IsStrictlySortedBy byte_order held → IsStrictlySortedBy byte_order (with_more held xs)
all_sorted held [] s = s
all_sorted held (x ∷ xs) s = all_sorted (insert_key byte_order held x) xs (put_sorted x held s)

pub none_sorted : IsStrictlySortedBy byte_order []
unfolding IsStrictlySortedBy
none_sorted = tt

-- ---- names of a result

module _ (names : List Name) (sorted : IsStrictlySortedBy byte_order names) where
  abbrev NamesInOrder : Option ℕ → List Name → Type 0
  NamesInOrder before list = Chain (IsNameInOrder names) (λ b (n : Name). Some (place_in names n)) before list

  names_behind : (p : ℕ) (list : List Name) → NamesInOrder (Some p) list → AllByRecursion (IsMemberBehind names p) list
  names_behind p [] h = tt
  names_behind p (n ∷ ns) h =
      let test = both_true (ltb (place_in names n) (length names)) (is_lt (nat_cmp p (place_in names n))) h.0.0 in
      let here : p < place_in names n = number_below p (place_in names n) test.1 in (
        record { behind = here; small = ltb-true (place_in names n) (length names) test.0; is = h.0.1 },
        all_map (IsMemberBehind names (place_in names n)) (IsMemberBehind names p) ns (λ m b. record { behind = omega (arith, here, b.behind); small = b.small; is = b.is }) (names_behind (place_in names n) ns h.1),
      )

  pub names_ascend : (before : Option ℕ) (list : List Name) → NamesInOrder before list → IsAscending (λ (n : Name). n) list
  names_ascend before [] h = tt
  names_ascend before (n ∷ ns) h = (
    all_map (IsMemberBehind names (place_in names n)) (λ m. byte_order n m ≡ Less) ns (λ m b. members_less names n m sorted h.0.1 b) (names_behind (place_in names n) ns h.1),
    names_ascend (Some (place_in names n)) ns h.1,
  )

in_by : (q x : Name) (xs : List Name) (b : Bool) → is_at (byte_order q) x ≡ b → (has_key xs q ≡ true → IsIn q xs) → (b || has_key xs q) ≡ true → IsIn q (x ∷ xs)
in_by q x xs true at rest e = inl (same_name q x at)
in_by q x xs false at rest e = inr (rest e)

pub has_in : (xs : List Name) (q : Name) → has_key xs q ≡ true → IsIn q xs
has_in [] q e = absurd cc
has_in (x ∷ xs) q e = in_by q x xs (is_at (byte_order q) x) refl (has_in xs q) e

set_in : (xs ys : List Name) → name_set xs ≡ name_set ys → (q : Name) → has_key xs q ≡ true → IsIn q ys
set_in xs ys same q here =
    has_in ys q (sym (contains-from_list nat_list_cmp_total ys q) ∙ sym (λ i. set.contains (same i) q) ∙ contains-from_list nat_list_cmp_total xs q ∙ here)

-- ascending names of one set are the same
pub same_names : (xs ys : List Name) → IsAscending (λ (n : Name). n) xs → IsAscending (λ (n : Name). n) ys → name_set xs ≡ name_set ys → xs ≡ ys
same_names xs ys a b same =
    same_lists (λ (n : Name). n) xs ys a b
    (all_map (λ n. has_key xs n ≡ true) (λ n. IsIn n ys) xs (set_in xs ys same) (has_itself xs))
    (all_map (λ n. has_key ys n ≡ true) (λ n. IsIn n xs) ys (set_in ys xs (sym same)) (has_itself ys))

-- ---- results of an entry

abbrev first_in : List KeyRows → List ℕ
first_in [] = []
first_in (k ∷ ks) = k.key

-- the first key of a result
abbrev pub first_key : CachedResult → List ℕ
first_key r = first_in r.group

module _ (keys : List (List ℕ)) (sorted : IsStrictlySortedBy byte_order keys) where
  -- What is known of the first key of a group that stands behind a place, if there is one.
  record IsFirst (before : Option ℕ) (group : List KeyRows) : Type 0 where
    place_is : slice_get (map (λ (k : KeyRows). place_in keys k.key) group) 0 ≡ Some (place_in keys (first_in group))
    small : place_in keys (first_in group) < length keys
    is : member_at keys (place_in keys (first_in group)) ≡ first_in group
    behind : is_behind nat_cmp before (place_in keys (first_in group)) ≡ true

  first_known : (used : List ℕ) (before : Option ℕ) (group : List KeyRows) → 0 < length (map (λ (k : KeyRows). place_in keys k.key) group)
      → Chain (λ b place. is_key_place (length keys) used b place ≡ true) (λ b place. Some place) before (map (λ (k : KeyRows). place_in keys k.key) group) → AllByRecursion (IsKeyInOrder keys) group → IsFirst before group
  first_known used before [] some chain all = absurd (omega (arith, some))
  first_known used before (k ∷ ks) some chain all =
      let place = place_in keys k.key in
      let one = both_true (ltb place (length keys)) _ chain.0 in
      let two = both_true (is_behind nat_cmp before place) _ one.1 in
      record { place_is = refl; small = ltb-true place (length keys) one.0; is = all.0.0; behind = two.0 }

  module _ (names : List Name) where
    abbrev ResultsInOrder : Option ℕ → List ℕ → List CachedResult → Type 0
    ResultsInOrder before used rs = Chain (IsResultInOrder keys names) (result_step keys) (before, used) rs

    first_of_result : (before : Option ℕ) (used : List ℕ) (r : CachedResult) → IsResultInOrder keys names (before, used) r → IsFirst before r.group
    first_of_result before used r o = first_known used before r.group o.0.0 o.0.1 (recursion_from_All (IsKeyInOrder keys) r.group o.2)

    next : (before : Option ℕ) (used : List ℕ) (r : CachedResult) (rs : List CachedResult) → IsFirst before r.group → Chain (IsResultInOrder keys names) (result_step keys) (result_step keys (before, used) r) rs
        → ResultsInOrder (Some (place_in keys (first_key r))) (with_places used (places_of keys r)) rs
    next before used r rs first rest = subst (λ (o : Option ℕ). ResultsInOrder o (with_places used (places_of keys r)) rs) first.place_is rest

    results_behind : (p : ℕ) (used : List ℕ) (rs : List CachedResult) → ResultsInOrder (Some p) used rs → AllByRecursion (λ (r : CachedResult). IsMemberBehind keys p (first_key r)) rs
    results_behind p used [] h = tt
    results_behind p used (r ∷ rs) h =
        let first = first_of_result (Some p) used r h.0 in
        let here : p < place_in keys (first_key r) = number_below p (place_in keys (first_key r)) first.behind in (
          record { behind = here; small = first.small; is = first.is },
          all_map (λ (s : CachedResult). IsMemberBehind keys (place_in keys (first_key r)) (first_key s)) (λ (s : CachedResult). IsMemberBehind keys p (first_key s)) rs (λ s b. record { behind = omega (arith, here, b.behind); small = b.small; is = b.is })
              (results_behind (place_in keys (first_key r)) (with_places used (places_of keys r)) rs (next (Some p) used r rs first h.1)),
        )

    pub results_ascend : (before : Option ℕ) (used : List ℕ) (rs : List CachedResult) → ResultsInOrder before used rs → IsAscending first_key rs
    results_ascend before used [] h = tt
    results_ascend before used (r ∷ rs) h =
        let first = first_of_result before used r h.0 in
        let rest = next before used r rs first h.1 in (
          all_map (λ (s : CachedResult). IsMemberBehind keys (place_in keys (first_key r)) (first_key s)) (λ (s : CachedResult). byte_order (first_key r) (first_key s) ≡ Less) rs (λ s b. members_less keys (first_key r) (first_key s) sorted first.is b)
              (results_behind (place_in keys (first_key r)) (with_places used (places_of keys r)) rs rest),
          results_ascend (Some (place_in keys (first_key r))) (with_places used (places_of keys r)) rs rest,
        )

    pub names_of_results : (sorted_names : IsStrictlySortedBy byte_order names) (before : Option ℕ) (used : List ℕ) (rs : List CachedResult) → ResultsInOrder before used rs → AllByRecursion (λ (r : CachedResult). IsAscending (λ (n : Name). n) r.names) rs
    names_of_results sorted_names before used [] h = tt
    names_of_results sorted_names before used (r ∷ rs) h = (
      names_ascend names sorted_names None r.names h.0.1,
      names_of_results sorted_names (first_of (places_of keys r)) (with_places used (places_of keys r)) rs h.1,
    )
