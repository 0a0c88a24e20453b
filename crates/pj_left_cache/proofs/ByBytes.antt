-- Results that stay, and results that are made, stand by bytes together.
use Rattle.std.proofs.Common.{◌≡◌, ◌<◌, Bool, true, false, cond, ◌||◌, List, [], ◌∷◌, ◌++◌, length, map, refl, sym, ap, ◌∙◌, arith}
use Rattle.std.specs.List.{All, AllByRecursion, AllZip, IsDistinct, filter, list_any}
use Rattle.std.specs.List.Sorted.{IsPermutation, IsStrictlySortedBy}
use Rattle.std.specs.BTreeMap.{is_at}
use Rattle.std.proofs.lemmas.List.Elements.{All-from_recursion, recursion_from_All}
use Rattle.std.proofs.lemmas.List.Sorted.{All-permutation}
use Rattle.std.proofs.lemmas.Map.Keys.{IsDistinct-IsPermutation}
use Rattle.std.specs.declared.cmp.Ordering.TheVariants.{Less}
use Rattle.pj_cache.specs.Places.{byte_order, member_at}
use Rattle.pj_cache.specs.declared.cache.CachedResult.{CachedResult}
use Rattle.pj_reuse.specs.Serving.{has_key, keys_of}
use Rattle.pj_reuse.proofs.Standing.{meets}
use Rattle.pj_fitting.specs.Right.{Key}
use Rattle.pj_fitting.specs.Left.{has_result}
use Rattle.pj_fitting.proofs.Lists.{all_filter, all_map}
use Rattle.pj_fitting.proofs.Named.{itself}
use Rattle.pj_left_cache.specs.Bytes.{AreByBytes, IsByBytes, first_key, shares_key}
use Rattle.pj_left_cache.specs.Missing.{is_same_key}
use Rattle.pj_left_cache.proofs.LeftLaws.{all_append}
use Rattle.pj_left_cache.proofs.ToOrder.{none_passes}
use Rattle.pj_left_cache.proofs.OrderLaws.{same_key_flips}

-- ---- results that stay

module _ (test : CachedResult → Bool) where
  below_by : (P : Key → Type 0) (r : CachedResult) (rs : List CachedResult) (b : Bool) → P (first_key r) → AllByRecursion P (map first_key rs) → AllByRecursion P (map first_key (cond b (r ∷ rs) rs))
  below_by P r rs true here rest = (here, rest)
  below_by P r rs false here rest = rest

  stay_below : (P : Key → Type 0) (rs : List CachedResult) → AllByRecursion P (map first_key rs) → AllByRecursion P (map first_key (filter test rs))
  stay_below P [] all = tt
  stay_below P (r ∷ rs) all = below_by P r (filter test rs) (test r) all.0 (stay_below P rs all.1)

  sorted_by : (r : CachedResult) (rs : List CachedResult) (b : Bool) → AllByRecursion (λ y. byte_order (first_key r) y ≡ Less) (map first_key rs) → IsStrictlySortedBy byte_order (map first_key rs) → IsStrictlySortedBy byte_order (map first_key (cond b (r ∷ rs) rs))
  unfolding IsStrictlySortedBy
  sorted_by r rs true above s = (above, s)
  sorted_by r rs false above s = s

  stay_sorted : (rs : List CachedResult) → IsStrictlySortedBy byte_order (map first_key rs) → IsStrictlySortedBy byte_order (map first_key (filter test rs))
  unfolding IsStrictlySortedBy
  stay_sorted [] s = tt
  stay_sorted (r ∷ rs) s = sorted_by r (filter test rs) (test r) (stay_below (λ y. byte_order (first_key r) y ≡ Less) rs s.0) (stay_sorted rs s.1)

  once_by : (r : CachedResult) (rs : List CachedResult) (b : Bool) → AllByRecursion (λ s. shares_key r s ≡ false) rs → IsDistinct shares_key rs → IsDistinct shares_key (cond b (r ∷ rs) rs)
  unfolding IsDistinct
  once_by r rs true away once = (away, once)
  once_by r rs false away once = once

  stay_once : (rs : List CachedResult) → IsDistinct shares_key rs → IsDistinct shares_key (filter test rs)
  unfolding IsDistinct
  stay_once [] once = tt
  stay_once (r ∷ rs) once = once_by r (filter test rs) (test r) (all_filter test (λ s. shares_key r s ≡ false) (λ s. shares_key r s ≡ false) (λ s e passed. e) rs once.0) (stay_once rs once.1)

  pub those_that_stay : (rs : List CachedResult) → AreByBytes rs → AreByBytes (filter test rs)
  those_that_stay rs by = record {
    each = All-from_recursion IsByBytes (filter test rs) (all_filter test IsByBytes IsByBytes (λ r b passed. b) rs (recursion_from_All IsByBytes rs by.each));
    first = stay_sorted rs by.first;
    once = stay_once rs by.once;
  }

-- ---- keys that are shared

share_by : (xs ys : List Key) (b c : Bool) → list_any (has_key ys) xs ≡ b → list_any (has_key xs) ys ≡ c → (b ≡ true → c ≡ true) → (c ≡ true → b ≡ true) → b ≡ c
share_by xs ys true c e f there back = sym (there refl)
share_by xs ys false true e f there back = back refl
share_by xs ys false false e f there back = refl

more_by : (a t b c : Bool) → (t || b) ≡ true → (b ≡ true → c ≡ true) → ((a || t) || c) ≡ true
more_by true t b c e rest = refl
more_by false true b c e rest = refl
more_by false false b c e rest = rest e

-- a key more in a list is no less
shares_more : (x : Key) (xs zs : List Key) → list_any (has_key xs) zs ≡ true → list_any (has_key (x ∷ xs)) zs ≡ true
shares_more x xs [] e = absurd cc
shares_more x xs (z ∷ zs) e = more_by (is_at (byte_order z) x) (has_key xs z) (list_any (has_key xs) zs) (list_any (has_key (x ∷ xs)) zs) e (shares_more x xs zs)

back_by : (x : Key) (xs ys : List Key) (b : Bool) → has_key ys x ≡ b → (b || list_any (has_key ys) xs) ≡ true → (list_any (has_key ys) xs ≡ true → list_any (has_key xs) ys ≡ true) → list_any (has_key (x ∷ xs)) ys ≡ true
back_by x xs ys true here e rest = meets (x ∷ xs) ys x here (ap (λ (b : Bool). b || has_key xs x) (itself x))
back_by x xs ys false here e rest = shares_more x xs ys (rest e)

-- some key of the first is in the second, where some key of the second is in the first
shares_back : (xs ys : List Key) → list_any (has_key ys) xs ≡ true → list_any (has_key xs) ys ≡ true
shares_back [] ys e = absurd cc
shares_back (x ∷ xs) ys e = back_by x xs ys (has_key ys x) refl e (shares_back xs ys)

shares_flips : (a b : CachedResult) → shares_key a b ≡ shares_key b a
shares_flips a b = share_by (keys_of a) (keys_of b) (shares_key a b) (shares_key b a) refl refl (shares_back (keys_of a) (keys_of b)) (shares_back (keys_of b) (keys_of a))

-- ---- first keys

first_in_own : (xs ys : List Key) → 0 < length xs → 0 < length ys → list_any (has_key ys) xs ≡ false → is_same_key (member_at xs 0) (member_at ys 0) ≡ false
first_in_own [] ys some more e = absurd (omega (arith, some))
first_in_own (x ∷ xs) [] some more e = absurd (omega (arith, more))
first_in_own (x ∷ xs) (y ∷ ys) some more e =
    let one : has_key (y ∷ ys) x ≡ false = (none_passes (has_key (y ∷ ys)) (x ∷ xs) e).0 in
    same_key_flips x y ∙ (none_passes (is_at (byte_order x)) (y ∷ ys) one).0

firsts_away : (r : CachedResult) (rs : List CachedResult) → IsByBytes r → AllByRecursion IsByBytes rs → AllByRecursion (λ s. shares_key r s ≡ false) rs → AllByRecursion (λ y. is_same_key (first_key r) y ≡ false) (map first_key rs)
firsts_away r [] by all away = tt
firsts_away r (s ∷ ss) by all away = (first_in_own (keys_of r) (keys_of s) by.some all.0.some away.0, firsts_away r ss by all.1 away.1)

pub firsts_once : (rs : List CachedResult) → AllByRecursion IsByBytes rs → IsDistinct shares_key rs → IsDistinct is_same_key (map first_key rs)
unfolding IsDistinct
firsts_once [] all once = tt
firsts_once (r ∷ rs) all once = (firsts_away r rs all.0 all.1 once.0, firsts_once rs all.1 once.1)

-- ---- results that are made

distinct_append : (xs ys : List CachedResult) → IsDistinct shares_key xs → IsDistinct shares_key ys → AllByRecursion (λ y. AllByRecursion (λ x. shares_key x y ≡ false) xs) ys → IsDistinct shares_key (xs ++ ys)
unfolding IsDistinct
distinct_append [] ys one two cross = two
distinct_append (x ∷ xs) ys one two cross = (
  all_append (λ y. shares_key x y ≡ false) xs ys one.0 (all_map (λ y. AllByRecursion (λ z. shares_key z y ≡ false) (x ∷ xs)) (λ y. shares_key x y ≡ false) ys (λ y all. all.0) cross),
  distinct_append xs ys one.1 two (all_map (λ y. AllByRecursion (λ z. shares_key z y ≡ false) (x ∷ xs)) (λ y. AllByRecursion (λ z. shares_key z y ≡ false) xs) ys (λ y all. all.1) cross),
)

one_shared : (xs : List Key) (key : Key) → has_key xs key ≡ false → list_any (has_key (key ∷ [])) xs ≡ false
one_shared [] key e = refl
one_shared (x ∷ xs) key e =
    let both = first_false (is_at (byte_order key) x) (has_key xs key) e in
    ap (λ (b : Bool). (b || false) || list_any (has_key (key ∷ [])) xs) (same_key_flips key x ∙ both.0) ∙ one_shared xs key both.1
  where
    first_false : (a b : Bool) → (a || b) ≡ false → (a ≡ false) × (b ≡ false)
    first_false true b f = absurd cc
    first_false false b f = (refl, f)

module _ (stay : List CachedResult) where
  away_from : (key : Key) (r : CachedResult) → keys_of r ≡ key ∷ [] → (ss : List CachedResult) → has_result ss key ≡ false → AllByRecursion (λ s. shares_key s r ≡ false) ss
  away_from key r own ss e =
      all_map (λ s. has_key (keys_of s) key ≡ false) (λ s. shares_key s r ≡ false) ss
      (λ s none. ap (λ (l : List Key). list_any (has_key l) (keys_of s)) own ∙ one_shared (keys_of s) key none)
      (none_passes (λ s. has_key (keys_of s) key) ss e)

  each_away : (keys : List Key) (made : List CachedResult) → AllZip (λ key r. keys_of r ≡ key ∷ []) keys made → AllByRecursion (λ key. has_result stay key ≡ false) keys → AllByRecursion (λ r. AllByRecursion (λ s. shares_key s r ≡ false) stay) made
  each_away [] [] zip all = tt
  each_away [] (r ∷ rs) zip all = absurd zip
  each_away (k ∷ ks) [] zip all = absurd zip
  each_away (k ∷ ks) (r ∷ rs) zip all = (away_from k r zip.0 stay all.0, each_away ks rs zip.1 all.1)

own_away : (key : Key) (r : CachedResult) → keys_of r ≡ key ∷ [] → (ks : List Key) (rs : List CachedResult) → AllZip (λ k s. keys_of s ≡ k ∷ []) ks rs → AllByRecursion (λ k. is_same_key key k ≡ false) ks → AllByRecursion (λ s. shares_key r s ≡ false) rs
own_away key r own [] [] zip all = tt
own_away key r own [] (s ∷ ss) zip all = absurd zip
own_away key r own (k ∷ ks) [] zip all = absurd zip
own_away key r own (k ∷ ks) (s ∷ ss) zip all = (
  ap (λ (l : List Key). list_any (has_key l) (keys_of r)) zip.0
      ∙ ap (λ (l : List Key). list_any (has_key (k ∷ [])) l) own
      ∙ ap (λ (b : Bool). (b || false) || false) (same_key_flips k key ∙ all.0),
  own_away key r own ks ss zip.1 all.1,
)

own_once : (keys : List Key) (made : List CachedResult) → AllZip (λ key r. keys_of r ≡ key ∷ []) keys made → IsDistinct is_same_key keys → IsDistinct shares_key made
unfolding IsDistinct
own_once [] [] zip once = tt
own_once [] (r ∷ rs) zip once = absurd zip
own_once (k ∷ ks) [] zip once = absurd zip
own_once (k ∷ ks) (r ∷ rs) zip once = (own_away k r zip.0 ks rs zip.1 once.0, own_once ks rs zip.1 once.1)

-- all together, in the order of their first keys
pub together : (stay made results : List CachedResult) (keys : List Key) → AreByBytes stay → All IsByBytes made → AllZip (λ key r. keys_of r ≡ key ∷ []) keys made → IsDistinct is_same_key keys → All (λ key. has_result stay key ≡ false) keys
    → IsPermutation (stay ++ made) results → (IsDistinct is_same_key (map first_key (stay ++ made)) → IsStrictlySortedBy byte_order (map first_key results)) → AreByBytes results
together stay made results keys by each zip once new moved sorted =
    let both : AllByRecursion IsByBytes (stay ++ made) = all_append IsByBytes stay made (recursion_from_All IsByBytes stay by.each) (recursion_from_All IsByBytes made each) in
    let apart : IsDistinct shares_key (stay ++ made) =
    distinct_append stay made by.once (own_once keys made zip once) (each_away stay keys made zip (recursion_from_All (λ key. has_result stay key ≡ false) keys new)) in
    record {
      each = All-permutation IsByBytes (stay ++ made) results moved (All-from_recursion IsByBytes (stay ++ made) both);
      first = sorted (firsts_once (stay ++ made) both apart);
      once = IsDistinct-IsPermutation shares_key shares_flips (stay ++ made) results moved apart;
    }
