-- The results of a cache that is in order stand by bytes.
use Rattle.std.proofs.Common.{◌≡◌, ℕ, ◌<◌, Bool, true, false, not, ◌&&◌, ◌||◌, List, [], ◌∷◌, length, map, Option, Some, None, refl, sym, ap, subst, ◌∙◌, arith}
use Rattle.std.specs.List.{AllByRecursion, IsDistinct, flat_map, list_any}
use Rattle.std.specs.List.Sorted.{IsStrictlySortedBy}
use Rattle.std.specs.BTreeMap.{is_at}
use Rattle.std.specs.BTreeSet.{insert_key}
use Rattle.std.specs.declared.cmp.Ordering.{Ordering}
use Rattle.std.specs.declared.cmp.Ordering.TheVariants.{Less, Equal, Greater}
use Rattle.std.specs.Ordering.{is_eq, match_ordering, nat_cmp}
use Rattle.std.specs.Cmp.{nat_cmp_total, tied_itself}
use Rattle.std.specs.Str.{is_utf8}
use Rattle.std.proofs.lemmas.Bool.{ltb-true}
use Rattle.std.proofs.lemmas.List.{length-map}
use Rattle.std.proofs.lemmas.List.Elements.{All-from_recursion, recursion_from_All}
use Rattle.pj_format.specs.Fields.{Chain}
use Rattle.pj_names.specs.declared.answer.Answer.{Answer}
use Rattle.pj_names.specs.ClassName.{Name, is_class_name}
use Rattle.pj_reports.specs.declared.ruled.Head.{Head}
use Rattle.pj_reports.specs.declared.ruled.Head.TheVariants as heads
use Rattle.pj_cache.specs.Places.{byte_order, place_in}
use Rattle.pj_cache.specs.declared.cache.KeyRows.{KeyRows}
use Rattle.pj_cache.specs.declared.cache.CachedResult.{CachedResult}
use Rattle.pj_cache.specs.declared.cache.Entry.{Entry}
use Rattle.pj_cache.specs.declared.cache.Cache.{Cache}
use Rattle.pj_cache_format.specs.Judges.{is_behind}
use Rattle.pj_cache_format.specs.FormatTwo.{first_of, has, is_key_place, with_places, keys_of as keys_of_entries}
use Rattle.pj_cache_format.specs.Ordered.{AreRowsInOrder, AreResultsInOrder, IsAnswerInOrder, IsEntryInOrder, IsInOrder, IsKeyInOrder, IsNameInOrder, IsResultInOrder, places_of, result_step}
use Rattle.pj_reuse.specs.Serving.{has_key, keys_of}
use Rattle.pj_fitting.specs.Right.{Key}
use Rattle.pj_fitting.proofs.Among.{both_true}
use Rattle.pj_fitting.proofs.Lists.{all_map}
use Rattle.pj_fitting.proofs.Sets.{or_true, same_name}
use Rattle.pj_fitting.proofs.Sorted.{IsAscending, all_member, all_sorted, names_ascend, none_sorted, results_ascend, first_key as first_key_of}
use Rattle.pj_left_cache.specs.Bytes.{AreByBytesAt, IsByBytes, first_key, shares_key}
use Rattle.pj_left_cache.proofs.ToOrder.{both_and}

-- ---- strict order

all_over : {A : Type 0} (f : A → Key) (P : Key → Type 0) (xs : List A) → AllByRecursion (λ (x : A). P (f x)) xs → AllByRecursion P (map f xs)
all_over f P [] all = tt
all_over f P (x ∷ xs) all = (all.0, all_over f P xs all.1)

strict_from : {A : Type 0} (f : A → Key) (xs : List A) → IsAscending f xs → IsStrictlySortedBy byte_order (map f xs)
unfolding IsStrictlySortedBy
strict_from f [] up = tt
strict_from f (x ∷ xs) up = (all_over f (λ y. byte_order (f x) y ≡ Less) xs up.0, strict_from f xs up.1)

strict_names : (xs : List Name) → IsAscending (λ (n : Name). n) xs → IsStrictlySortedBy byte_order xs
unfolding IsStrictlySortedBy
strict_names [] up = tt
strict_names (x ∷ xs) up = (up.0, strict_names xs up.1)

-- the first key in both forms
first_same : (group : List KeyRows) (names : List Name) → first_key_of (record { group = group; names = names }) ≡ first_key (record { group = group; names = names })
first_same [] names = refl
first_same (k ∷ ks) names = refl

-- ---- places that are used

place_itself : (p : ℕ) → is_at (nat_cmp p) p ≡ true
place_itself p = ap is_eq (tied_itself nat_cmp_total p)

used_by : (k x p : ℕ) (xs more : List ℕ) (o : Ordering) → (is_at (nat_cmp p) x || has xs p) ≡ true → (has xs p ≡ true → has more p ≡ true) → has (match_ordering o (k ∷ x ∷ xs) (x ∷ xs) (x ∷ more)) p ≡ true
used_by k x p xs more Less e rest = ap (λ (b : Bool). is_at (nat_cmp p) k || b) e ∙ or_true (is_at (nat_cmp p) k)
used_by k x p xs more Equal e rest = e
used_by k x p xs more Greater e rest = by (is_at (nat_cmp p) x) e
  where
    by : (t : Bool) → (t || has xs p) ≡ true → (t || has more p) ≡ true
    by true f = refl
    by false f = rest f

-- what is used stays used
used_put : (k p : ℕ) (used : List ℕ) → has used p ≡ true → has (insert_key nat_cmp used k) p ≡ true
used_put k p [] e = absurd cc
used_put k p (x ∷ xs) e = used_by k x p xs (insert_key nat_cmp xs k) (nat_cmp k x) e (used_put k p xs)

put_by : (k x : ℕ) (xs more : List ℕ) (o : Ordering) → nat_cmp k x ≡ o → has more k ≡ true → has (match_ordering o (k ∷ x ∷ xs) (x ∷ xs) (x ∷ more)) k ≡ true
put_by k x xs more Less e rest = ap (λ (b : Bool). b || has (x ∷ xs) k) (place_itself k)
put_by k x xs more Equal e rest = ap (λ (o : Ordering). is_eq o || has xs k) e
put_by k x xs more Greater e rest = ap (λ (b : Bool). is_at (nat_cmp k) x || b) rest ∙ or_true (is_at (nat_cmp k) x)

-- and what is put is used
put_used : (k : ℕ) (used : List ℕ) → has (insert_key nat_cmp used k) k ≡ true
put_used k [] = ap (λ (b : Bool). b || false) (place_itself k)
put_used k (x ∷ xs) = put_by k x xs (insert_key nat_cmp xs k) (nat_cmp k x) refl (put_used k xs)

used_stays : (used ps : List ℕ) (p : ℕ) → has used p ≡ true → has (with_places used ps) p ≡ true
used_stays used [] p e = e
used_stays used (q ∷ qs) p e = used_stays (insert_key nat_cmp used q) qs p (used_put q p used e)

free_by : (used ps : List ℕ) (p : ℕ) (b : Bool) → has used p ≡ b → has (with_places used ps) p ≡ false → b ≡ false
free_by used ps p false e free = refl
free_by used ps p true e free = let never : true ≡ false = sym (used_stays used ps p e) ∙ free in absurd cc

free_before : (used ps : List ℕ) (p : ℕ) → has (with_places used ps) p ≡ false → has used p ≡ false
free_before used ps p free = free_by used ps p (has used p) refl free

not_true : (b : Bool) → not b ≡ true → b ≡ false
not_true true e = absurd cc
not_true false e = refl

-- ---- a result

abbrev IsClass : Name → Type 0
IsClass n = (is_utf8 n && is_class_name n) ≡ true

module _ (keys : List Key) (sorted : IsStrictlySortedBy byte_order keys) (names : List Name) (ascending : IsStrictlySortedBy byte_order names) (classes : AllByRecursion IsClass names) where
  abbrev place_of : KeyRows → ℕ
  place_of k = place_in keys k.key

  abbrev key_of : KeyRows → Key
  key_of k = k.key

  abbrev KeyChain : List ℕ → Option ℕ → List ℕ → Type 0
  KeyChain used before places = Chain (λ b place. is_key_place (length keys) used b place ≡ true) (λ b place. Some place) before places

  key_names : (used : List ℕ) (before : Option ℕ) (group : List KeyRows) → KeyChain used before (map place_of group) → AllByRecursion (IsKeyInOrder keys) group → Chain (IsNameInOrder keys) (λ b (n : Name). Some (place_in keys n)) before (map key_of group)
  key_names used before [] chain all = tt
  key_names used before (k ∷ ks) chain all =
      let one = both_true _ _ chain.0 in
      let two = both_true (is_behind nat_cmp before (place_of k)) _ one.1 in
      ((both_and _ (is_behind nat_cmp before (place_of k)) one.0 two.0, all.0.0), key_names used (Some (place_of k)) ks chain.1 all.1)

  key_frees : (used : List ℕ) (before : Option ℕ) (group : List KeyRows) → KeyChain used before (map place_of group) → AllByRecursion (λ (x : Key). has used (place_in keys x) ≡ false) (map key_of group)
  key_frees used before [] chain = tt
  key_frees used before (k ∷ ks) chain =
      let one = both_true _ _ chain.0 in
      let two = both_true (is_behind nat_cmp before (place_of k)) _ one.1 in
      (not_true (has used (place_of k)) two.1, key_frees used (Some (place_of k)) ks chain.1)

  names_classes : (before : Option ℕ) (list : List Name) → Chain (IsNameInOrder names) (λ b (n : Name). Some (place_in names n)) before list → AllByRecursion IsClass list
  names_classes before [] h = tt
  names_classes before (n ∷ ns) h =
      let small : place_in names n < length names = ltb-true (place_in names n) (length names) (both_true _ _ h.0.0).0 in
      (subst IsClass h.0.1 (all_member IsClass names (place_in names n) classes small), names_classes (Some (place_in names n)) ns h.1)

  abbrev ResultChain : Option ℕ → List ℕ → List CachedResult → Type 0
  ResultChain before used rs = Chain (IsResultInOrder keys names) (result_step keys) (before, used) rs

  result_by_bytes : (before : Option ℕ) (used : List ℕ) (r : CachedResult) → IsResultInOrder keys names (before, used) r → IsByBytes r
  result_by_bytes before used r o =
      let group : AllByRecursion (IsKeyInOrder keys) r.group = recursion_from_All (IsKeyInOrder keys) r.group o.2 in
      record {
        some = omega (arith, o.0.0, length-map r.group place_of, length-map r.group key_of);
        keys = strict_names (keys_of r) (names_ascend keys sorted before (keys_of r) (key_names used before r.group o.0.1 group));
        names = strict_names r.names (names_ascend names ascending None r.names o.1);
        classes = All-from_recursion IsClass r.names (names_classes None r.names o.1);
        rows = All-from_recursion (λ (k : KeyRows). AreRowsInOrder k.rows) r.group (all_map (IsKeyInOrder keys) (λ (k : KeyRows). AreRowsInOrder k.rows) r.group (λ k both. both.1) group);
      }

  each_by_bytes : (before : Option ℕ) (used : List ℕ) (rs : List CachedResult) → ResultChain before used rs → AllByRecursion IsByBytes rs
  each_by_bytes before used [] h = tt
  each_by_bytes before used (r ∷ rs) h = (result_by_bytes before used r h.0, each_by_bytes (first_of (places_of keys r)) (with_places used (places_of keys r)) rs h.1)

  -- ---- no key twice

  abbrev IsFree : List ℕ → Key → Type 0
  IsFree used x = has used (place_in keys x) ≡ false

  later_free : (before : Option ℕ) (used : List ℕ) (rs : List CachedResult) → ResultChain before used rs → AllByRecursion (λ (r : CachedResult). AllByRecursion (IsFree used) (keys_of r)) rs
  later_free before used [] h = tt
  later_free before used (r ∷ rs) h = (
    key_frees used before r.group h.0.0.1,
    all_map (λ (s : CachedResult). AllByRecursion (IsFree (with_places used (places_of keys r))) (keys_of s)) (λ (s : CachedResult). AllByRecursion (IsFree used) (keys_of s)) rs
        (λ s all. all_map (IsFree (with_places used (places_of keys r))) (IsFree used) (keys_of s) (λ x free. free_before used (places_of keys r) (place_in keys x) free) all)
        (later_free (first_of (places_of keys r)) (with_places used (places_of keys r)) rs h.1),
  )

  used_each : (used : List ℕ) (group : List KeyRows) → AllByRecursion (λ (x : Key). has (with_places used (map place_of group)) (place_in keys x) ≡ true) (map key_of group)
  used_each used [] = tt
  used_each used (k ∷ ks) = (used_stays (insert_key nat_cmp used (place_of k)) (map place_of ks) (place_of k) (put_used (place_of k) used), used_each (insert_key nat_cmp used (place_of k)) ks)

  away_by : (used : List ℕ) (x y : Key) (t : Bool) → is_at (byte_order x) y ≡ t → has used (place_in keys x) ≡ true → IsFree used y → t ≡ false
  away_by used x y false e here free = refl
  away_by used x y true e here free =
      let never : true ≡ false = sym here ∙ ap (λ (z : Key). has used (place_in keys z)) (same_name x y e) ∙ free in
      absurd cc

  none_of : (used : List ℕ) (x : Key) (ys : List Key) → has used (place_in keys x) ≡ true → AllByRecursion (IsFree used) ys → has_key ys x ≡ false
  none_of used x [] here free = refl
  none_of used x (y ∷ ys) here free = ap (λ (b : Bool). b || has_key ys x) (away_by used x y (is_at (byte_order x) y) refl here free.0) ∙ none_of used x ys here free.1

  none_shared : (used : List ℕ) (xs ys : List Key) → AllByRecursion (λ (x : Key). has used (place_in keys x) ≡ true) xs → AllByRecursion (IsFree used) ys → list_any (has_key ys) xs ≡ false
  none_shared used [] ys all free = refl
  none_shared used (x ∷ xs) ys all free = ap (λ (b : Bool). b || list_any (has_key ys) xs) (none_of used x ys all.0 free) ∙ none_shared used xs ys all.1 free

  all_once : (before : Option ℕ) (used : List ℕ) (rs : List CachedResult) → ResultChain before used rs → IsDistinct shares_key rs
  unfolding IsDistinct
  all_once before used [] h = tt
  all_once before used (r ∷ rs) h = (
    all_map (λ (s : CachedResult). AllByRecursion (IsFree (with_places used (places_of keys r))) (keys_of s)) (λ (s : CachedResult). shares_key r s ≡ false) rs
        (λ s free. none_shared (with_places used (places_of keys r)) (keys_of r) (keys_of s) (used_each used r.group) free)
        (later_free (first_of (places_of keys r)) (with_places used (places_of keys r)) rs h.1),
    all_once (first_of (places_of keys r)) (with_places used (places_of keys r)) rs h.1,
  )

  first_keys : (rs : List CachedResult) → map first_key_of rs ≡ map first_key rs
  first_keys [] = refl
  first_keys (r ∷ rs) = λ i. first_same r.group r.names i ∷ first_keys rs i

  results_by_bytes : (h : Head) (rs : List CachedResult) → AreResultsInOrder keys names h rs → AreByBytesAt h rs
  results_by_bytes (heads.Message message) rs o = o
  results_by_bytes (heads.Package name) rs o =
      record {
        each = All-from_recursion IsByBytes rs (each_by_bytes None [] rs o);
        first = subst (λ (l : List Key). IsStrictlySortedBy byte_order l) (first_keys rs) (strict_from first_key_of rs (results_ascend keys sorted names None [] rs o));
        once = all_once None [] rs o;
      }

  entries_by_bytes : (before : Option (List ℕ)) (es : List Entry) → Chain (IsEntryInOrder keys names) (λ b (e : Entry). Some e.path) before es → AllByRecursion (λ (e : Entry). AreByBytesAt e.head e.results) es
  entries_by_bytes before [] h = tt
  entries_by_bytes before (e ∷ es) h = (results_by_bytes e.head e.results h.0.1, entries_by_bytes (Some e.path) es h.1)

-- ---- the cache

front_two : (a b c : Bool) → (a && (b && c)) ≡ true → (a && b) ≡ true
front_two true true c e = refl
front_two true false c e = absurd cc
front_two false b c e = absurd cc

answers_classes : (before : Option Name) (list : List (Name × Answer)) → Chain IsAnswerInOrder (λ b (a : Name × Answer). Some a.0) before list → AllByRecursion IsClass (map (λ (a : Name × Answer). a.0) list)
answers_classes before [] h = tt
answers_classes before (a ∷ rest) h = (front_two (is_utf8 a.0) (is_class_name a.0) (is_behind byte_order before a.0) h.0.0, answers_classes (Some a.0) rest h.1)

pub each_entry : (c : Cache) → IsInOrder c → AllByRecursion (λ (e : Entry). AreByBytesAt e.head e.results) c.entries
each_entry c o =
    let names : List Name = map (λ (a : Name × Answer). a.0) c.answers in
    let raw_keys : List Key = flat_map (λ (r : CachedResult). map (λ (k : KeyRows). k.key) r.group) (flat_map (λ (e : Entry). e.results) c.entries) in
    let raw_names : List Name = flat_map (λ (r : CachedResult). r.names) (flat_map (λ (e : Entry). e.results) c.entries) in
    let ascending : IsStrictlySortedBy byte_order names = subst (λ (l : List Name). IsStrictlySortedBy byte_order l) o.named (all_sorted [] raw_names none_sorted) in
    entries_by_bytes (keys_of_entries c.entries) (all_sorted [] raw_keys none_sorted) names ascending (answers_classes None c.answers o.answers) None c.entries o.entries
