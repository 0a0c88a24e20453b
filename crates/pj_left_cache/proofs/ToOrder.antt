-- A cache whose entries stand by bytes is in order.
use Rattle.std.proofs.Common.{◌≡◌, ℕ, zero, suc, ◌<◌, Bool, true, false, not, cond, ◌&&◌, ◌||◌, List, [], ◌∷◌, length, map, get_or, Option, Some, None, refl, sym, ap, subst, ◌∙◌, arith}
use Rattle.std.specs.List.{AllByRecursion, IsDistinct, flat_map, list_any}
use Rattle.std.specs.List.Sorted.{IsStrictlySortedBy}
use Rattle.std.specs.BTreeMap.{is_at}
use Rattle.std.specs.BTreeSet.{insert_key}
use Rattle.std.specs.declared.cmp.Ordering.{Ordering}
use Rattle.std.specs.declared.cmp.Ordering.TheVariants.{Less, Equal, Greater}
use Rattle.std.specs.Ordering.{is_eq, is_lt, match_ordering, nat_cmp}
use Rattle.std.specs.Cmp.{tied_itself}
use Rattle.std.specs.Cmp.Lexicographic.{nat_list_cmp_total}
use Rattle.std.specs.Str.{is_utf8}
use Rattle.std.proofs.lemmas.Bool.{lt-ltb}
use Rattle.std.proofs.lemmas.Map.Lookups.{exact_unsigned}
use Rattle.std.proofs.lemmas.List.Concat.{flat_map-cons}
use Rattle.std.proofs.lemmas.List.Elements.{All-from_recursion, recursion_from_All}
use Rattle.pj_format.specs.Fields.{Chain}
use Rattle.pj_names.specs.declared.answer.Answer.{Answer}
use Rattle.pj_names.specs.ClassName.{Name, is_class_name}
use Rattle.pj_reports.specs.declared.ruled.Head.{Head}
use Rattle.pj_reports.specs.declared.ruled.Head.TheVariants as heads
use Rattle.pj_cache.specs.Places.{byte_order, member_at, place_in}
use Rattle.pj_cache.proofs.Places.{place_below}
use Rattle.pj_cache.specs.declared.cache.KeyRows.{KeyRows}
use Rattle.pj_cache.specs.declared.cache.CachedResult.{CachedResult}
use Rattle.pj_cache.specs.declared.cache.Entry.{Entry}
use Rattle.pj_cache_format.specs.Judges.{is_behind, is_path_behind}
use Rattle.pj_cache_format.specs.FormatTwo.{first_of, has, is_key_place, results_of, with_more, with_places, keys_of as keys_of_entries, names_of}
use Rattle.pj_cache_format.specs.Ordered.{AreRowsInOrder, AreResultsInOrder, HasItsName, IsAnswerInOrder, IsEntryInOrder, IsInOrder, IsKeyInOrder, IsNameInOrder, IsResultInOrder, places_of, result_step}
use Rattle.pj_reuse.specs.Serving.{has_key, keys_of}
use Rattle.pj_fitting.specs.Right.{Key}
use Rattle.pj_fitting.proofs.Lists.{all_both, all_joined, all_map}
use Rattle.pj_fitting.proofs.Named.{all_apart, all_each, has_more, itself, members}
use Rattle.pj_fitting.proofs.Sets.{same_name}
use Rattle.pj_fitting.proofs.Sorted.{all_put, all_sorted, has_in, in_at, none_sorted}
use Rattle.pj_left_cache.specs.Bytes.{AreByBytesAt, IsByBytes, first_key, shares_key}
use Rattle.pj_left_cache.specs.Missing.{is_same_key, keys_of_all}
use Rattle.pj_left_cache.proofs.OrderLaws.{same_key_flips}

pub both_and : (a b : Bool) → a ≡ true → b ≡ true → (a && b) ≡ true
both_and a b e f = ap (λ (x : Bool). x && b) e ∙ f

-- ---- places of members

-- A byte string stands at its place in a list.
record IsPlaced (list : List Key) (x : Key) : Type 0 where
  small : place_in list x < length list
  is : member_at list (place_in list x) ≡ x

placed_by : (y : Key) (ys : List Key) (x : Key) (t : Bool) → is_at (byte_order x) y ≡ t → AllByRecursion (λ z. byte_order y z ≡ Less) ys → (t || has_key ys x) ≡ true → (has_key ys x ≡ true → IsPlaced ys x) → IsPlaced (y ∷ ys) x
placed_by y ys x true at above there rest =
    let here : place_in (y ∷ ys) y ≡ 0 = ap (λ (o : Ordering). cond (is_lt o) (suc (place_in ys y)) 0) (tied_itself nat_list_cmp_total y) in
    let first : IsPlaced (y ∷ ys) y = record { small = omega (arith, here); is = ap (λ (n : ℕ). member_at (y ∷ ys) n) here } in
    subst (λ (z : Key). IsPlaced (y ∷ ys) z) (sym (same_name x y at)) first
placed_by y ys x false at above there rest =
    let far : byte_order y x ≡ Less = in_at (λ z. byte_order y z ≡ Less) x ys above (has_in ys x there) in
    let next : place_in (y ∷ ys) x ≡ suc (place_in ys x) = ap (λ (o : Ordering). cond (is_lt o) (suc (place_in ys x)) 0) far in
    let behind = rest there in
    record { small = omega (arith, next, behind.small); is = ap (λ (n : ℕ). member_at (y ∷ ys) n) next ∙ behind.is }

placed : (list : List Key) (x : Key) → IsStrictlySortedBy byte_order list → has_key list x ≡ true → IsPlaced list x
unfolding IsStrictlySortedBy
placed [] x s there = absurd cc
placed (y ∷ ys) x s there = placed_by y ys x (is_at (byte_order x) y) refl s.0 there (placed ys x s.1)

get_member : (list : List Key) (p : ℕ) (d : Key) → p < length list → get_or list p d ≡ member_at list p
get_member [] p d small = absurd (omega (arith, small))
get_member (x ∷ xs) zero d small = refl
get_member (x ∷ xs) (suc p) d small = get_member xs p d (omega (arith, small))

number_less : (m n : ℕ) → m < n → is_lt (nat_cmp m n) ≡ true
number_less m n less = rw (lt-ltb m n less) refl

module _ (list : List Key) (sorted : IsStrictlySortedBy byte_order list) where
  abbrev Has : Key → Type 0
  Has x = has_key list x ≡ true

  behind : (x y : Key) → Has x → byte_order x y ≡ Less → is_lt (nat_cmp (place_in list x) (place_in list y)) ≡ true
  behind x y here less =
      let at = placed list x sorted here in
      let low : is_lt (byte_order (get_or list (place_in list x) []) y) ≡ true = ap (λ (z : Key). is_lt (byte_order z y)) (get_member list (place_in list x) [] at.small ∙ at.is) ∙ ap is_lt less in
      let step = place_below list y (place_in list x) [] sorted at.small low in
      number_less (place_in list x) (place_in list y) (omega (arith, step))

  -- names

  name_here : (before : Option ℕ) (n : Name) → Has n → is_behind nat_cmp before (place_in list n) ≡ true → IsNameInOrder list before n
  name_here before n here after =
      let at = placed list n sorted here in
      (both_and _ (is_behind nat_cmp before (place_in list n)) (lt-ltb (place_in list n) (length list) at.small) after, at.is)

  names_from : (before : Option ℕ) (n : Name) (ns : List Name) → IsStrictlySortedBy byte_order (n ∷ ns) → AllByRecursion Has (n ∷ ns) → is_behind nat_cmp before (place_in list n) ≡ true → Chain (IsNameInOrder list) (λ b m. Some (place_in list m)) before (n ∷ ns)
  unfolding IsStrictlySortedBy
  names_from before n [] s all after = (name_here before n all.0 after, tt)
  names_from before n (m ∷ ms) s all after = (name_here before n all.0 after, names_from (Some (place_in list n)) m ms s.1 all.1 (behind n m all.0 s.0.0))

  names_chain : (ns : List Name) → IsStrictlySortedBy byte_order ns → AllByRecursion Has ns → Chain (IsNameInOrder list) (λ b m. Some (place_in list m)) None ns
  names_chain [] s all = tt
  names_chain (n ∷ ns) s all = names_from None n ns s all refl

  -- keys

  abbrev place_of : KeyRows → ℕ
  place_of k = place_in list k.key

  -- the place of a key is not among some places
  abbrev IsFree : List ℕ → Key → Type 0
  IsFree used x = AllByRecursion (λ (u : ℕ). is_at (nat_cmp (place_in list x)) u ≡ false) used

  none_has : (p : ℕ) (used : List ℕ) → AllByRecursion (λ (u : ℕ). is_at (nat_cmp p) u ≡ false) used → has used p ≡ false
  none_has p [] all = refl
  none_has p (u ∷ us) all = ap (λ (b : Bool). b || has us p) all.0 ∙ none_has p us all.1

  key_here : (used : List ℕ) (before : Option ℕ) (x : Key) → Has x → IsFree used x → is_behind nat_cmp before (place_in list x) ≡ true → is_key_place (length list) used before (place_in list x) ≡ true
  key_here used before x here free after =
      let at = placed list x sorted here in
      both_and _ (is_behind nat_cmp before (place_in list x) && not (has used (place_in list x))) (lt-ltb (place_in list x) (length list) at.small)
      (both_and (is_behind nat_cmp before (place_in list x)) (not (has used (place_in list x))) after (ap not (none_has (place_in list x) used free)))

  abbrev KeyChain : List ℕ → Option ℕ → List ℕ → Type 0
  KeyChain used before places = Chain (λ b place. is_key_place (length list) used b place ≡ true) (λ b place. Some place) before places

  keys_from : (used : List ℕ) (before : Option ℕ) (k : KeyRows) (ks : List KeyRows) → IsStrictlySortedBy byte_order (map (λ (m : KeyRows). m.key) (k ∷ ks)) → AllByRecursion Has (map (λ (m : KeyRows). m.key) (k ∷ ks)) → AllByRecursion (IsFree used) (map (λ (m : KeyRows). m.key) (k ∷ ks))
      → is_behind nat_cmp before (place_of k) ≡ true → KeyChain used before (map place_of (k ∷ ks))
  unfolding IsStrictlySortedBy
  keys_from used before k [] s all free after = (key_here used before k.key all.0 free.0 after, tt)
  keys_from used before k (m ∷ ms) s all free after = (key_here used before k.key all.0 free.0 after, keys_from used (Some (place_of k)) m ms s.1 all.1 free.1 (behind k.key m.key all.0 s.0.0))

  -- the group of a result
  record IsGroup (used : List ℕ) (before : Option ℕ) (group : List KeyRows) : Type 0 where
    some : 0 < length (map place_of group)
    chain : KeyChain used before (map place_of group)
    first : first_of (map place_of group) ≡ Some (place_in list (member_at (map (λ (m : KeyRows). m.key) group) 0))

  group_from : (used : List ℕ) (before : Option ℕ) (group : List KeyRows) → 0 < length (map (λ (m : KeyRows). m.key) group) → IsStrictlySortedBy byte_order (map (λ (m : KeyRows). m.key) group) → AllByRecursion Has (map (λ (m : KeyRows). m.key) group)
      → AllByRecursion (IsFree used) (map (λ (m : KeyRows). m.key) group) → is_behind nat_cmp before (place_in list (member_at (map (λ (m : KeyRows). m.key) group) 0)) ≡ true → IsGroup used before group
  group_from used before [] some s all free after = absurd (omega (arith, some))
  group_from used before (k ∷ ks) some s all free after = record { some = omega arith; chain = keys_from used before k ks s all free after; first = refl }

  each_key : (group : List KeyRows) → AllByRecursion Has (map (λ (m : KeyRows). m.key) group) → AllByRecursion (λ (k : KeyRows). AreRowsInOrder k.rows) group → AllByRecursion (IsKeyInOrder list) group
  each_key [] all rows = tt
  each_key (k ∷ ks) all rows = (((placed list k.key sorted all.0).is, rows.0), each_key ks all.1 rows.1)

  -- places that are put to others

  all_place : (P : ℕ → Type 0) (k : ℕ) (xs : List ℕ) → P k → AllByRecursion P xs → AllByRecursion P (insert_key nat_cmp xs k)
  all_place P k [] here all = (here, tt)
  all_place P k (x ∷ xs) here all = by (nat_cmp k x) (all_place P k xs here all.1)
    where
      by : (o : Ordering) → AllByRecursion P (insert_key nat_cmp xs k) → AllByRecursion P (match_ordering o (k ∷ x ∷ xs) (x ∷ xs) (x ∷ insert_key nat_cmp xs k))
      by Less rest = (here, all)
      by Equal rest = all
      by Greater rest = (all.0, rest)

  all_places : (P : ℕ → Type 0) (held ps : List ℕ) → AllByRecursion P held → AllByRecursion P ps → AllByRecursion P (with_places held ps)
  all_places P held [] all more = all
  all_places P held (p ∷ ps) all more = all_places P (insert_key nat_cmp held p) ps (all_place P p held more.0 all) more.1

  -- the place of a key is not that of another one
  apart_by : (x k : Key) (o : Ordering) → Has x → Has k → nat_cmp (place_in list k) (place_in list x) ≡ o → is_same_key x k ≡ false → is_eq o ≡ false
  apart_by x k Less here there e other = refl
  apart_by x k Greater here there e other = refl
  apart_by x k Equal here there e other =
      let place : place_in list k ≡ place_in list x = exact_unsigned (place_in list k) (place_in list x) e in
      let same : k ≡ x = sym (placed list k sorted there).is ∙ ap (λ (n : ℕ). member_at list n) place ∙ (placed list x sorted here).is in
      let never : true ≡ false = sym (ap (λ (z : Key). is_same_key x z) same ∙ itself x) ∙ other in
      absurd cc

  others_free : (k : Key) (xs : List KeyRows) → Has k → AllByRecursion Has (map (λ (m : KeyRows). m.key) xs) → AllByRecursion (λ x. is_same_key x k ≡ false) (map (λ (m : KeyRows). m.key) xs) → IsFree (map place_of xs) k
  others_free k [] there all apart = tt
  others_free k (x ∷ xs) there all apart = (apart_by x.key k (nat_cmp (place_in list k) (place_of x)) all.0 there refl apart.0, others_free k xs there all.1 apart.1)

-- ---- keys that are distinct

or_parts : (a b : Bool) → (a || b) ≡ false → (a ≡ false) × (b ≡ false)
or_parts true b e = absurd cc
or_parts false b e = (refl, e)

pub none_passes : {A : Type 0} (p : A → Bool) (xs : List A) → list_any p xs ≡ false → AllByRecursion (λ (x : A). p x ≡ false) xs
none_passes p [] e = tt
none_passes p (x ∷ xs) e = let both = or_parts (p x) (list_any p xs) e in (both.0, none_passes p xs both.1)

-- each of some keys is another one than each of others
abbrev pub AreApart : List Key → List Key → Type 0
AreApart xs ys = AllByRecursion (λ y. AllByRecursion (λ x. is_same_key x y ≡ false) xs) ys

apart_from : (xs ys : List Key) → AllByRecursion (λ x. has_key ys x ≡ false) xs → AreApart xs ys
apart_from xs [] all = tt
apart_from xs (y ∷ ys) all = (
  all_map (λ x. has_key (y ∷ ys) x ≡ false) (λ x. is_same_key x y ≡ false) xs (λ x e. same_key_flips x y ∙ (or_parts (is_at (byte_order x) y) (has_key ys x) e).0) all,
  apart_from xs ys (all_map (λ x. has_key (y ∷ ys) x ≡ false) (λ x. has_key ys x ≡ false) xs (λ x e. (or_parts (is_at (byte_order x) y) (has_key ys x) e).1) all),
)

-- a result is apart from those with which it shares no key
apart_all : (r : CachedResult) (rs : List CachedResult) → AllByRecursion (λ s. shares_key r s ≡ false) rs → AreApart (keys_of r) (keys_of_all rs)
apart_all r rs all =
    all_joined (λ y. AllByRecursion (λ x. is_same_key x y ≡ false) (keys_of r)) keys_of rs
    (all_map (λ s. shares_key r s ≡ false) (λ s. AreApart (keys_of r) (keys_of s)) rs (λ s e. apart_from (keys_of r) (keys_of s) (none_passes (has_key (keys_of s)) (keys_of r) e)) all)

-- ---- results

module _ (keys : List Key) (sorted : IsStrictlySortedBy byte_order keys) (names : List Name) (ascending : IsStrictlySortedBy byte_order names) where
  -- the keys and the names of a result are among them
  abbrev IsKnown : CachedResult → Type 0
  IsKnown r = AllByRecursion (Has keys sorted) (keys_of r) × AllByRecursion (Has names ascending) r.names

  abbrev Free : List ℕ → Key → Type 0
  Free used x = IsFree keys sorted used x

  abbrev ResultChain : Option ℕ → List ℕ → List CachedResult → Type 0
  ResultChain before used rs = Chain (IsResultInOrder keys names) (result_step keys) (before, used) rs

  group_of_result : (before : Option ℕ) (used : List ℕ) (r : CachedResult) → IsByBytes r → IsKnown r → AllByRecursion (Free used) (keys_of r) → is_behind nat_cmp before (place_in keys (first_key r)) ≡ true → IsGroup keys sorted used before r.group
  group_of_result before used r by known free after = group_from keys sorted used before r.group by.some by.keys known.0 free after

  here_result : (before : Option ℕ) (used : List ℕ) (r : CachedResult) → IsByBytes r → IsKnown r → IsGroup keys sorted used before r.group → IsResultInOrder keys names (before, used) r
  here_result before used r by known group = (
    (group.some, group.chain),
    names_chain names ascending r.names by.names known.1,
    All-from_recursion (IsKeyInOrder keys) r.group (each_key keys sorted r.group known.0 (recursion_from_All (λ (k : KeyRows). AreRowsInOrder k.rows) r.group by.rows)),
  )

  -- those behind a result, whose first key and keys are behind and apart
  free_after : (used : List ℕ) (r : CachedResult) (ks : List Key) → AllByRecursion (Has keys sorted) (keys_of r) → AllByRecursion (Has keys sorted) ks → AllByRecursion (Free used) ks → AreApart (keys_of r) ks
      → AllByRecursion (Free (with_places used (places_of keys r))) ks
  free_after used r [] here known free apart = tt
  free_after used r (k ∷ ks) here known free apart = (
    all_places keys sorted (λ (u : ℕ). is_at (nat_cmp (place_in keys k)) u ≡ false) used (places_of keys r) free.0 (others_free keys sorted k r.group known.0 here apart.0),
    free_after used r ks here known.1 free.1 apart.1,
  )

  keys_known : (rs : List CachedResult) → AllByRecursion IsKnown rs → AllByRecursion (Has keys sorted) (keys_of_all rs)
  keys_known rs all = all_joined (Has keys sorted) keys_of rs (all_map IsKnown (λ (r : CachedResult). AllByRecursion (Has keys sorted) (keys_of r)) rs (λ r known. known.0) all)

  first_has : (r : CachedResult) → IsByBytes r → IsKnown r → Has keys sorted (first_key r)
  first_has r by known = one (keys_of r) by.some known.0
    where
      one : (ks : List Key) → 0 < length ks → AllByRecursion (Has keys sorted) ks → Has keys sorted (member_at ks 0)
      one [] some all = absurd (omega (arith, some))
      one (k ∷ ks) some all = all.0

  results_from : (before : Option ℕ) (used : List ℕ) (r : CachedResult) (rs : List CachedResult) → AllByRecursion IsByBytes (r ∷ rs) → AllByRecursion IsKnown (r ∷ rs) → IsStrictlySortedBy byte_order (map first_key (r ∷ rs)) → IsDistinct shares_key (r ∷ rs) → AllByRecursion (Free used) (keys_of_all (r ∷ rs))
      → is_behind nat_cmp before (place_in keys (first_key r)) ≡ true → ResultChain before used (r ∷ rs)
  unfolding IsStrictlySortedBy IsDistinct
  results_from before used r [] by known first once free after =
      let frees = all_apart (Free used) (keys_of r) [] (subst (λ (l : List Key). AllByRecursion (Free used) l) (flat_map-cons keys_of r []) free) in
      (here_result before used r by.0 known.0 (group_of_result before used r by.0 known.0 frees.0 after), tt)
  results_from before used r (s ∷ ss) by known first once free after =
      let frees = all_apart (Free used) (keys_of r) (keys_of_all (s ∷ ss)) (subst (λ (l : List Key). AllByRecursion (Free used) l) (flat_map-cons keys_of r (s ∷ ss)) free) in
      let group = group_of_result before used r by.0 known.0 frees.0 after in
      let later = results_from (Some (place_in keys (first_key r))) (with_places used (places_of keys r)) s ss by.1 known.1 first.1 once.1
      (free_after used r (keys_of_all (s ∷ ss)) known.0.0 (keys_known (s ∷ ss) known.1) frees.1 (apart_all r (s ∷ ss) once.0)) (behind keys sorted (first_key r) (first_key s) (first_has r by.0 known.0) first.0.0) in
      (here_result before used r by.0 known.0 group, subst (λ (p : Option ℕ). ResultChain p (with_places used (places_of keys r)) (s ∷ ss)) (sym group.first) later)

  free_first : (ks : List Key) → AllByRecursion (Free []) ks
  free_first [] = tt
  free_first (k ∷ ks) = (tt, free_first ks)

  results_at : (h : Head) (rs : List CachedResult) → AreByBytesAt h rs → AllByRecursion IsKnown rs → AreResultsInOrder keys names h rs
  results_at (heads.Message message) rs by known = by
  results_at (heads.Package name) rs by known = all rs (recursion_from_All IsByBytes rs by.each) known by.first by.once
    where
      all : (ss : List CachedResult) → AllByRecursion IsByBytes ss → AllByRecursion IsKnown ss → IsStrictlySortedBy byte_order (map first_key ss) → IsDistinct shares_key ss → ResultChain None [] ss
      all [] b k f o = tt
      all (s ∷ ss) b k f o = results_from None [] s ss b k f o (free_first (keys_of_all (s ∷ ss))) refl

  entries_at : (before : Option (List ℕ)) (es : List Entry) → Chain (λ b (e : Entry). is_path_behind b e.path ≡ true) (λ b e. Some e.path) before es → AllByRecursion (λ (e : Entry). AreByBytesAt e.head e.results) es → AllByRecursion (λ (e : Entry). AllByRecursion IsKnown e.results) es
      → Chain (IsEntryInOrder keys names) (λ b e. Some e.path) before es
  entries_at before [] paths by known = tt
  entries_at before (e ∷ es) paths by known = ((paths.0, results_at e.head e.results by.0 known.0), entries_at (Some e.path) es paths.1 by.1 known.1)

-- ---- answers

module _ (world : Name → Answer) where
  abbrev IsNamed : Name → Type 0
  IsNamed n = HasItsName n (world n)

  abbrev pair : Name → Name × Answer
  pair n = (n, world n)

  abbrev IsClass : Name → Type 0
  IsClass n = (is_utf8 n && is_class_name n) ≡ true

  split : (a b c : Bool) → (a && b) ≡ true → c ≡ true → (a && (b && c)) ≡ true
  split true true c e f = f
  split true false c e f = absurd cc
  split false b c e f = absurd cc

  answers_from : (before : Option Name) (n : Name) (ns : List Name) → IsStrictlySortedBy byte_order (n ∷ ns) → AllByRecursion IsClass (n ∷ ns) → AllByRecursion IsNamed (n ∷ ns) → is_behind byte_order before n ≡ true → Chain IsAnswerInOrder (λ b a. Some a.0) before (map pair (n ∷ ns))
  unfolding IsStrictlySortedBy
  answers_from before n [] s all named after = ((split (is_utf8 n) (is_class_name n) (is_behind byte_order before n) all.0 after, named.0), tt)
  answers_from before n (m ∷ ms) s all named after = ((split (is_utf8 n) (is_class_name n) (is_behind byte_order before n) all.0 after, named.0), answers_from (Some n) m ms s.1 all.1 named.1 (ap is_lt s.0.0))

  answers_chain : (ns : List Name) → IsStrictlySortedBy byte_order ns → AllByRecursion IsClass ns → AllByRecursion IsNamed ns → Chain IsAnswerInOrder (λ b a. Some a.0) None (map pair ns)
  answers_chain [] s all named = tt
  answers_chain (n ∷ ns) s all named = answers_from None n ns s all named refl

  firsts : (ns : List Name) → map (λ (a : Name × Answer). a.0) (map pair ns) ≡ ns
  firsts [] = refl
  firsts (n ∷ ns) = ap (λ (l : List Name). n ∷ l) (firsts ns)

-- ---- the cache

all_more : (P : List ℕ → Type 0) (held xs : List (List ℕ)) → AllByRecursion P held → AllByRecursion P xs → AllByRecursion P (with_more held xs)
all_more P held [] all more = all
all_more P held (x ∷ xs) all more = all_more P (insert_key byte_order held x) xs (all_put P x held more.0 all) more.1

each_has : (raw xs : List (List ℕ)) → AllByRecursion (λ x. has_key raw x ≡ true) xs → AllByRecursion (λ x. has_key (with_more [] raw) x ≡ true) xs
each_has raw xs all = all_map (λ x. has_key raw x ≡ true) (λ x. has_key (with_more [] raw) x ≡ true) xs (λ x there. has_more [] raw x there) all

module _ (world : Name → Answer) (entries : List Entry) where
  abbrev all_results : List CachedResult
  all_results = results_of entries

  abbrev raw_keys : List Key
  raw_keys = flat_map (λ (r : CachedResult). map (λ (k : KeyRows). k.key) r.group) all_results

  abbrev raw_names : List Name
  raw_names = flat_map (λ (r : CachedResult). r.names) all_results

  keys_sorted : IsStrictlySortedBy byte_order (keys_of_entries entries)
  keys_sorted = all_sorted [] raw_keys none_sorted

  names_sorted : IsStrictlySortedBy byte_order (names_of entries)
  names_sorted = all_sorted [] raw_names none_sorted

  known : AllByRecursion (λ (e : Entry). AllByRecursion (IsKnown (keys_of_entries entries) keys_sorted (names_of entries) names_sorted) e.results) entries
  known =
      let keys_there = all_each (λ x. has_key (keys_of_entries entries) x ≡ true) keys_of all_results (each_has raw_keys raw_keys (members [] raw_keys)) in
      let names_there = all_each (λ x. has_key (names_of entries) x ≡ true) (λ (r : CachedResult). r.names) all_results (each_has raw_names raw_names (members [] raw_names)) in
      all_each (IsKnown (keys_of_entries entries) keys_sorted (names_of entries) names_sorted) (λ (e : Entry). e.results) entries
      (all_both (λ (r : CachedResult). AllByRecursion (λ x. has_key (keys_of_entries entries) x ≡ true) (keys_of r)) (λ (r : CachedResult). AllByRecursion (λ x. has_key (names_of entries) x ≡ true) r.names)
      (IsKnown (keys_of_entries entries) keys_sorted (names_of entries) names_sorted) all_results (λ r k n. (k, n)) keys_there names_there)

  of_head : (h : Head) (rs : List CachedResult) → AreByBytesAt h rs → AllByRecursion (λ (r : CachedResult). AllByRecursion (λ (n : Name). (is_utf8 n && is_class_name n) ≡ true) r.names) rs
  of_head (heads.Package name) rs by =
      all_map IsByBytes (λ (r : CachedResult). AllByRecursion (λ (n : Name). (is_utf8 n && is_class_name n) ≡ true) r.names) rs (λ r b. recursion_from_All (λ (n : Name). (is_utf8 n && is_class_name n) ≡ true) r.names b.classes) (recursion_from_All IsByBytes rs by.each)
  of_head (heads.Message message) rs by = subst (λ (l : List CachedResult). AllByRecursion (λ (r : CachedResult). AllByRecursion (λ (n : Name). (is_utf8 n && is_class_name n) ≡ true) r.names) l) (sym by) tt

  classes : AllByRecursion (λ (e : Entry). AreByBytesAt e.head e.results) entries → AllByRecursion (λ (n : Name). (is_utf8 n && is_class_name n) ≡ true) raw_names
  classes by =
      all_joined (λ (n : Name). (is_utf8 n && is_class_name n) ≡ true) (λ (r : CachedResult). r.names) all_results
      (all_joined (λ (r : CachedResult). AllByRecursion (λ (n : Name). (is_utf8 n && is_class_name n) ≡ true) r.names) (λ (e : Entry). e.results) entries
      (all_map (λ (e : Entry). AreByBytesAt e.head e.results) (λ (e : Entry). AllByRecursion (λ (r : CachedResult). AllByRecursion (λ (n : Name). (is_utf8 n && is_class_name n) ≡ true) r.names) e.results) entries (λ e b. of_head e.head e.results b) by))

  pub in_order : AllByRecursion (λ (n : Name). HasItsName n (world n)) (names_of entries) → Chain (λ b (e : Entry). is_path_behind b e.path ≡ true) (λ b e. Some e.path) None entries → AllByRecursion (λ (e : Entry). AreByBytesAt e.head e.results) entries → IsInOrder (record { answers = map (λ (n : Name). (n, world n)) (names_of entries); entries = entries })
  in_order named paths by =
      let names : List Name = names_of entries in
      let same : map (λ (a : Name × Answer). a.0) (map (λ (n : Name). (n, world n)) names) ≡ names = firsts world names in
      record {
        answers = answers_chain world names names_sorted (all_more (λ (n : Name). (is_utf8 n && is_class_name n) ≡ true) [] raw_names tt (classes by)) named;
        entries = subst (λ (l : List Name). Chain (IsEntryInOrder (keys_of_entries entries) l) (λ b e. Some e.path) None entries) (sym same)
            (entries_at (keys_of_entries entries) keys_sorted names names_sorted None entries paths by known);
        named = sym same;
      }
