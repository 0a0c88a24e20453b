-- What is served in a world, and which names are asked to tell it.
use Rattle.std.proofs.Common.{◌≡◌, ℕ, suc, Bool, true, false, cond, ◌&&◌, ◌||◌, List, [], ◌∷◌, ◌++◌, refl, sym, ap, ◌∙◌}
use Rattle.std.specs.List.{AllByRecursion, list_any, list_all, flat_map}
use Rattle.std.specs.declared.cmp.Ordering.{Ordering}
use Rattle.std.specs.declared.cmp.Ordering.TheVariants.{Less, Equal, Greater}
use Rattle.std.specs.Ordering.{is_eq, match_ordering, ordering_reverse}
use Rattle.std.specs.Cmp.{tied_itself}
use Rattle.std.specs.Cmp.Lexicographic.{nat_list_cmp_total}
use Rattle.std.specs.BTreeSet.{insert_key}
use Rattle.std.specs.BTreeMap.{is_at}
use Rattle.std.proofs.lemmas.List.{append-nil}
use Rattle.std.proofs.lemmas.List.Concat.{flat_map-cons}
use Rattle.pj_names.specs.declared.answer.Answer.{Answer}
use Rattle.pj_names.specs.ClassName.{Name}
use Rattle.pj_names.specs.Asking.{Asking, Return, bind, value_of, names_of}
use Rattle.pj_names.proofs.MeaningLaws.{value_of-bind, names_of-bind}
use Rattle.pj_cache.specs.declared.cache.CachedResult.{CachedResult}
use Rattle.pj_cache.specs.Places.{byte_order}
use Rattle.pj_reuse.specs.Serving.{Key, has_key, keys_of, has_one, is_kept, stands, is_served, places_from, served_in, up_to_change, looked_in, are_kept, with_keys, keys_of_result, keys_of_results, served}

-- ---- tests

or_false : (a : Bool) → a ≡ (a || false)
or_false true = refl
or_false false = refl

or_true : (a : Bool) → (a || true) ≡ true
or_true true = refl
or_true false = refl

absorbed : (a b : Bool) → (a || b) ≡ (a || (a || b))
absorbed true b = refl
absorbed false b = refl

swapped : (a b c : Bool) → (a || (b || c)) ≡ (b || (a || c))
swapped true true c = refl
swapped true false c = refl
swapped false true c = refl
swapped false false c = refl

regrouped : (a b c : Bool) → ((a || b) || c) ≡ (b || (a || c))
regrouped true true c = refl
regrouped true false c = refl
regrouped false true c = refl
regrouped false false c = refl

associated : (a b c : Bool) → ((a || b) || c) ≡ (a || (b || c))
associated true b c = refl
associated false b c = refl

-- ---- keys

pub tied : (o : Ordering) → is_eq o ≡ true → o ≡ Equal
tied Less e = absurd cc
tied Equal e = refl
tied Greater e = absurd cc

-- keys that tie stand at one place
ties : (a b k : Key) → byte_order a b ≡ Equal → byte_order k a ≡ byte_order k b
ties a b k e = nat_list_cmp_total.antisymm k a ∙ ap ordering_reverse (nat_list_cmp_total.congr a b k e) ∙ sym (nat_list_cmp_total.antisymm k b)

put_by : (k x q : Key) (xs more : List Key) (o : Ordering) → byte_order k x ≡ o → has_key more q ≡ (is_at (byte_order q) k || has_key xs q)
    → has_key (match_ordering o (k ∷ x ∷ xs) (x ∷ xs) (x ∷ more)) q ≡ (is_at (byte_order q) k || (is_at (byte_order q) x || has_key xs q))
put_by k x q xs more Less e rest = refl
put_by k x q xs more Equal e rest =
    let same : is_at (byte_order q) k ≡ is_at (byte_order q) x = ap is_eq (ties k x q e) in
    absorbed (is_at (byte_order q) x) (has_key xs q) ∙ (λ i. sym same i || (is_at (byte_order q) x || has_key xs q))
put_by k x q xs more Greater e rest = ap (λ (b : Bool). is_at (byte_order q) x || b) rest ∙ swapped (is_at (byte_order q) x) (is_at (byte_order q) k) (has_key xs q)

pub has_put : (held : List Key) (k q : Key) → has_key (insert_key byte_order held k) q ≡ (is_at (byte_order q) k || has_key held q)
has_put [] k q = refl
has_put (x ∷ xs) k q = put_by k x q xs (insert_key byte_order xs k) (byte_order k x) refl (has_put xs k q)

pub has_all : (held keys : List Key) (q : Key) → has_key (with_keys held keys) q ≡ (has_key held q || has_key keys q)
has_all held [] q = or_false (has_key held q)
has_all held (k ∷ ks) q =
    has_all (insert_key byte_order held k) ks q
    ∙ ap (λ (b : Bool). b || has_key ks q) (has_put held k q)
    ∙ regrouped (is_at (byte_order q) k) (has_key held q) (has_key ks q)

pub same_one : (keys : List Key) (r : CachedResult) → has_one (with_keys [] keys) r ≡ has_one keys r
same_one keys r = λ i. list_any (λ (q : Key). has_all [] keys q i) (keys_of r)

-- a list that has a key has the one that ties with it
pub same_has : (keys : List Key) (a b : Key) → byte_order a b ≡ Equal → has_key keys a ≡ has_key keys b
same_has [] a b e = refl
same_has (k ∷ ks) a b e =
    let first : is_at (byte_order a) k ≡ is_at (byte_order b) k = ap is_eq (nat_list_cmp_total.congr a b k e) in
    λ i. first i || same_has ks a b e i

meets_by : (keys xs : List Key) (x q : Key) (b : Bool) → is_at (byte_order q) x ≡ b → (b || has_key xs q) ≡ true → has_key keys q ≡ true → (has_key xs q ≡ true → list_any (has_key keys) xs ≡ true) → (has_key keys x || list_any (has_key keys) xs) ≡ true
meets_by keys xs x q true at e there rest =
    let same : has_key keys x ≡ true = sym (same_has keys q x (tied (byte_order q x) at)) ∙ there in
    ap (λ (b : Bool). b || list_any (has_key keys) xs) same
meets_by keys xs x q false at e there rest = ap (λ (b : Bool). has_key keys x || b) (rest e) ∙ or_true (has_key keys x)

-- lists that both have a key
pub meets : (keys xs : List Key) (q : Key) → has_key xs q ≡ true → has_key keys q ≡ true → list_any (has_key keys) xs ≡ true
meets keys [] q e there = absurd cc
meets keys (x ∷ xs) q e there = meets_by keys xs x q (is_at (byte_order q) x) refl e there (λ rest. meets keys xs q rest there)

has_more : (k : Key) (ks xs : List Key) → AllByRecursion (λ (x : Key). has_key ks x ≡ true) xs → AllByRecursion (λ (x : Key). has_key (k ∷ ks) x ≡ true) xs
has_more k ks [] all = tt
has_more k ks (x ∷ xs) all = (ap (λ (b : Bool). is_at (byte_order x) k || b) all.0 ∙ or_true (is_at (byte_order x) k), has_more k ks xs all.1)

pub has_itself : (keys : List Key) → AllByRecursion (λ (x : Key). has_key keys x ≡ true) keys
has_itself [] = tt
has_itself (k ∷ ks) = (ap (λ (o : Ordering). is_eq o || has_key ks k) (tied_itself nat_list_cmp_total k), has_more k ks ks (has_itself ks))

-- ---- places

next_places : (b c : Bool) (at : ℕ) (xs ys : List ℕ) → b ≡ c → xs ≡ ys → cond b (at ∷ xs) xs ≡ cond c (at ∷ ys) ys
next_places b c at xs ys e h = λ i. cond (e i) (at ∷ h i) (h i)

places_same : (p q : Key → Bool) (keys all : List Key) (at : ℕ) → ((k : Key) → has_key all k ≡ true → p k ≡ q k) → AllByRecursion (λ (k : Key). has_key all k ≡ true) keys → places_from p at keys ≡ places_from q at keys
places_same p q [] all at same there = refl
places_same p q (k ∷ ks) all at same there = next_places (p k) (q k) at (places_from p (suc at) ks) (places_from q (suc at) ks) (same k there.0) (places_same p q ks all (suc at) same there.1)

module _ (depth : ℕ) (world : Name → Answer) (answers : List (Name × Answer)) where
  -- ---- one result

  kept_value_by : (name : Name) (names : List Name) (b : Bool) → value_of depth world (are_kept answers names) ≡ list_all (λ (n : Name). is_kept answers n (world n)) names
      → value_of depth world (cond b (are_kept answers names) (Return false)) ≡ (b && list_all (λ (n : Name). is_kept answers n (world n)) names)
  kept_value_by name names true rest = rest
  kept_value_by name names false rest = refl

  pub kept_value : (names : List Name) → value_of depth world (are_kept answers names) ≡ list_all (λ (n : Name). is_kept answers n (world n)) names
  kept_value [] = refl
  kept_value (n ∷ ns) = kept_value_by n ns (is_kept answers n (world n)) (kept_value ns)

  kept_names_by : (names : List Name) (b : Bool) → names_of depth world (are_kept answers names) ≡ up_to_change answers world names
      → names_of depth world (cond b (are_kept answers names) (Return false)) ≡ cond b (up_to_change answers world names) []
  kept_names_by names true rest = rest
  kept_names_by names false rest = refl

  pub kept_names : (names : List Name) → names_of depth world (are_kept answers names) ≡ up_to_change answers world names
  kept_names [] = refl
  kept_names (n ∷ ns) = ap (λ (l : List Name). n ∷ l) (kept_names_by ns (is_kept answers n (world n)) (kept_names ns))

  abbrev kept_keys : List Key → CachedResult → Bool → Asking (List Key)
  kept_keys held r stand = Return (cond stand (with_keys held (keys_of r)) held)

  one_has_by : (wanted held : List Key) (r : CachedResult) (q : Key) (a s : Bool) → value_of depth world (are_kept answers r.names) ≡ s
      → has_key (value_of depth world (cond a (bind (are_kept answers r.names) (kept_keys held r)) (Return held))) q ≡ (has_key held q || (a && (s && has_key (keys_of r) q)))
  one_has_by wanted held r q false s e = or_false (has_key held q)
  one_has_by wanted held r q true true e =
      ap (λ (l : List Key). has_key l q) (value_of-bind depth world (are_kept answers r.names) (kept_keys held r) ∙ ap (λ (b : Bool). cond b (with_keys held (keys_of r)) held) e)
      ∙ has_all held (keys_of r) q
  one_has_by wanted held r q true false e =
      ap (λ (l : List Key). has_key l q) (value_of-bind depth world (are_kept answers r.names) (kept_keys held r) ∙ ap (λ (b : Bool). cond b (with_keys held (keys_of r)) held) e)
      ∙ or_false (has_key held q)

  one_has : (wanted held : List Key) (r : CachedResult) (q : Key) → has_key (value_of depth world (keys_of_result answers wanted held r)) q ≡ (has_key held q || (has_one wanted r && (stands answers world r && has_key (keys_of r) q)))
  one_has wanted held r q = one_has_by wanted held r q (has_one wanted r) (stands answers world r) (kept_value r.names)

  one_names_by : (wanted held : List Key) (r : CachedResult) (a : Bool) → names_of depth world (cond a (bind (are_kept answers r.names) (kept_keys held r)) (Return held)) ≡ cond a (up_to_change answers world r.names) []
  one_names_by wanted held r true = names_of-bind depth world (are_kept answers r.names) (kept_keys held r) ∙ append-nil (names_of depth world (are_kept answers r.names)) ∙ kept_names r.names
  one_names_by wanted held r false = refl

  -- ---- all results

  abbrev serves : List Key → Key → CachedResult → Bool
  serves wanted q r = has_one wanted r && (stands answers world r && has_key (keys_of r) q)

  all_has : (wanted held : List Key) (rs : List CachedResult) (q : Key) → has_key (value_of depth world (keys_of_results answers wanted held rs)) q ≡ (has_key held q || list_any (serves wanted q) rs)
  all_has wanted held [] q = or_false (has_key held q)
  all_has wanted held (r ∷ rs) q =
      let more = value_of depth world (keys_of_result answers wanted held r) in
      ap (λ (l : List Key). has_key l q) (value_of-bind depth world (keys_of_result answers wanted held r) (λ (l : List Key). keys_of_results answers wanted l rs))
      ∙ all_has wanted more rs q
      ∙ ap (λ (b : Bool). b || list_any (serves wanted q) rs) (one_has wanted held r q)
      ∙ associated (has_key held q) (serves wanted q r) (list_any (serves wanted q) rs)

  abbrev looks : List Key → CachedResult → List Name
  looks keys r = cond (has_one keys r) (up_to_change answers world r.names) []

  all_names : (wanted keys : List Key) → ((r : CachedResult) → has_one wanted r ≡ has_one keys r) → (held : List Key) (rs : List CachedResult) → names_of depth world (keys_of_results answers wanted held rs) ≡ flat_map (looks keys) rs
  all_names wanted keys same held [] = refl
  all_names wanted keys same held (r ∷ rs) =
      let more = value_of depth world (keys_of_result answers wanted held r) in
      let one : names_of depth world (keys_of_result answers wanted held r) ≡ looks keys r = one_names_by wanted held r (has_one wanted r) ∙ ap (λ (b : Bool). cond b (up_to_change answers world r.names) []) (same r) in
      names_of-bind depth world (keys_of_result answers wanted held r) (λ (l : List Key). keys_of_results answers wanted l rs)
      ∙ (λ i. one i ++ all_names wanted keys same more rs i)
      ∙ sym (flat_map-cons (looks keys) r rs)

  -- ---- for the keys asked of

  alone_by : (keys : List Key) (r : CachedResult) (q : Key) (s h a : Bool) → has_key (keys_of r) q ≡ h → (h ≡ true → a ≡ true) → (a && (s && h)) ≡ (s && h)
  alone_by keys r q s true a e there = ap (λ (b : Bool). b && (s && true)) (there refl)
  alone_by keys r q true false true e there = refl
  alone_by keys r q true false false e there = refl
  alone_by keys r q false false true e there = refl
  alone_by keys r q false false false e there = refl

  alone : (keys : List Key) (q : Key) → has_key keys q ≡ true → (r : CachedResult) → serves (with_keys [] keys) q r ≡ (stands answers world r && has_key (keys_of r) q)
  alone keys q there r = alone_by keys r q (stands answers world r) (has_key (keys_of r) q) (has_one (with_keys [] keys) r) refl (λ e. same_one keys r ∙ meets keys (keys_of r) q e there)

  pub places_served : (results : List CachedResult) (keys : List Key) → value_of depth world (served answers results keys) ≡ served_in answers world results keys
  places_served results keys =
      let wanted = with_keys [] keys in
      let held = value_of depth world (keys_of_results answers wanted [] results) in
      value_of-bind depth world (keys_of_results answers wanted [] results) (λ (l : List Key). Return (places_from (has_key l) 0 keys))
      ∙ places_same (has_key held) (is_served answers world results) keys keys 0
      (λ q there. all_has wanted [] results q ∙ (λ i. list_any (λ (r : CachedResult). alone keys q there r i) results)) (has_itself keys)

  pub names_looked : (results : List CachedResult) (keys : List Key) → names_of depth world (served answers results keys) ≡ looked_in answers world results keys
  names_looked results keys =
      let wanted = with_keys [] keys in
      names_of-bind depth world (keys_of_results answers wanted [] results) (λ (l : List Key). Return (places_from (has_key l) 0 keys))
      ∙ append-nil (names_of depth world (keys_of_results answers wanted [] results))
      ∙ all_names wanted keys (same_one keys) [] results
