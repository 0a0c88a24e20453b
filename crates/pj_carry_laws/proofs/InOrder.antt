-- What a cache of format 1 becomes is in order.
use Rattle.std.proofs.Common.{◌≡◌, ℕ, zero, suc, ◌+◌, ◌<◌, Bool, true, false, cond, ◌&&◌, ◌||◌, inl, inr, List, [], ◌∷◌, ◌++◌, length, map, Option, Some, None, refl, sym, ap, subst, ◌∙◌, arith}
use Rattle.std.specs.Prelude.{◌⊎◌, nat_eq, if◌then◌else◌}
use Rattle.std.specs.List.{AllByRecursion, IsDistinct, flat_map}
use Rattle.std.specs.List.Sorted.{IsStrictlySortedBy}
use Rattle.std.specs.BTreeMap.{insert_entry, is_at}
use Rattle.std.specs.BTreeSet.{insert_key}
use Rattle.std.specs.Map.{lookup}
use Rattle.std.specs.Prelude.{is_some}
use Rattle.std.specs.Str.{is_utf8}
use Rattle.std.specs.Cmp.Lexicographic.{bytes_decides, nat_list_cmp_total, pointwise}
use Rattle.std.specs.declared.cmp.Ordering.{Ordering}
use Rattle.std.specs.declared.cmp.Ordering.TheVariants.{Less, Equal, Greater}
use Rattle.std.specs.Ordering.{is_eq, is_lt, match_ordering, ordering_reverse}
use Rattle.std.proofs.lemmas.Bool.{ltb-true}
use Rattle.std.proofs.lemmas.List.Concat.{flat_map-cons}
use Rattle.std.proofs.lemmas.List.Elements.{All-nil, All-from_recursion}
use Rattle.pj_format.specs.Fields.{Chain}
use Rattle.pj_names.specs.declared.answer.Answer.{Answer}
use Rattle.pj_names.specs.declared.answer.Answer.TheVariants as answers
use Rattle.pj_names.specs.ClassName.{Name, is_class_name}
use Rattle.pj_names.specs.Meaning.{found_in}
use Rattle.pj_reports.specs.declared.rows.FileRows.{FileRows}
use Rattle.pj_cache.specs.Found.{first_named}
use Rattle.pj_cache.specs.Places.{byte_order, member_at, place_in}
use Rattle.pj_cache.specs.declared.cache.KeyRows.{KeyRows}
use Rattle.pj_cache.specs.declared.cache.CachedResult.{CachedResult}
use Rattle.pj_cache.specs.declared.cache.Entry.{Entry}
use Rattle.pj_cache.specs.declared.cache.Cache.{Cache}
use Rattle.pj_cache.specs.declared.old.OldEntry.{OldEntry}
use Rattle.pj_cache.specs.declared.old.OldCache.{OldCache}
use Rattle.pj_cache_format.specs.FormatTwo.{names_of, results_of as all_results, with_more}
use Rattle.pj_cache_format.specs.Judges.{is_behind, is_path_behind}
use Rattle.pj_cache_format.specs.Ordered.{AreRowsInOrder, HasItsName, IsAnswerInOrder, IsInOrder, IsNameInOrder}
use Rattle.pj_old_format.specs.OrderedOne.{AreNamesInOrder, IsOldEntryInOrder, IsOldInOrder}
use Rattle.pj_old_format.proofs.Split.{old_answers_sorted}
use Rattle.pj_reuse.specs.Serving.{has_key}
use Rattle.pj_fitting.proofs.Among.{both_true}
use Rattle.pj_fitting.proofs.Lists.{all_joined, all_map}
use Rattle.pj_fitting.proofs.Named.{itself}
use Rattle.pj_fitting.proofs.Sets.{or_true, same_name}
use Rattle.pj_fitting.proofs.Sorted.{IsAscending, all_member, all_put, names_ascend}
use Rattle.pj_left_cache.specs.Bytes.{AreByBytes, AreByBytesAt, IsByBytes, first_key, shares_key}
use Rattle.pj_left_cache.proofs.ToOrder.{both_and, in_order}
use Rattle.pj_carry.specs.Form.{are_of_rules, lone_message}
use Rattle.pj_carry.specs.Carried.{First, Key, answers_for, cache_of, carried, carried_entries, carried_entry, entry_by, first_rules, key_rows, listed, results_of, with_rule, with_rules}
use Rattle.pj_carry.proofs.Firsts.{put_all}
use Rattle.pj_carry_laws.proofs.Ascending.{is_less, rows_order}

abbrev Pair : Type 0
Pair = Name × Answer

abbrev name_in : Pair → Name
name_in a = a.0

-- ---- keys of rules ascend

abbrev key_in : First → Key
key_in f = f.0

above_all : (k x : Key) (es : List First) → byte_order k x ≡ Less → AllByRecursion (λ (f : First). byte_order x f.0 ≡ Less) es → AllByRecursion (λ (f : First). byte_order k f.0 ≡ Less) es
above_all k x es less all = all_map (λ (f : First). byte_order x f.0 ≡ Less) (λ (f : First). byte_order k f.0 ≡ Less) es (λ f e. nat_list_cmp_total.trans k x f.0 less e) all

put_ascends : (es : List First) (k : Key) (v : ℕ) → IsAscending key_in es → IsAscending key_in (insert_entry byte_order es k v)
put_ascends [] k v up = (tt, tt)
put_ascends (e ∷ es) k v up = by_order (byte_order k e.0) refl (put_ascends es k v up.1) where
  tied : byte_order e.0 k ≡ Less → (f : First) → byte_order k f.0 ≡ Equal → byte_order e.0 f.0 ≡ Less
  tied less f is = ap (byte_order e.0) (sym (same_name k f.0 (ap is_eq is))) ∙ less

  by_order : (o : Ordering) → byte_order k e.0 ≡ o → IsAscending key_in (insert_entry byte_order es k v) → IsAscending key_in (match_ordering o ((k, v) ∷ e ∷ es) ((e.0, v) ∷ es) (e ∷ insert_entry byte_order es k v))
  by_order Less is rest = ((is, above_all k e.0 es is up.0), up)
  by_order Equal is rest = up
  by_order Greater is rest =
      let less : byte_order e.0 k ≡ Less = nat_list_cmp_total.antisymm e.0 k ∙ ap ordering_reverse is in
      (put_all (λ (f : First). byte_order e.0 f.0 ≡ Less) es k v (tied less) less up.0, rest)

rule_ascends : (held : List First) (k : Key) (v : ℕ) → IsAscending key_in held → IsAscending key_in (with_rule held k v)
rule_ascends held k v up = by_held (is_some (lookup (is_at (byte_order k)) held)) where
  by_held : (b : Bool) → IsAscending key_in (cond b held (insert_entry byte_order held k v))
  by_held true = up
  by_held false = put_ascends held k v up

rules_ascend : (held : List First) (rule : ℕ) (keys : List Key) → IsAscending key_in held → IsAscending key_in (with_rules held rule keys)
rules_ascend held rule [] up = up
rules_ascend held rule (key ∷ keys) up = rules_ascend (with_rule held key rule) (rule + 1) keys (rule_ascends held key rule up)

firsts_ascend : (keys : List Key) → IsAscending key_in (first_rules keys)
firsts_ascend keys = rules_ascend [] 0 keys tt

-- ---- names of classes

abbrev IsClass : Name → Type 0
IsClass n = (is_utf8 n && is_class_name n) ≡ true

strict_names : (xs : List Name) → IsAscending (λ (n : Name). n) xs → IsStrictlySortedBy byte_order xs
unfolding IsStrictlySortedBy
strict_names [] up = tt
strict_names (x ∷ xs) up = (up.0, strict_names xs up.1)

front_two : (a b c : Bool) → (a && (b && c)) ≡ true → (a && b) ≡ true
front_two true true c e = refl
front_two true false c e = absurd cc
front_two false b c e = absurd cc

answers_classes : (before : Option Name) (list : List Pair) → Chain IsAnswerInOrder (λ b (a : Pair). Some a.0) before list → AllByRecursion IsClass (map name_in list)
answers_classes before [] h = tt
answers_classes before (a ∷ rest) h = (front_two (is_utf8 a.0) (is_class_name a.0) (is_behind byte_order before a.0) h.0.0, answers_classes (Some a.0) rest h.1)

answers_named : (before : Option Name) (list : List Pair) → Chain IsAnswerInOrder (λ b (a : Pair). Some a.0) before list → AllByRecursion (λ (a : Pair). HasItsName a.0 a.1) list
answers_named before [] h = tt
answers_named before (a ∷ rest) h = (h.0.1, answers_named (Some a.0) rest h.1)

has_here : (x q : Name) (xs : List Name) → x ≡ q → has_key (x ∷ xs) q ≡ true
has_here x q xs e = ap (λ (b : Bool). b || has_key xs q) (ap (λ (z : Name). is_at (byte_order q) z) e ∙ itself q)

has_later : (x q : Name) (xs : List Name) → has_key xs q ≡ true → has_key (x ∷ xs) q ≡ true
has_later x q xs e = ap (λ (b : Bool). is_at (byte_order q) x || b) e ∙ or_true (is_at (byte_order q) x)

-- a member at a place is there
member_there : (list : List Name) (p : ℕ) (q : Name) → p < length list → member_at list p ≡ q → has_key list q ≡ true
member_there [] p q small e = absurd (omega (arith, small))
member_there (x ∷ xs) zero q small e = has_here x q xs e
member_there (x ∷ xs) (suc p) q small e = has_later x q xs (member_there xs p q (omega (arith, small)) e)

-- ---- answers

abbrev or_absent : Option Answer → Answer
or_absent None = answers.Absent
or_absent (Some answer) = answer

module _ (list : List Pair) where
  abbrev world : Name → Answer
  world name = or_absent (found_in list name)

named_by : (b : Bool) (a : Pair) (rest : Option Answer) (name : Name) → pointwise nat_eq a.0 name ≡ b → HasItsName a.0 a.1 → HasItsName name (or_absent rest) → HasItsName name (or_absent (cond b (Some a.1) rest))
named_by true a rest name is own others = subst (λ (n : Name). HasItsName n a.1) ((bytes_decides a.0 name).0 is) own
named_by false a rest name is own others = others

-- what stands under a name, or `Absent`, has that name
world_named : (list : List Pair) (name : Name) → AllByRecursion (λ (a : Pair). HasItsName a.0 a.1) list → HasItsName name (world list name)
world_named [] name all = tt
world_named (a ∷ rest) name all = named_by (pointwise nat_eq a.0 name) a (found_in rest name) name refl all.0 (world_named rest name all.1)

pair_by : (b : Bool) (a : Pair) (others : Option Pair) (rest : Option Answer) (name : Name) → pointwise nat_eq a.0 name ≡ b → (b ≡ false → others ≡ Some (name, or_absent rest)) → cond b (Some a) others ≡ Some (name, or_absent (cond b (Some a.1) rest))
pair_by true a others rest name is later = ap (λ (n : Name). let p : Option Pair = Some (n, a.1) in p) ((bytes_decides a.0 name).0 is)
pair_by false a others rest name is later = later refl

other_key : (x q : Name) (b : Bool) (t : Bool) → pointwise nat_eq x q ≡ b → b ≡ false → is_at (byte_order q) x ≡ t → t ≡ false
other_key x q b false is apart at = refl
other_key x q b true is apart at =
    let same : q ≡ x = same_name q x at in
    let never : true ≡ false = sym ((bytes_decides x q).1 (sym same)) ∙ is ∙ apart in absurd cc

not_first : (x q : Name) (xs : List Name) → pointwise nat_eq x q ≡ false → has_key (x ∷ xs) q ≡ true → has_key xs q ≡ true
not_first x q xs apart there = sym (ap (λ (b : Bool). b || has_key xs q) (other_key x q (pointwise nat_eq x q) (is_at (byte_order q) x) refl apart refl)) ∙ there

-- the answer for a name that is there
pair_there : (list : List Pair) (name : Name) → has_key (map name_in list) name ≡ true → first_named name_in list name ≡ Some (name, world list name)
pair_there [] name there = absurd cc
pair_there (a ∷ rest) name there =
    pair_by (pointwise nat_eq a.0 name) a (first_named name_in rest name) (found_in rest name) name refl (λ apart. pair_there rest name (not_first a.0 name (map name_in rest) apart there))

pairs_there : (list : List Pair) (names : List Name) → AllByRecursion (λ n. has_key (map name_in list) n ≡ true) names → answers_for list names ≡ map (λ (n : Name). (n, world list n)) names
pairs_there list [] all = refl
pairs_there list (n ∷ ns) all =
    flat_map-cons (λ (name : Name). listed (first_named name_in list name)) n ns
    ∙ ap (λ (o : Option Pair). listed o ++ answers_for list ns) (pair_there list n all.0)
    ∙ ap (λ (l : List Pair). (n, world list n) ∷ l) (pairs_there list ns all.1)

all_more : (P : Name → Type 0) (held xs : List Name) → AllByRecursion P held → AllByRecursion P xs → AllByRecursion P (with_more held xs)
all_more P held [] all more = all
all_more P held (x ∷ xs) all more = all_more P (insert_key byte_order held x) xs (all_put P x held more.0 all) more.1

-- ---- entries

module _ (names : List Name) (ascending : IsStrictlySortedBy byte_order names) (classes : AllByRecursion IsClass names) (firsts : List First) (up : IsAscending key_in firsts) where
  names_classes : (before : Option ℕ) (list : List Name) → Chain (IsNameInOrder names) (λ b (n : Name). Some (place_in names n)) before list → AllByRecursion IsClass list
  names_classes before [] h = tt
  names_classes before (n ∷ ns) h =
      let small : place_in names n < length names = ltb-true (place_in names n) (length names) (both_true _ _ h.0.0).0 in
      (subst IsClass h.0.1 (all_member IsClass names (place_in names n) classes small), names_classes (Some (place_in names n)) ns h.1)

  names_there : (before : Option ℕ) (list : List Name) → Chain (IsNameInOrder names) (λ b (n : Name). Some (place_in names n)) before list → AllByRecursion (λ n. has_key names n ≡ true) list
  names_there before [] h = tt
  names_there before (n ∷ ns) h =
      let small : place_in names n < length names = ltb-true (place_in names n) (length names) (both_true _ _ h.0.0).0 in
      (member_there names (place_in names n) n small h.0.1, names_there (Some (place_in names n)) ns h.1)

  -- the group of all keys

  group_keys : (r : FileRows) (fs : List First) → map (λ (k : KeyRows). k.key) (map (key_rows r) fs) ≡ map key_in fs
  group_keys r [] = refl
  group_keys r (f ∷ fs) = ap (λ (l : List Key). f.0 ∷ l) (group_keys r fs)

  all_over : (P : Key → Type 0) (fs : List First) → AllByRecursion (λ (f : First). P f.0) fs → AllByRecursion P (map key_in fs)
  all_over P [] all = tt
  all_over P (f ∷ fs) all = (all.0, all_over P fs all.1)

  keys_sorted : (fs : List First) → IsAscending key_in fs → IsStrictlySortedBy byte_order (map key_in fs)
  unfolding IsStrictlySortedBy
  keys_sorted [] rise = tt
  keys_sorted (f ∷ fs) rise = (all_over (λ k. byte_order f.0 k ≡ Less) fs rise.0, keys_sorted fs rise.1)

  group_rows : (r : FileRows) (fs : List First) → are_of_rules r ≡ true → AllByRecursion (λ (k : KeyRows). AreRowsInOrder k.rows) (map (key_rows r) fs)
  group_rows r [] of = tt
  group_rows r (f ∷ fs) of = (rows_order r f.1 of, group_rows r fs of)

  by_bytes : (r : FileRows) (asked : List Name) (f : First) (fs : List First) → IsAscending key_in (f ∷ fs) → are_of_rules r ≡ true → AreNamesInOrder names asked → IsByBytes (record { group = map (key_rows r) (f ∷ fs); names = asked })
  by_bytes r asked f fs rise of chain = record {
    some = omega arith;
    keys = subst (λ (l : List Key). IsStrictlySortedBy byte_order l) (sym (group_keys r (f ∷ fs))) (keys_sorted (f ∷ fs) rise);
    names = strict_names asked (names_ascend names ascending None asked chain);
    classes = All-from_recursion IsClass asked (names_classes None asked chain);
    rows = All-from_recursion (λ (k : KeyRows). AreRowsInOrder k.rows) (map (key_rows r) (f ∷ fs)) (group_rows r (f ∷ fs) of);
  }

  alone_first : (r : CachedResult) → IsStrictlySortedBy byte_order (map first_key (r ∷ []))
  unfolding IsStrictlySortedBy
  alone_first r = (tt, tt)

  alone_once : (r : CachedResult) → IsDistinct shares_key (r ∷ [])
  unfolding IsDistinct
  alone_once r = (tt, tt)

  none_first : IsStrictlySortedBy byte_order (map first_key [])
  unfolding IsStrictlySortedBy
  none_first = tt

  none_once : IsDistinct shares_key []
  unfolding IsDistinct
  none_once = tt

  results_by : (r : FileRows) (asked : List Name) (fs : List First) → IsAscending key_in fs → are_of_rules r ≡ true → AreNamesInOrder names asked → AreByBytes (results_of fs r asked)
  results_by r asked [] rise of chain = record { each = All-nil IsByBytes; first = none_first; once = none_once }
  results_by r asked (f ∷ fs) rise of chain =
      let one : CachedResult = record { group = map (key_rows r) (f ∷ fs); names = asked } in
      record { each = All-from_recursion IsByBytes (one ∷ []) (by_bytes r asked f fs rise of chain, tt); first = alone_first one; once = alone_once one }

  -- What is known of what an entry becomes: its path is the old one, its results stand by bytes, and their names are those of answers.
  record IsCarried (e : OldEntry) (x : Entry) : Type 0 where
    path : x.path ≡ e.path
    by : AreByBytesAt x.head x.results
    there : AllByRecursion (λ (r : CachedResult). AllByRecursion (λ n. has_key names n ≡ true) r.names) x.results

  results_there : (r : FileRows) (asked : List Name) (fs : List First) → AreNamesInOrder names asked → AllByRecursion (λ (s : CachedResult). AllByRecursion (λ n. has_key names n ≡ true) s.names) (results_of fs r asked)
  results_there r asked [] chain = tt
  results_there r asked (f ∷ fs) chain = (names_there None asked chain, tt)

  entry_is : (e : OldEntry) (message : Option (List ℕ)) (b : Bool) → are_of_rules e.rows ≡ b → AreNamesInOrder names e.names → AllByRecursion (IsCarried e) (listed (entry_by firsts e message b))
  entry_is e (Some message) b of chain = (record { path = refl; by = refl; there = tt }, tt)
  entry_is e None true of chain = (record { path = refl; by = results_by e.rows e.names firsts up of chain; there = results_there e.rows e.names firsts chain }, tt)
  entry_is e None false of chain = tt

  one_is : (e : OldEntry) → AreNamesInOrder names e.names → AllByRecursion (IsCarried e) (listed (carried_entry firsts e))
  one_is e chain = entry_is e (lone_message e.rows) (are_of_rules e.rows) refl chain

  -- ---- paths

  abbrev Paths : Option (List ℕ) → List Entry → Type 0
  Paths before es = Chain (λ b (e : Entry). is_path_behind b e.path ≡ true) (λ b e. Some e.path) before es

  -- a path that stands before the one of another entry, or is that
  abbrev IsLow : Option (List ℕ) → Option (List ℕ) → Type 0
  IsLow None before = Unit {0}
  IsLow (Some low) None = ⊥
  IsLow (Some low) (Some before) = (low ≡ before) ⊎ (byte_order low before ≡ Less)

  less_than : (low before path : List ℕ) → (low ≡ before) ⊎ (byte_order low before ≡ Less) → byte_order before path ≡ Less → byte_order low path ≡ Less
  less_than low before path (inl e) less = ap (λ (l : List ℕ). byte_order l path) e ∙ less
  less_than low before path (inr below) less = nat_list_cmp_total.trans low before path below less

  behind_low : (low before : Option (List ℕ)) (path : List ℕ) → IsLow low before → is_path_behind before path ≡ true → is_path_behind low path ≡ true
  behind_low None before path is h = both_and (is_utf8 path) true (both_true (is_utf8 path) _ h).0 refl
  behind_low (Some low) None path is h = absurd is
  behind_low (Some low) (Some before) path is h =
      let parts = both_true (is_utf8 path) (is_lt (byte_order before path)) h in
      both_and (is_utf8 path) (is_lt (byte_order low path)) parts.0 (ap is_lt (less_than low before path is (is_less (byte_order before path) parts.1)))

  next_low : (low before : Option (List ℕ)) (path : List ℕ) → IsLow low before → is_path_behind before path ≡ true → IsLow low (Some path)
  next_low None before path is h = tt
  next_low (Some low) None path is h = absurd is
  next_low (Some low) (Some before) path is h =
      let parts = both_true (is_utf8 path) (is_lt (byte_order before path)) h in
      inr (less_than low before path is (is_less (byte_order before path) parts.1))

  paths_with : (o : Option Entry) (low before : Option (List ℕ)) (e : OldEntry) (rest : List Entry) → AllByRecursion (IsCarried e) (listed o) → IsLow low before → is_path_behind before e.path ≡ true → ((next : Option (List ℕ)) → IsLow next (Some e.path) → Paths next rest) → Paths low (listed o ++ rest)
  paths_with None low before e rest all is h later = later low (next_low low before e.path is h)
  paths_with (Some x) low before e rest all is h later =
      let path : x.path ≡ e.path = all.0.path in
      (subst (λ (p : List ℕ). is_path_behind low p ≡ true) (sym path) (behind_low low before e.path is h), later (Some x.path) (inl path))

  paths_are : (low before : Option (List ℕ)) (es : List OldEntry) → IsLow low before → Chain (IsOldEntryInOrder names) (λ b (e : OldEntry). Some e.path) before es → Paths low (carried_entries firsts es)
  paths_are low before [] is chain = tt
  paths_are low before (e ∷ es) is chain =
      subst (λ (l : List Entry). Paths low l) (sym (flat_map-cons (λ (x : OldEntry). listed (carried_entry firsts x)) e es))
      (paths_with (carried_entry firsts e) low before e (carried_entries firsts es) (one_is e chain.0.1) is chain.0.0
      (λ next is_next. paths_are next (Some e.path) es is_next chain.1))

  -- ---- all entries

  each_is : (P : Entry → Type 0) (before : Option (List ℕ)) (es : List OldEntry) → ((e : OldEntry) (x : Entry) → IsCarried e x → P x) → Chain (IsOldEntryInOrder names) (λ b (e : OldEntry). Some e.path) before es → AllByRecursion P (carried_entries firsts es)
  each_is P before es so chain = all_joined P (λ (e : OldEntry). listed (carried_entry firsts e)) es (each before es chain) where
    each : (b : Option (List ℕ)) (ys : List OldEntry) → Chain (IsOldEntryInOrder names) (λ c (e : OldEntry). Some e.path) b ys → AllByRecursion (λ (e : OldEntry). AllByRecursion P (listed (carried_entry firsts e))) ys
    each b [] h = tt
    each b (y ∷ ys) h = (all_map (IsCarried y) P (listed (carried_entry firsts y)) (so y) (one_is y h.0.1), each (Some y.path) ys h.1)

-- ---- the cache

whole_in_order : (old : OldCache) (keys : List Key) → IsOldInOrder old → IsInOrder (cache_of old.answers (carried_entries (first_rules keys) old.entries))
whole_in_order old keys o =
    let names : List Name = map name_in old.answers in
    let firsts : List First = first_rules keys in
    let es : List Entry = carried_entries firsts old.entries in
    let ascending : IsStrictlySortedBy byte_order names = old_answers_sorted old o in
    let classes : AllByRecursion IsClass names = answers_classes None old.answers o.answers in
    let up : IsAscending key_in firsts = firsts_ascend keys in
    let by : AllByRecursion (λ (e : Entry). AreByBytesAt e.head e.results) es = each_is names ascending classes firsts up (λ (e : Entry). AreByBytesAt e.head e.results) None old.entries (λ e x is. is.by) o.entries in
    let there : AllByRecursion (λ (e : Entry). AllByRecursion (λ (r : CachedResult). AllByRecursion (λ n. has_key names n ≡ true) r.names) e.results) es =
    each_is names ascending classes firsts up (λ (e : Entry). AllByRecursion (λ (r : CachedResult). AllByRecursion (λ n. has_key names n ≡ true) r.names) e.results) None old.entries (λ e x is. is.there) o.entries in
    let paths : Chain (λ b (e : Entry). is_path_behind b e.path ≡ true) (λ b e. Some e.path) None es = paths_are names ascending classes firsts up None None old.entries tt o.entries in
    let raw : AllByRecursion (λ n. has_key names n ≡ true) (flat_map (λ (r : CachedResult). r.names) (all_results es)) =
    all_joined (λ n. has_key names n ≡ true) (λ (r : CachedResult). r.names) (all_results es)
    (all_joined (λ (r : CachedResult). AllByRecursion (λ n. has_key names n ≡ true) r.names) (λ (e : Entry). e.results) es there) in
    let all_there : AllByRecursion (λ n. has_key names n ≡ true) (names_of es) = all_more (λ n. has_key names n ≡ true) [] (flat_map (λ (r : CachedResult). r.names) (all_results es)) tt raw in
    let named : AllByRecursion (λ (n : Name). HasItsName n (world old.answers n)) (names_of es) = each_named old.answers (names_of es) (answers_named None old.answers o.answers) in
    subst (λ (l : List Pair). IsInOrder (record { answers = l; entries = es })) (sym (pairs_there old.answers (names_of es) all_there))
    (in_order (world old.answers) es named paths by)
  where
    each_named : (list : List Pair) (ns : List Name) → AllByRecursion (λ (a : Pair). HasItsName a.0 a.1) list → AllByRecursion (λ (n : Name). HasItsName n (world list n)) ns
    each_named list [] all = tt
    each_named list (n ∷ ns) all = (world_named list n all, each_named list ns all)

abbrev no_entries : Cache
no_entries = record { answers = []; entries = [] }

no_world : Name → Answer
no_world name = answers.Absent

none_in_order : IsInOrder no_entries
none_in_order = in_order no_world [] tt tt tt

pub carried_in_order : (old : OldCache) (key : List ℕ) (keys : List Key) → IsOldInOrder old → IsInOrder (carried old key keys)
carried_in_order old key keys o = by_key (pointwise nat_eq old.rules key) where
  by_key : (b : Bool) → IsInOrder (if b then cache_of old.answers (carried_entries (first_rules keys) old.entries) else no_entries)
  by_key true = whole_in_order old keys o
  by_key false = none_in_order
