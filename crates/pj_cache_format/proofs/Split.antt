-- A cache is whole where it is in order and fits the fields of a text.
use Rattle.std.proofs.Common.{◌≡◌, ℕ, ◌<◌, ◌^◌, true, ltb, List, [], ◌∷◌, length, map, Option, Some, None, refl, sym, ap, subst, ◌∙◌, arith}
use Rattle.std.specs.Prelude.{nat_eq, flat_map}
use Rattle.std.specs.List.{AllByRecursion}
use Rattle.std.specs.List.Sorted.{IsStrictlySortedBy}
use Rattle.std.specs.BTreeSet.{insert_key}
use Rattle.std.specs.Cmp.Lexicographic.{pointwise, bytes_decides, nat_list_cmp_total}
use Rattle.std.specs.declared.cmp.Ordering.{Ordering}
use Rattle.std.specs.declared.cmp.Ordering.TheVariants.{Less, Equal, Greater}
use Rattle.std.specs.Str.{is_utf8}
use Rattle.std.specs.Ordering.{is_lt, nat_cmp, match_ordering, ordering_reverse}
use Rattle.std.proofs.lemmas.Bool.{ltb-true}
use Rattle.std.proofs.lemmas.List.{length-map}
use Rattle.std.proofs.lemmas.List.Elements.{All-from_recursion, recursion_from_All, All-nil}
use Rattle.pj_format.specs.Fields.{Chain, Along}
use Rattle.pj_names.specs.declared.answer.Answer.{Answer}
use Rattle.pj_names.specs.declared.answer.Answer.TheVariants as answers
use Rattle.pj_names.specs.declared.answer.ClassInfo.{ClassInfo}
use Rattle.pj_names.specs.ClassName.{Name, is_class_name}
use Rattle.pj_reports.specs.declared.ruled.Head.{Head}
use Rattle.pj_reports.specs.declared.ruled.Head.TheVariants as heads
use Rattle.pj_reports.specs.declared.ruled.Ruled.{Ruled}
use Rattle.pj_reports.specs.declared.ruled.Ruled.TheVariants as ruled
use Rattle.pj_reports.specs.declared.ruled.Spot.{Spot}
use Rattle.pj_cache.specs.declared.cache.KeyRows.{KeyRows}
use Rattle.pj_cache.specs.declared.cache.CachedResult.{CachedResult}
use Rattle.pj_cache.specs.declared.cache.Entry.{Entry}
use Rattle.pj_cache.specs.declared.cache.Cache.{Cache}
use Rattle.pj_cache.specs.Places.{byte_order, place_in}
use Rattle.pj_cache_format.specs.Judges.{is_behind}
use Rattle.pj_cache_format.specs.FormatTwo.{is_key_place, is_name_place, with_more, keys_of, names_of, is_same_list, are_named}
use Rattle.pj_cache_format.specs.Fitting.{HasRoom, AllFit, FitsMember, FitsClass, FitsAnswer, FitsNamed, FitsSpot, FitsRows, FitsKeyRows, FitsResult, FitsEntry, FitsFields}
use Rattle.pj_cache_format.specs.Ordered.{HasItsName, IsAnswerInOrder, AreRowsInOrder, places_of, IsKeyInOrder, IsNameInOrder, IsResultInOrder, result_step, AreResultsInOrder, IsEntryInOrder, IsInOrder}
use Rattle.pj_cache_format.proofs.Whole.{IsClass, IsAnswerFor, IsAnswerBehind, AreAnswers}
use Rattle.pj_cache_format.proofs.WholeTwo.{IsSpotBehind, AreRows, IsKeyBehind, AreKeys, AreKeyRows, IsNameBehind, IsResultBehind, AreResults, IsEntryBehind, IsWhole}
use Rattle.pj_cache_format.proofs.AnswerLaws.{both_true}
use Rattle.pj_cache_format.proofs.CacheLaws.{same_lists}
use Rattle.pj_cache_format.proofs.Order.{AreBehind, behind_sorted}

-- ---- facts along a list, and facts of each member

pub chain_both : {A S : Type 0} (P : S → A → Type 0) (Q : A → Type 0) (R : S → A → Type 0) (step : S → A → S) (s : S) (xs : List A) → ((z : S) (x : A) → P z x → Q x → R z x) → Chain P step s xs → AllByRecursion Q xs → Chain R step s xs
chain_both P Q R step s [] both p q = tt
chain_both P Q R step s (x ∷ xs) both p q = (both s x p.0 q.0, chain_both P Q R step (step s x) xs both p.1 q.1)

pub chain_as : {A S : Type 0} (P R : S → A → Type 0) (step : S → A → S) (s : S) (xs : List A) → ((z : S) (x : A) → P z x → R z x) → Chain P step s xs → Chain R step s xs
chain_as P R step s [] as_is p = tt
chain_as P R step s (x ∷ xs) as_is p = (as_is s x p.0, chain_as P R step (step s x) xs as_is p.1)

pub chain_each : {A S : Type 0} (R : S → A → Type 0) (Q : A → Type 0) (step : S → A → S) (s : S) (xs : List A) → ((z : S) (x : A) → R z x → Q x) → Chain R step s xs → AllByRecursion Q xs
chain_each R Q step s [] of_each r = tt
chain_each R Q step s (x ∷ xs) of_each r = (of_each s x r.0, chain_each R Q step (step s x) xs of_each r.1)

-- ---- answers

class_from : (c : ClassInfo) → FitsClass c → IsClass c
class_from c f = (f.0, f.1, (f.2.0, recursion_from_All FitsMember c.fields f.2.1), (f.3.0, recursion_from_All FitsMember c.methods f.3.1))

class_fits : (c : ClassInfo) → IsClass c → FitsClass c
class_fits c f = (f.0, f.1, (f.2.0, All-from_recursion FitsMember c.fields f.2.1), (f.3.0, All-from_recursion FitsMember c.methods f.3.1))

answer_from : (name : Name) (a : Answer) → HasItsName name a → FitsAnswer a → IsAnswerFor name a
answer_from name answers.Absent o f = tt
answer_from name (answers.Found class) o f = (o, class_from class f)
answer_from name (answers.Broken what) o f = f

answer_order : (name : Name) (a : Answer) → IsAnswerFor name a → HasItsName name a
answer_order name answers.Absent h = tt
answer_order name (answers.Found class) h = h.0
answer_order name (answers.Broken what) h = tt

answer_fits : (name : Name) (a : Answer) → IsAnswerFor name a → FitsAnswer a
answer_fits name answers.Absent h = tt
answer_fits name (answers.Found class) h = class_fits class h.1
answer_fits name (answers.Broken what) h = h

abbrev pub name_step : Option Name → Name × Answer → Option Name
name_step before a = Some a.0

pub answers_from : (list : List (Name × Answer)) → Chain IsAnswerInOrder name_step None list → AllFit FitsNamed list → AreAnswers list
answers_from list o f = (f.0, chain_both IsAnswerInOrder FitsNamed IsAnswerBehind name_step None list (λ before a p q. (q.0, p.0, answer_from a.0 a.1 p.1 q.1)) o (recursion_from_All FitsNamed list f.1))

pub answers_order : (list : List (Name × Answer)) → AreAnswers list → Chain IsAnswerInOrder name_step None list
answers_order list h = chain_as IsAnswerBehind IsAnswerInOrder name_step None list (λ before a r. (r.1, answer_order a.0 a.1 r.2)) h.1

pub answers_fit : (list : List (Name × Answer)) → AreAnswers list → AllFit FitsNamed list
answers_fit list h = (h.0, All-from_recursion FitsNamed list (chain_each IsAnswerBehind FitsNamed name_step None list (λ before a r. (r.0, answer_fits a.0 a.1 r.2)) h.1))

pub answers_behind : (before : Option Name) (list : List (Name × Answer)) → Chain IsAnswerInOrder name_step before list → AreBehind before (map (λ (a : Name × Answer). a.0) list)
answers_behind before [] h = tt
answers_behind before (a ∷ rest) h =
    let two = both_true (is_utf8 a.0) _ h.0.0 in
    let three = both_true (is_class_name a.0) (is_behind byte_order before a.0) two.1 in
    (three.1, answers_behind (Some a.0) rest h.1)

-- ---- what rules come to

abbrev SpotOrder : Option ℕ → Spot → Type 0
SpotOrder before s = is_behind nat_cmp before s.node ≡ true

abbrev spot_step : Option ℕ → Spot → Option ℕ
spot_step before s = Some s.node

rows_from : (r : Ruled) → AreRowsInOrder r → FitsRows r → AreRows r
rows_from (ruled.Spots spots) o f = (f.0, chain_both SpotOrder FitsSpot IsSpotBehind spot_step None spots (λ before s p q. (q.0, p, q.1, q.2)) o (recursion_from_All FitsSpot spots f.1))
rows_from (ruled.Message message) o f = f

rows_order : (r : Ruled) → AreRows r → AreRowsInOrder r
rows_order (ruled.Spots spots) h = chain_as IsSpotBehind SpotOrder spot_step None spots (λ before s r. r.1) h.1
rows_order (ruled.Message message) h = tt

rows_fit : (r : Ruled) → AreRows r → FitsRows r
rows_fit (ruled.Spots spots) h = (h.0, All-from_recursion FitsSpot spots (chain_each IsSpotBehind FitsSpot spot_step None spots (λ before s r. (r.0, r.2, r.3)) h.1))
rows_fit (ruled.Message message) h = h

-- ---- results

group_from : (keys : List (List ℕ)) (g : List KeyRows) → AllByRecursion (IsKeyInOrder keys) g → AllByRecursion FitsKeyRows g → Along (AreKeyRows keys) (map (λ (k : KeyRows). place_in keys k.key) g) g
group_from keys [] o f = tt
group_from keys (k ∷ ks) o f = ((o.0.0, rows_from k.rows o.0.1 f.0), group_from keys ks o.1 f.1)

group_order : (keys : List (List ℕ)) (g : List KeyRows) → Along (AreKeyRows keys) (map (λ (k : KeyRows). place_in keys k.key) g) g → AllByRecursion (IsKeyInOrder keys) g
group_order keys [] h = tt
group_order keys (k ∷ ks) h = ((h.0.0, rows_order k.rows h.0.1), group_order keys ks h.1)

group_fits : (keys : List (List ℕ)) (g : List KeyRows) → Along (AreKeyRows keys) (map (λ (k : KeyRows). place_in keys k.key) g) g → AllByRecursion FitsKeyRows g
group_fits keys [] h = tt
group_fits keys (k ∷ ks) h = (rows_fit k.rows h.0.1, group_fits keys ks h.1)

abbrev PlaceOrder : ℕ → List ℕ → Option ℕ → ℕ → Type 0
PlaceOrder count used before place = is_key_place count used before place ≡ true

abbrev PlaceBehind : ℕ → List ℕ → Option ℕ → ℕ → Type 0
PlaceBehind count used before place = (place < 2 ^ 32) × (is_key_place count used before place ≡ true)

abbrev place_step : Option ℕ → ℕ → Option ℕ
place_step before place = Some place

key_place_small : (count : ℕ) (used : List ℕ) (before : Option ℕ) (place : ℕ) → count < 2 ^ 32 → is_key_place count used before place ≡ true → place < 2 ^ 32
key_place_small count used before place room e =
    let there : place < count = ltb-true place count (both_true (ltb place count) _ e).0 in
    omega (arith, there, room)

pub name_place_small : (count : ℕ) (before : Option ℕ) (place : ℕ) → count < 2 ^ 32 → is_name_place count before place ≡ true → place < 2 ^ 32
name_place_small count before place room e =
    let there : place < count = ltb-true place count (both_true (ltb place count) _ e).0 in
    omega (arith, there, room)

abbrev ResultState : Type 0
ResultState = Option ℕ × List ℕ

module _ (keys : List (List ℕ)) (names : List Name) where
  abbrev named_step : Option ℕ → Name → Option ℕ
  named_step before name = Some (place_in names name)

  result_from : HasRoom keys → HasRoom names → (state : ResultState) (r : CachedResult) → IsResultInOrder keys names state r → FitsResult r → IsResultBehind keys names state r
  result_from lk ln state r o f =
      let long : length (places_of keys r) ≡ length r.group = length-map r.group (λ (k : KeyRows). place_in keys k.key) in
      let room : length (places_of keys r) < 2 ^ 32 = omega (arith, long, f.0.0) in
      let places = chain_as (PlaceOrder (length keys) state.1) (PlaceBehind (length keys) state.1) place_step state.0 (places_of keys r) (λ before place p. (key_place_small (length keys) state.1 before place lk p, p)) o.0.1 in
      let asked = chain_as (IsNameInOrder names) (IsNameBehind names) named_step None r.names (λ before name p. (name_place_small (length names) before (place_in names name) ln p.0, p.0, p.1)) o.1 in
      ((room, o.0.0, places), (f.1, asked), group_from keys r.group (recursion_from_All (IsKeyInOrder keys) r.group o.2) (recursion_from_All FitsKeyRows r.group f.0.1))

  result_order : (state : ResultState) (r : CachedResult) → IsResultBehind keys names state r → IsResultInOrder keys names state r
  result_order state r h =
      let places = chain_as (PlaceBehind (length keys) state.1) (PlaceOrder (length keys) state.1) place_step state.0 (places_of keys r) (λ before place p. p.1) h.0.2 in
      let asked = chain_as (IsNameBehind names) (IsNameInOrder names) named_step None r.names (λ before name p. (p.1, p.2)) h.1.1 in
      ((h.0.1, places), asked, All-from_recursion (IsKeyInOrder keys) r.group (group_order keys r.group h.2))

  result_fits : (state : ResultState) (r : CachedResult) → IsResultBehind keys names state r → FitsResult r
  result_fits state r h =
      let long : length (places_of keys r) ≡ length r.group = length-map r.group (λ (k : KeyRows). place_in keys k.key) in
      let room : length r.group < 2 ^ 32 = omega (arith, long, h.0.0) in
      ((room, All-from_recursion FitsKeyRows r.group (group_fits keys r.group h.2)), h.1.0)

  results_from : HasRoom keys → HasRoom names → (h : Head) (rs : List CachedResult) → AreResultsInOrder keys names h rs → AllFit FitsResult rs → AreResults keys names h rs
  results_from lk ln (heads.Package package_name) rs o f = (f.0, chain_both (IsResultInOrder keys names) FitsResult (IsResultBehind keys names) (result_step keys) (None, []) rs (result_from lk ln) o (recursion_from_All FitsResult rs f.1))
  results_from lk ln (heads.Message message) rs o f = o

  results_order : (h : Head) (rs : List CachedResult) → AreResults keys names h rs → AreResultsInOrder keys names h rs
  results_order (heads.Package package_name) rs h = chain_as (IsResultBehind keys names) (IsResultInOrder keys names) (result_step keys) (None, []) rs result_order h.1
  results_order (heads.Message message) rs h = h

  no_results : AllFit FitsResult []
  no_results = (omega arith, All-nil FitsResult)

  results_fit : (h : Head) (rs : List CachedResult) → AreResults keys names h rs → AllFit FitsResult rs
  results_fit (heads.Package package_name) rs h = (h.0, All-from_recursion FitsResult rs (chain_each (IsResultBehind keys names) FitsResult (result_step keys) (None, []) rs result_fits h.1))
  results_fit (heads.Message message) rs h = subst (λ (l : List CachedResult). AllFit FitsResult l) (sym h) no_results

  abbrev path_step : Option (List ℕ) → Entry → Option (List ℕ)
  path_step before e = Some e.path

  entries_from : HasRoom keys → HasRoom names → (es : List Entry) → Chain (IsEntryInOrder keys names) path_step None es → AllFit FitsEntry es → Chain (IsEntryBehind keys names) path_step None es
  entries_from lk ln es o f = chain_both (IsEntryInOrder keys names) FitsEntry (IsEntryBehind keys names) path_step None es (λ before e p q. ((q.0, p.0), q.1, q.2, results_from lk ln e.head e.results p.1 q.3)) o (recursion_from_All FitsEntry es f.1)

  entries_order : (es : List Entry) → Chain (IsEntryBehind keys names) path_step None es → Chain (IsEntryInOrder keys names) path_step None es
  entries_order es h = chain_as (IsEntryBehind keys names) (IsEntryInOrder keys names) path_step None es (λ before e r. (r.0.1, results_order e.head e.results r.3)) h

  entries_fit : (es : List Entry) → Chain (IsEntryBehind keys names) path_step None es → AllByRecursion FitsEntry es
  entries_fit es h = chain_each (IsEntryBehind keys names) FitsEntry path_step None es (λ before e r. (r.0.0, r.1, r.2, results_fit e.head e.results r.3)) h

  paths_behind : (before : Option (List ℕ)) (es : List Entry) → Chain (IsEntryInOrder keys names) path_step before es → AreBehind before (map (λ (e : Entry). e.path) es)
  paths_behind before [] h = tt
  paths_behind before (e ∷ es) h =
      let two = both_true (is_utf8 e.path) (is_behind byte_order before e.path) h.0.0 in
      (two.1, paths_behind (Some e.path) es h.1)

-- ---- keys, which stand in order

inserted_by : (before : Option (List ℕ)) (k x : List ℕ) (xs more : List (List ℕ)) (o : Ordering) → byte_order k x ≡ o → is_behind byte_order before k ≡ true → AreBehind before (x ∷ xs) → (is_behind byte_order (Some x) k ≡ true → AreBehind (Some x) more)
    → AreBehind before (match_ordering o (k ∷ x ∷ xs) (x ∷ xs) (x ∷ more))
inserted_by before k x xs more Less e first all rest = (first, (ap is_lt e, all.1))
inserted_by before k x xs more Equal e first all rest = all
inserted_by before k x xs more Greater e first all rest =
    let above : byte_order x k ≡ Less = nat_list_cmp_total.antisymm x k ∙ ap ordering_reverse e in
    (all.0, rest (ap is_lt above))

inserted : (before : Option (List ℕ)) (k : List ℕ) (xs : List (List ℕ)) → is_behind byte_order before k ≡ true → AreBehind before xs → AreBehind before (insert_key byte_order xs k)
inserted before k [] first all = (first, tt)
inserted before k (x ∷ xs) first all = inserted_by before k x xs (insert_key byte_order xs k) (byte_order k x) refl first all (λ above. inserted (Some x) k xs above all.1)

more_behind : (held xs : List (List ℕ)) → AreBehind None held → AreBehind None (with_more held xs)
more_behind held [] h = h
more_behind held (x ∷ xs) h = more_behind (insert_key byte_order held x) xs (inserted None x held refl h)

abbrev KeyOrder : Option (List ℕ) → List ℕ → Type 0
KeyOrder before key = is_behind byte_order before key ≡ true

abbrev key_step : Option (List ℕ) → List ℕ → Option (List ℕ)
key_step before key = Some key

keys_chain : (before : Option (List ℕ)) (ks : List (List ℕ)) → AreBehind before ks → Chain KeyOrder key_step before ks
keys_chain before [] h = tt
keys_chain before (k ∷ ks) h = (h.0, keys_chain (Some k) ks h.1)

abbrev KeyFits : List ℕ → Type 0
KeyFits key = HasRoom key

keys_from : (es : List Entry) → AllFit KeyFits (keys_of es) → AreKeys (keys_of es)
keys_from es f = (f.0, chain_both KeyOrder KeyFits IsKeyBehind key_step None (keys_of es) (λ before key p q. (q, p)) (keys_chain None (keys_of es) (more_behind [] (flat_map (λ (r : CachedResult). map (λ (k : KeyRows). k.key) r.group) (flat_map (λ (e : Entry). e.results) es)) tt)) (recursion_from_All KeyFits (keys_of es) f.1))

keys_fit : (es : List Entry) → AreKeys (keys_of es) → AllFit KeyFits (keys_of es)
keys_fit es h = (h.0, All-from_recursion KeyFits (keys_of es) (chain_each IsKeyBehind KeyFits key_step None (keys_of es) (λ before key r. r.0) h.1))

-- ---- what is named

pub itself : (xs : List (List ℕ)) → is_same_list xs xs ≡ true
itself [] = refl
itself (x ∷ xs) = rw ((bytes_decides x x).1 refl) (itself xs)

abbrev named : Cache → List Name
named c = map (λ (a : Name × Answer). a.0) c.answers

named_from : (c : Cache) → names_of c.entries ≡ named c → are_named (keys_of c.entries) c.answers c.entries ≡ true
named_from c e =
    let same : is_same_list (named c) (names_of c.entries) ≡ true = subst (λ (l : List Name). is_same_list (named c) l ≡ true) (sym e) (itself (named c)) in
    rw (itself (keys_of c.entries)) same

-- ---- caches

pub whole_from : (c : Cache) → IsInOrder c → FitsFields c → IsWhole c
whole_from c o f =
    let names_room : length (named c) < 2 ^ 32 = omega (arith, length-map c.answers (λ (a : Name × Answer). a.0), f.answers.0) in
    record {
      keys = keys_from c.entries f.keys;
      answers = answers_from c.answers o.answers f.answers;
      room = f.entries.0;
      entries = entries_from (keys_of c.entries) (named c) f.keys.0 names_room c.entries o.entries f.entries;
      named = named_from c o.named;
    }

pub whole_order : (c : Cache) → IsWhole c → IsInOrder c
whole_order c w =
    let both = both_true (is_same_list (keys_of c.entries) (keys_of c.entries)) (is_same_list (named c) (names_of c.entries)) w.named in
    record {
      answers = answers_order c.answers w.answers;
      entries = entries_order (keys_of c.entries) (named c) c.entries w.entries;
      named = sym (same_lists (named c) (names_of c.entries) both.1);
    }

pub whole_fits : (c : Cache) → IsWhole c → FitsFields c
whole_fits c w =
    record {
      keys = keys_fit c.entries w.keys;
      answers = answers_fit c.answers w.answers;
      entries = (w.room, All-from_recursion FitsEntry c.entries (entries_fit (keys_of c.entries) (named c) c.entries w.entries));
    }

-- ---- strict order

pub answers_sorted : (c : Cache) → IsInOrder c → IsStrictlySortedBy byte_order (map (λ (a : Name × Answer). a.0) c.answers)
answers_sorted c o = behind_sorted None (named c) (answers_behind None c.answers o.answers)

pub paths_sorted : (c : Cache) → IsInOrder c → IsStrictlySortedBy byte_order (map (λ (e : Entry). e.path) c.entries)
paths_sorted c o = behind_sorted None (map (λ (e : Entry). e.path) c.entries) (paths_behind (keys_of c.entries) (named c) None c.entries o.entries)
