-- A run over what it left changes nothing.
use Rattle.std.proofs.Common.{◌≡◌, ℕ, Bool, true, false, not, cond, ◌&&◌, ◌||◌, inl, inr, List, [], ◌∷◌, map, Option, Some, None, refl, sym, ap, subst, ◌∙◌}
use Rattle.std.specs.Prelude.{nat_eq, ◌⊎◌}
use Rattle.std.specs.Cmp.Lexicographic.{bytes_decides, nat_list_cmp_total, pointwise}
use Rattle.std.specs.Cmp.{tied_itself}
use Rattle.std.specs.List.{All, AllByRecursion, AllZip, Contains, filter, list_all, list_any}
use Rattle.std.specs.List.Sorted.{IsStrictlySortedBy}
use Rattle.std.specs.declared.cmp.Ordering.TheVariants.{Less, Equal}
use Rattle.std.proofs.lemmas.List.Elements.{All-contains_itself, All-from_recursion, recursion_from_All}
use Rattle.pj_names.specs.declared.answer.Answer.{Answer}
use Rattle.pj_names.specs.ClassName.{Name}
use Rattle.pj_names.specs.Meaning.{found_in}
use Rattle.pj_reports.specs.declared.ruled.Head.{Head}
use Rattle.pj_reports.specs.declared.ruled.Head.TheVariants as heads
use Rattle.pj_cache.specs.Found.{entry_of, first_named}
use Rattle.pj_cache.specs.Places.{byte_order}
use Rattle.pj_cache.specs.declared.cache.KeyRows.{KeyRows}
use Rattle.pj_cache.specs.declared.cache.CachedResult.{CachedResult}
use Rattle.pj_cache.specs.declared.cache.Entry.{Entry}
use Rattle.pj_cache.specs.declared.cache.Cache.{Cache}
use Rattle.pj_cache_format.proofs.Split.{paths_sorted}
use Rattle.pj_reuse.specs.Serving.{has_key, has_one, is_answer, is_kept, is_served, keys_of, stands}
use Rattle.pj_reuse.proofs.Equal.{same_equal}
use Rattle.pj_reuse.proofs.Standing.{has_itself}
use Rattle.pj_fitting.specs.Right.{Key, RulesAt, Files, rules_at}
use Rattle.pj_fitting.specs.Left.{File, active_keys, entry_at, has_result, kept, missing, of_bytes, results_of, serves, AreLeft, AreLeftBy, IsLeftEntry, IsLeftCache, IsNewOfSome, HasNew}
use Rattle.pj_fitting.specs.Looked.{has_no_tree, is_reusable, is_served_at, is_there}
use Rattle.pj_fitting.proofs.Among.{both_true}
use Rattle.pj_fitting.proofs.Left.{all_have}
use Rattle.pj_fitting.proofs.Lists.{all_both, all_filter, all_map}
use Rattle.pj_fitting.proofs.Named.{worlds_names}
use Rattle.pj_fitting.proofs.Sets.{or_true}
use Rattle.pj_fitting.proofs.Sorted.{contained, in_at}
use Rattle.pj_fitting.proofs.Unserved.{none_made}

-- ---- answers that are the world's

module _ (answers : List (Name × Answer)) (world : Name → Answer) where
  abbrev Named : CachedResult → Type 0
  Named r = AllByRecursion (λ (n : Name). found_in answers n ≡ Some (world n)) r.names

  kept_now : (n : Name) → found_in answers n ≡ Some (world n) → is_kept answers n (world n) ≡ true
  kept_now n e = ap (λ (o : Option Answer). is_answer o (world n)) e ∙ (same_equal (world n) (world n)).1 refl

  all_kept : (names : List Name) → AllByRecursion (λ (n : Name). found_in answers n ≡ Some (world n)) names → list_all (λ (n : Name). is_kept answers n (world n)) names ≡ true
  all_kept [] all = refl
  all_kept (n ∷ ns) all = ap (λ (b : Bool). b && list_all (λ (m : Name). is_kept answers m (world m)) ns) (kept_now n all.0) ∙ all_kept ns all.1

  stands_now : (r : CachedResult) → Named r → stands answers world r ≡ true
  stands_now r all = all_kept r.names all

-- ---- results that are left serve again

module _ {R : Type 0} (rules : RulesAt R) (world : Name → Answer) (answers : List (Name × Answer)) (old : List CachedResult) (keys : List Key) where
  abbrev IsWanted : CachedResult → Type 0
  IsWanted r = has_one keys r ≡ true

  stay_wanted : AllByRecursion IsWanted (kept answers world keys old)
  stay_wanted =
      all_filter (serves answers world keys) (λ (r : CachedResult). Unit {0}) IsWanted (λ r u e. (both_true (has_one keys r) (stands answers world r) e).0) old (nothing_of old)
    where
      nothing_of : (xs : List CachedResult) → AllByRecursion (λ (r : CachedResult). Unit {0}) xs
      nothing_of [] = tt
      nothing_of (x ∷ xs) = (tt, nothing_of xs)

  missing_wanted : (stay : List CachedResult) → AllByRecursion (λ (key : Key). has_key keys key ≡ true) (missing stay keys)
  missing_wanted stay = all_filter (λ (key : Key). not (has_result stay key)) (λ (key : Key). has_key keys key ≡ true) (λ (key : Key). has_key keys key ≡ true) (λ key here e. here) keys (has_itself keys)

  one_wanted : (r : CachedResult) → Contains (kept answers world keys old) r ⊎ IsNewOfSome rules world (missing (kept answers world keys old) keys) r → IsWanted r
  one_wanted r (inl there) = in_at IsWanted r (kept answers world keys old) stay_wanted (contained (kept answers world keys old) r there)
  one_wanted r (inr made) =
      let wanted : List Key = missing (kept answers world keys old) keys in
      let key_there : has_key keys made.key ≡ true = in_at (λ (key : Key). has_key keys key ≡ true) made.key wanted (missing_wanted (kept answers world keys old)) (contained wanted made.key made.wanted) in
      ap (λ (g : List KeyRows). list_any (has_key keys) (map (λ (k : KeyRows). k.key) g)) made.new.group_is ∙ ap (λ (b : Bool). b || false) key_there

  pub all_wanted : (results : List CachedResult) → AreLeft rules world answers old keys results → AllByRecursion IsWanted results
  all_wanted results left =
      let Only : CachedResult → Type 0 = λ r. Contains (kept answers world keys old) r ⊎ IsNewOfSome rules world (missing (kept answers world keys old) keys) r in
      all_map Only IsWanted results one_wanted (recursion_from_All Only results left.only)

all_stay : {A : Type 0} (test : A → Bool) (xs : List A) → AllByRecursion (λ (x : A). test x ≡ true) xs → filter test xs ≡ xs
all_stay test [] all = refl
all_stay {A} test (x ∷ xs) all = rw all.0 (ap (λ (l : List A). x ∷ l) (all_stay test xs all.1))

both_by : (p q : CachedResult → Bool) (x : CachedResult) (xs : List CachedResult) (b : Bool) → q x ≡ b → p x ≡ true → (b || list_any q xs) ≡ true → (list_any q xs ≡ true → list_any (λ (r : CachedResult). p r && q r) xs ≡ true) → ((p x && q x) || list_any (λ (r : CachedResult). p r && q r) xs) ≡ true
both_by p q x xs true is here e rest = ap (λ (b : Bool). (b && q x) || list_any (λ (r : CachedResult). p r && q r) xs) here ∙ ap (λ (b : Bool). b || list_any (λ (r : CachedResult). p r && q r) xs) is
both_by p q x xs false is here e rest = ap (λ (b : Bool). (p x && q x) || b) (rest e) ∙ or_true (p x && q x)

any_both : (p q : CachedResult → Bool) (xs : List CachedResult) → AllByRecursion (λ (r : CachedResult). p r ≡ true) xs → list_any q xs ≡ true → list_any (λ (r : CachedResult). p r && q r) xs ≡ true
any_both p q [] all e = absurd cc
any_both p q (x ∷ xs) all e = both_by p q x xs (q x) refl all.0 e (λ more. any_both p q xs all.1 more)

-- over its own answers each key that has a result is served
all_served : (answers : List (Name × Answer)) (world : Name → Answer) (results : List CachedResult) (keys : List Key) → AllByRecursion (λ (r : CachedResult). stands answers world r ≡ true) results → AllByRecursion (λ (key : Key). has_result results key ≡ true) keys
    → list_all (is_served answers world results) keys ≡ true
all_served answers world results [] stand have = refl
all_served answers world results (key ∷ keys) stand have =
    ap (λ (b : Bool). b && list_all (is_served answers world results) keys) (any_both (stands answers world) (λ (r : CachedResult). has_key (keys_of r) key) results stand have.0) ∙ all_served answers world results keys stand have.1

-- what is left stays, and is all
module _ {R : Type 0} (rules : RulesAt R) (world : Name → Answer) (later : List (Name × Answer)) (keys : List Key) (results : List CachedResult) where
  left_again : AllByRecursion (λ (r : CachedResult). has_one keys r ≡ true) results → AllByRecursion (λ (r : CachedResult). stands later world r ≡ true) results → list_all (is_served later world results) keys ≡ true → AreLeft rules world later results keys results
  left_again wanted stand served =
      let serve : AllByRecursion (λ (r : CachedResult). serves later world keys r ≡ true) results =
      all_both (λ (r : CachedResult). has_one keys r ≡ true) (λ (r : CachedResult). stands later world r ≡ true) (λ (r : CachedResult). serves later world keys r ≡ true) results
      (λ r one stands_there. ap (λ (b : Bool). b && stands later world r) one ∙ stands_there) wanted stand in
      let same : kept later world keys results ≡ results = all_stay (serves later world keys) results serve in
      let Made : Key → Type 0 = HasNew rules world results in
      let none : missing (kept later world keys results) keys ≡ [] = none_made later world keys results served in
      let itself : All (Contains results) results = All-contains_itself results in
      record {
        stay = subst (λ (l : List CachedResult). All (Contains results) l) (sym same) itself;
        made = subst (λ (l : List Key). All Made l) (sym none) (All-from_recursion Made [] tt);
        only = subst (λ (l : List CachedResult). All (λ (r : CachedResult). Contains l r ⊎ IsNewOfSome rules world (missing (kept later world keys results) keys) r) results) (sym same)
            (All-from_recursion (λ (r : CachedResult). Contains results r ⊎ IsNewOfSome rules world (missing (kept later world keys results) keys) r) results
            (all_map (Contains results) (λ (r : CachedResult). Contains results r ⊎ IsNewOfSome rules world (missing (kept later world keys results) keys) r) results (λ r there. inl there) (recursion_from_All (Contains results) results itself)));
      }

-- ---- entries by their paths

not_same : (a b : List ℕ) → byte_order a b ≡ Less → (t : Bool) → pointwise nat_eq a b ≡ t → pointwise nat_eq a b ≡ false
not_same a b less true is =
    let both : Less ≡ Equal = sym less ∙ ap (λ (z : List ℕ). byte_order z b) ((bytes_decides a b).0 is) ∙ tied_itself nat_list_cmp_total b in absurd cc
not_same a b less false is = is

found_behind : (x : Entry) (xs : List Entry) (e : Entry) → byte_order x.path e.path ≡ Less → first_named (λ (y : Entry). y.path) xs e.path ≡ Some e → first_named (λ (y : Entry). y.path) (x ∷ xs) e.path ≡ Some e
found_behind x xs e less rest = rw (not_same x.path e.path less (pointwise nat_eq x.path e.path) refl) rest

all_behind : (x : Entry) (xs ys : List Entry) → AllByRecursion (λ z. byte_order x.path z ≡ Less) (map (λ (y : Entry). y.path) ys) → AllByRecursion (λ (e : Entry). first_named (λ (y : Entry). y.path) xs e.path ≡ Some e) ys
    → AllByRecursion (λ (e : Entry). first_named (λ (y : Entry). y.path) (x ∷ xs) e.path ≡ Some e) ys
all_behind x xs [] less found = tt
all_behind x xs (y ∷ ys) less found = (found_behind x xs y less.0 found.0, all_behind x xs ys less.1 found.1)

-- each entry is found by its path
each_found : (es : List Entry) → IsStrictlySortedBy byte_order (map (λ (e : Entry). e.path) es) → AllByRecursion (λ (e : Entry). first_named (λ (y : Entry). y.path) es e.path ≡ Some e) es
unfolding IsStrictlySortedBy
each_found [] sorted = tt
each_found (x ∷ xs) sorted = (rw ((bytes_decides x.path x.path).1 refl) refl, all_behind x xs xs sorted.0 (each_found xs sorted.1))

-- ---- a second run

module _ {R : Type 0} (files : Files R) (world : Name → Answer) (found : Cache) (held : List R) (c : Cache) where
  entry_there : (file : File) (e : Entry) → e.path ≡ file.0 → e.bytes ≡ file.1 → entry_of c.entries e.path ≡ Some e → entry_at c file ≡ Some e
  entry_there file e path bytes is =
      let by_path : entry_of c.entries file.0 ≡ Some e = ap (λ (p : List ℕ). entry_of c.entries p) (sym path) ∙ is in
      ap (λ (o : Option Entry). of_bytes o file.1) by_path ∙ ap (λ (b : Bool). cond b (Some e) None) ((bytes_decides e.bytes file.1).1 bytes)

  again_by : (h : Head) (file : File) (e : Entry) → e.head ≡ h → entry_at c file ≡ Some e → AllByRecursion (Named c.answers world) e.results
      → AreLeftBy h (rules_at files file.0 file.1) world found.answers (results_of (entry_at found file)) (active_keys (rules_at files file.0 file.1) held) e.results
      → (is_reusable files c world held file ≡ true) × AreLeftBy h (rules_at files file.0 file.1) world c.answers (results_of (entry_at c file)) (active_keys (rules_at files file.0 file.1) held) e.results
  again_by (heads.Package name) file e is there named left =
      let rules : RulesAt R = rules_at files file.0 file.1 in
      let keys : List Key = active_keys rules held in
      let stand = all_map (Named c.answers world) (λ (r : CachedResult). stands c.answers world r ≡ true) e.results (stands_now c.answers world) named in
      let have = all_have rules world found.answers (results_of (entry_at found file)) keys e.results left in
      let served : list_all (is_served c.answers world e.results) keys ≡ true = all_served c.answers world e.results keys stand have in
      let again = left_again rules world c.answers keys e.results (all_wanted rules world found.answers (results_of (entry_at found file)) keys e.results left) stand served in (
        ap (λ (b : Bool). has_no_tree (entry_at c file) || (is_there (entry_at c file) && b)) (subst (λ (o : Option Entry). list_all (is_served c.answers world (results_of o)) keys ≡ true) (sym there) served)
            ∙ ap (λ (o : Option Entry). has_no_tree o || (is_there o && true)) there
            ∙ or_true (has_no_tree (Some e)),
        subst (λ (o : Option Entry). AreLeft rules world c.answers (results_of o) keys e.results) (sym there) again,
      )
  again_by (heads.Message message) file e is there named left =
      let shown : Head → Entry = λ h. record { path = e.path; bytes = e.bytes; head = h; results = e.results } in
      let none : has_no_tree (Some e) ≡ true = ap (λ (h : Head). has_no_tree (Some (shown h))) is in (
        ap (λ (o : Option Entry). has_no_tree o || (is_there (entry_at c file) && list_all (is_served_at c world file) (active_keys (rules_at files file.0 file.1) held))) there
            ∙ ap (λ (b : Bool). b || (is_there (entry_at c file) && list_all (is_served_at c world file) (active_keys (rules_at files file.0 file.1) held))) none,
        left,
      )

  again_one : (file : File) (e : Entry) → IsLeftEntry files world found held file e → entry_of c.entries e.path ≡ Some e → AllByRecursion (Named c.answers world) e.results → (is_reusable files c world held file ≡ true) × IsLeftEntry files world c held file e
  again_one file e left is named =
      let both = again_by (files.head file.1) file e left.head (entry_there file e left.path left.bytes is) named left.results in
      (both.0, record { path = left.path; bytes = left.bytes; head = left.head; results = both.1 })

  again_all : (list : List File) (es : List Entry) → AllZip (IsLeftEntry files world found held) list es → AllByRecursion (λ (e : Entry). entry_of c.entries e.path ≡ Some e) es → AllByRecursion (λ (e : Entry). AllByRecursion (Named c.answers world) e.results) es
      → AllByRecursion (λ (file : File). is_reusable files c world held file ≡ true) list × AllZip (IsLeftEntry files world c held) list es
  again_all [] [] left is named = (tt, tt)
  again_all [] (e ∷ es) left is named = absurd left
  again_all (file ∷ rest) [] left is named = absurd left
  again_all (file ∷ rest) (e ∷ es) left is named =
      let one = again_one file e left.0 is.0 named.0 in
      let others = again_all rest es left.1 is.1 named.1 in
      ((one.0, others.0), (one.1, others.1))

  -- over what a run left each file is used again as it is, and the same is left
  pub second_run : (list : List File) → IsLeftCache files world found held list c → All (λ (file : File). is_reusable files c world held file ≡ true) list × IsLeftCache files world c held list c
  second_run list left =
      let answers : AllByRecursion (λ (a : Name × Answer). a.1 ≡ world a.0) c.answers = recursion_from_All (λ (a : Name × Answer). a.1 ≡ world a.0) c.answers left.answers in
      let both = again_all list c.entries left.entries (each_found c.entries (paths_sorted c left.in_order)) (worlds_names c.answers world answers c.entries left.in_order.named) in
      (All-from_recursion (λ (file : File). is_reusable files c world held file ≡ true) list both.0, record { in_order = left.in_order; entries = both.1; answers = left.answers })
