-- What a run leaves is right, and says what its rules come to.
use Rattle.std.proofs.Common.{◌≡◌, ℕ, Bool, true, false, not, cond, ◌||◌, inl, inr, List, [], ◌∷◌, map, Some, None, refl, sym, ap, subst, ◌∙◌}
use Rattle.std.specs.Prelude.{IsTrue, nat_eq, ◌⊎◌}
use Rattle.std.specs.Cmp.Lexicographic.{bytes_decides, pointwise}
use Rattle.std.specs.List.{AllByRecursion, AllZip, Contains, filter}
use Rattle.std.proofs.lemmas.List.Elements.{All-from_recursion, recursion_from_All, All-contains}
use Rattle.pj_names.specs.declared.answer.Answer.{Answer}
use Rattle.pj_names.specs.ClassName.{Name, name_set}
use Rattle.pj_names.specs.Meaning.{found_in, whole}
use Rattle.pj_reports.specs.declared.ruled.Head.{Head}
use Rattle.pj_reports.specs.declared.ruled.Head.TheVariants as heads
use Rattle.pj_cache.specs.Found.{first_named}
use Rattle.pj_cache.specs.declared.cache.KeyRows.{KeyRows}
use Rattle.pj_cache.specs.declared.cache.CachedResult.{CachedResult}
use Rattle.pj_cache.specs.declared.cache.Entry.{Entry}
use Rattle.pj_cache.specs.declared.cache.Cache.{Cache}
use Rattle.pj_reuse.specs.Serving.{has_key, has_one, keys_of, stands}
use Rattle.pj_fitting.specs.Right.{Key, RulesAt, Files, ComeTo, IsRight, IsRightEntry, IsRightCache, rules_at}
use Rattle.pj_fitting.specs.Left.{File, active_keys, of_bytes, entry_at, results_of, serves, kept, has_result, missing, IsNewOfSome, HasNew, AreLeft, AreLeftBy, IsLeftEntry, IsLeftCache}
use Rattle.pj_fitting.proofs.Among.{both_true}
use Rattle.pj_fitting.proofs.Right.{comes_now, new_comes, right_from}
use Rattle.pj_fitting.proofs.Named.{itself, worlds_names}
use Rattle.pj_fitting.proofs.Lists.{all_map, all_both, all_filter, any_among, member_passes}

-- ---- old results

module _ {R : Type 0} (files : Files R) (answers : List (Name × Answer)) (file : File) where
  abbrev RightHere : List CachedResult → Type 0
  RightHere results = AllByRecursion (IsRight (rules_at files file.0 file.1) answers) results

  moved_right : (e : Entry) → e.path ≡ file.0 → e.bytes ≡ file.1 → AllByRecursion (IsRight (rules_at files e.path e.bytes) answers) e.results → RightHere e.results
  moved_right e p b all =
      subst (λ (path : List ℕ). AllByRecursion (IsRight (rules_at files path file.1) answers) e.results) p
      (subst (λ (bytes : List ℕ). AllByRecursion (IsRight (rules_at files e.path bytes) answers) e.results) b all)

  same_bytes : (e : Entry) (t : Bool) → pointwise nat_eq e.bytes file.1 ≡ t → e.path ≡ file.0 → IsRightEntry files answers e → RightHere (results_of (cond t (Some e) None))
  same_bytes e true is p right = moved_right e p ((bytes_decides e.bytes file.1).0 is) (recursion_from_All (IsRight (rules_at files e.path e.bytes) answers) e.results right.1)
  same_bytes e false is p right = tt

  same_path : (e : Entry) (es : List Entry) (t : Bool) → pointwise nat_eq e.path file.0 ≡ t → IsRightEntry files answers e → RightHere (results_of (of_bytes (first_named (λ (x : Entry). x.path) es file.0) file.1))
      → RightHere (results_of (of_bytes (cond t (Some e) (first_named (λ (x : Entry). x.path) es file.0)) file.1))
  same_path e es true is right rest = same_bytes e (pointwise nat_eq e.bytes file.1) refl ((bytes_decides e.path file.0).0 is) right
  same_path e es false is right rest = rest

  -- the results of the entry of a path and bytes are right
  pub right_at : (es : List Entry) → AllByRecursion (IsRightEntry files answers) es → RightHere (results_of (of_bytes (first_named (λ (x : Entry). x.path) es file.0) file.1))
  right_at [] all = tt
  right_at (e ∷ es) all = same_path e es (pointwise nat_eq e.path file.0) refl all.0 (right_at es all.1)

-- ---- results that are left

module _ {R : Type 0} (rules : RulesAt R) (world : Name → Answer) where
  abbrev pub ComesNow : CachedResult → Type 0
  ComesNow r = ComeTo rules (whole world) r.group (name_set r.names)

  -- those of right results that stand come to their rows now
  pub stand_now : (answers : List (Name × Answer)) (test : CachedResult → Bool) (old : List CachedResult) → ((r : CachedResult) → test r ≡ true → IsTrue (stands answers world r)) → AllByRecursion (IsRight rules answers) old → AllByRecursion ComesNow (filter test old)
  stand_now answers test old stand all = all_filter test (IsRight rules answers) ComesNow (λ r right passed. comes_now rules answers world r right (stand r passed)) old all

  pub kept_now : (answers : List (Name × Answer)) (keys : List Key) (old : List CachedResult) → AllByRecursion (IsRight rules answers) old → AllByRecursion ComesNow (kept answers world keys old)
  kept_now answers keys old all = stand_now answers (serves answers world keys) old (λ r passed. (both_true (has_one keys r) (stands answers world r) passed).1) all

  only_now : (stay : List CachedResult) (keys : List Key) → AllByRecursion ComesNow stay → (r : CachedResult) → Contains stay r ⊎ IsNewOfSome rules world keys r → ComesNow r
  only_now stay keys all r (inl there) = All-contains ComesNow stay r (All-from_recursion ComesNow stay all) there
  only_now stay keys all r (inr made) = new_comes rules world made.key r made.new

  pub left_now : (h : Head) (answers : List (Name × Answer)) (old : List CachedResult) (keys : List Key) (results : List CachedResult) → AllByRecursion (IsRight rules answers) old → AreLeftBy h rules world answers old keys results → AllByRecursion ComesNow results
  left_now (heads.Package name) answers old keys results all left =
      let stay : List CachedResult = kept answers world keys old in
      let Only : CachedResult → Type 0 = λ r. Contains stay r ⊎ IsNewOfSome rules world (missing stay keys) r in
      all_map Only ComesNow results (only_now stay (missing stay keys) (kept_now answers keys old all)) (recursion_from_All Only results left.only)
  left_now (heads.Message message) answers old keys results all left = subst (λ (l : List CachedResult). AllByRecursion ComesNow l) (sym left) tt

  -- each key of an active rule has a result

  abbrev HasKey : List CachedResult → Key → Type 0
  HasKey results key = has_result results key ≡ true

  new_has : (results : List CachedResult) (key : Key) → HasNew rules world results key → HasKey results key
  new_has results key made =
      let alone : has_key (keys_of made.result) key ≡ true = ap (λ (g : List KeyRows). has_key (map (λ (k : KeyRows). k.key) g) key) made.new.group_is ∙ ap (λ (b : Bool). b || false) (itself key) in
      member_passes (λ (r : CachedResult). has_key (keys_of r) key) results made.result made.there alone

  has_by : (stay results : List CachedResult) (key : Key) (keys : List Key) (b : Bool) → has_result stay key ≡ b → AllByRecursion (Contains results) stay → AllByRecursion (HasNew rules world results) (cond (not b) (key ∷ missing stay keys) (missing stay keys))
      → HasKey results key × AllByRecursion (HasNew rules world results) (missing stay keys)
  has_by stay results key keys true is members made = (any_among (λ (r : CachedResult). has_key (keys_of r) key) stay results members is, made)
  has_by stay results key keys false is members made = (new_has results key made.0, made.1)

  each_has : (stay results : List CachedResult) (keys : List Key) → AllByRecursion (Contains results) stay → AllByRecursion (HasNew rules world results) (missing stay keys) → AllByRecursion (HasKey results) keys
  each_has stay results [] members made = tt
  each_has stay results (key ∷ keys) members made =
      let both = has_by stay results key keys (has_result stay key) refl members made in
      (both.0, each_has stay results keys members both.1)

  pub all_have : (answers : List (Name × Answer)) (old : List CachedResult) (keys : List Key) (results : List CachedResult) → AreLeft rules world answers old keys results → AllByRecursion (HasKey results) keys
  all_have answers old keys results left =
      let stay : List CachedResult = kept answers world keys old in
      each_has stay results keys (recursion_from_All (Contains results) stay left.stay) (recursion_from_All (HasNew rules world results) (missing stay keys) left.made)

-- ---- the cache

module _ {R : Type 0} (files : Files R) (world : Name → Answer) (found : Cache) (held : List R) where
  pub entry_now : (file : File) (e : Entry) → IsRightCache files found → IsLeftEntry files world found held file e → AllByRecursion (ComesNow (rules_at files file.0 file.1) world) e.results
  entry_now file e right left =
      let rules : RulesAt R = rules_at files file.0 file.1 in
      let old : List CachedResult = results_of (entry_at found file) in
      left_now rules world (files.head file.1) found.answers old (active_keys rules held) e.results
      (right_at files found.answers file found.entries (recursion_from_All (IsRightEntry files found.answers) found.entries right)) left.results

  abbrev Named : List (Name × Answer) → CachedResult → Type 0
  Named answers r = AllByRecursion (λ (n : Name). found_in answers n ≡ Some (world n)) r.names

  entry_right : (later : List (Name × Answer)) (file : File) (e : Entry) → IsRightCache files found → IsLeftEntry files world found held file e → AllByRecursion (Named later) e.results → IsRightEntry files later e
  entry_right later file e right left named =
      let rules : RulesAt R = rules_at files file.0 file.1 in
      let here : AllByRecursion (IsRight rules later) e.results = all_both (ComesNow rules world) (Named later) (IsRight rules later) e.results (λ r comes names. right_from rules later world r comes names) (entry_now file e right left) named in
      let there : AllByRecursion (IsRight (rules_at files e.path e.bytes) later) e.results =
      subst (λ (path : List ℕ). AllByRecursion (IsRight (rules_at files path e.bytes) later) e.results) (sym left.path)
      (subst (λ (bytes : List ℕ). AllByRecursion (IsRight (rules_at files file.0 bytes) later) e.results) (sym left.bytes) here) in
      (left.head ∙ ap files.head (sym left.bytes), All-from_recursion (IsRight (rules_at files e.path e.bytes) later) e.results there)

  each_right : (later : List (Name × Answer)) (list : List File) (es : List Entry) → IsRightCache files found → AllZip (IsLeftEntry files world found held) list es → AllByRecursion (λ (e : Entry). AllByRecursion (Named later) e.results) es
      → AllByRecursion (IsRightEntry files later) es
  each_right later [] [] right left named = tt
  each_right later [] (e ∷ es) right left named = absurd left
  each_right later (f ∷ fs) [] right left named = absurd left
  each_right later (f ∷ fs) (e ∷ es) right left named = (entry_right later f e right left.0 named.0, each_right later fs es right left.1 named.1)

  -- the cache that a run leaves is right
  pub left_right : (list : List File) (c : Cache) → IsRightCache files found → IsLeftCache files world found held list c → IsRightCache files c
  left_right list c right left =
      let answers : AllByRecursion (λ (a : Name × Answer). a.1 ≡ world a.0) c.answers = recursion_from_All (λ (a : Name × Answer). a.1 ≡ world a.0) c.answers left.answers in
      All-from_recursion (IsRightEntry files c.answers) c.entries
      (each_right c.answers list c.entries right left.entries (worlds_names c.answers world answers c.entries left.in_order.named))
