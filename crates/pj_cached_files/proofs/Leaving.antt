-- What is left of a file and what is asked there, from what was made of it.
use Rattle.std.proofs.Common.{◌≡◌, ◌≤◌, ◌∙◌, ℕ, Bool, true, false, not, cond, ◌&&◌, ◌||◌, List, [], ◌∷◌, ◌++◌, Option, Some, None, Result, Ok, Err, ap, append-nil, arith, filter, length, map, refl, slice_get, subst, sym}
use Rattle.std.specs.Prelude.{IsTrue, if◌then◌else◌}
use Rattle.std.specs.Cmp.Lexicographic.{nat_list_cmp_total}
use Rattle.std.specs.FinSet as sets
use Rattle.std.specs.FinSet.{contains-from_list, contains-union}
use Rattle.std.specs.List.{All, AllByRecursion, AllZip, IsDistinct, cons_option, list_all}
use Rattle.std.specs.List.Sorted.{IsPermutation, IsStrictlySortedBy}
use Rattle.std.specs.Ordering.{is_lt, nat_cmp}
use Rattle.std.proofs.lemmas.List.Elements.{All-from_recursion, recursion_from_All}
use Rattle.std.proofs.lemmas.List.Sorted.{length_permutation}
use Rattle.pj_cache.specs.Places.{byte_order}
use Rattle.pj_cache.specs.declared.cache.Cache.{Cache}
use Rattle.pj_cache.specs.declared.cache.CachedResult.{CachedResult}
use Rattle.pj_cache.specs.declared.cache.Entry.{Entry}
use Rattle.pj_cache.specs.declared.cache.KeyRows.{KeyRows}
use Rattle.pj_cache_format.specs.Judges.{is_behind}
use Rattle.pj_cache_format.specs.Ordered.{AreRowsInOrder, IsInOrder}
use Rattle.pj_cache_laws.specs.Written.{AreFiles, AreWrittenRules, WrittenRule}
use Rattle.pj_cached_files.proofs.Entries.{are_left, has_tree_at, left_again, left_treeless, left_with_tree, no_tree_at, none_old, old_by_bytes, old_head}
use Rattle.pj_cached_files.proofs.NewResults.{none_made, none_of}
use Rattle.pj_cached_files.proofs.Needed.{needed_are, ran_needed, ran_none}
use Rattle.pj_cached_files.proofs.New.{chosen_seen, each_new}
use Rattle.pj_cached_files.proofs.OneAsked.{both_tests, none_asked, none_named, same_asked}
use Rattle.pj_cached_files.proofs.Reusing.{reused_value}
use Rattle.pj_cached_files.proofs.Rules.{active_keys_are, activity_are, are_rules, keys_are}
use Rattle.pj_cached_files.specs.Asked.{active_keys_of, activity, keys_of_set, looked_at, missing_in, missing_numbers, reused_at, reused_by, then_missing}
use Rattle.pj_cached_files.specs.Completed.{AreMade, AreTogether, IsCompleted, IsUsedAgain, missing_keys, where_tree}
use Rattle.pj_cached_files.specs.LeftFile.{IsLeftFile, StandsIn}
use Rattle.pj_cached_files.specs.Made.{IsClassText, new_result, new_results}
use Rattle.pj_cached_files.specs.Ran.{is_needed_at, ran_at}
use Rattle.pj_cached_files.specs.declared.entry.LeftFile.{LeftFile}
use Rattle.pj_findings.specs.Laws.{IsAscending}
use Rattle.pj_findings.specs.declared.run.RuleRun.{RuleRun}
use Rattle.pj_fitting.proofs.Lists.{all_both, all_map}
use Rattle.pj_fitting.proofs.Sets.{set_of_both}
use Rattle.pj_fitting.proofs.Sorted.{has_in, in_at, none_sorted}
use Rattle.pj_fitting.proofs.Unserved.{made_is_unserved}
use Rattle.pj_fitting.specs.Left.{AreLeft, AreLeftBy, File, IsLeftEntry, IsNew, active_keys, entry_at, has_result, kept, missing, results_of, serves}
use Rattle.pj_fitting.specs.Looked.{AskFor, LookedFile, analysed, has_no_tree, is_reusable, is_served_at, is_there, told as told_of, unserved}
use Rattle.pj_fitting.specs.Right.{Files, IsRightCache, Key, RulesAt, rules_at}
use Rattle.pj_left_cache.proofs.ByBytes.{those_that_stay, together}
use Rattle.pj_left_cache.proofs.MissingLaws.{StandsAt, each_stands, keys_once, missing_keys as keys_missing, none_missing}
use Rattle.pj_left_cache.specs.Bytes.{AreByBytes, AreByBytesAt, IsByBytes}
use Rattle.pj_left_cache.specs.Missing.{keys_of_active, missing_rules}
use Rattle.pj_format.specs.Fields.{Chain}
use Rattle.pj_names.proofs.AskingLaws.{asked_after-names}
use Rattle.pj_names.proofs.MeaningLaws.{held-means, names_of-bind, value_of-bind}
use Rattle.pj_names.proofs.NameLists.{contains-with_names, same_names}
use Rattle.pj_names.specs.Asking.{Asking, Return, bind, each, is_empty, names_of, value_of}
use Rattle.pj_names.specs.ClassName.{Name, NameSet, name_set}
use Rattle.pj_names.specs.Held.{AreOne, NeedThemselves}
use Rattle.pj_names.specs.Meaning.{Gives, Means, whole}
use Rattle.pj_names.specs.Told.{Asks, Told, World as ToldWorld, Worlds, all_needs, asked_after, longest, with_names}
use Rattle.pj_names.specs.declared.answer.Answer.{Answer}
use Rattle.pj_names.specs.declared.oracle.AskFault.{AskFault}
use Rattle.pj_outside.specs.Files.{Bytes}
use Rattle.pj_parse.specs.FileOutcome.{outcome_of}
use Rattle.pj_parse.specs.JavaFile.{JavaFile}
use Rattle.pj_parse.specs.Messages.{fault_message}
use Rattle.pj_parse.specs.declared.file_fault.FileFault.{FileFault}
use Rattle.pj_reports.specs.declared.ruled.Head.{Head}
use Rattle.pj_reports.specs.declared.ruled.Head.TheVariants as heads
use Rattle.pj_reports.specs.declared.ruled.Ruled.{Ruled}
use Rattle.pj_reports.specs.declared.ruled.Ruled.TheVariants as ruled
use Rattle.pj_reports.specs.declared.ruled.Spot.{Spot}
use Rattle.pj_reuse.proofs.KeptLaws.{names_kept, results_kept}
use Rattle.pj_reuse.proofs.Standing.{has_itself}
use Rattle.pj_reuse.specs.Serving.{has_key, is_served, kept_results, keys_of, looked_in}
use Rattle.pj_rule_sets.specs.Rules.{EffectiveRules}
use Rattle.pj_symbols.specs.Names.{package_name}
use Rattle.pj_workers.specs.Chosen.{chosen, chosen_meaning, numbers_to}
use Rattle.pj_workers.specs.Cold.{World}
use Rattle.pj_workers.specs.FileMeaning.{head_of, rule_meaning}
use Rattle.pj_workers.specs.JavaReplies.{java_replies}
use Rattle.pj_workers.specs.Laws.{RuleAscends}
use Rattle.pj_workers.specs.Results.{RestsOn, rules_in}
use Rattle.pj_workers.specs.Rules.{AreRulesOf, Rule}

-- ---- whether a file is used again

pub is_reused : (depth : ℕ) (world : World) (found : Cache) (files : Files WrittenRule) (set : EffectiveRules) (rules : List Rule) (held : List WrittenRule) (file : File) → AreFiles java_replies files → AreWrittenRules set rules held
    → value_of depth world (reused_at found set rules file) ≡ is_reusable files found world held file
is_reused depth world found files set rules held file are written =
    reused_value results_kept none_missing made_is_unserved depth world found.answers set rules file (entry_at found file)
    ∙ ap (λ (keys : List Key). has_no_tree (entry_at found file) || (is_there (entry_at found file) && list_all (is_served_at found world file) keys)) (sym (active_keys_are files are set rules held written file.0 file.1))

far : longest ≤ longest
far = omega arith

-- ---- names

-- names that are put to a set
put_names : (s : NameSet) (names : List Name) → with_names s names ≡ sets.union s (name_set names)
put_names s names = same_names (with_names s names) (sets.union s (name_set names)) (λ q.
    contains-with_names s names q ∙ ap (λ (b : Bool). sets.contains s q || b) (sym (contains-from_list nat_list_cmp_total names q)) ∙ sym (contains-union nat_list_cmp_total s (name_set names) q))

-- ---- rows in order

spots_from : (before : Option ℕ) (s : Spot) (ss : List Spot) → IsStrictlySortedBy nat_cmp (map (λ (x : Spot). x.node) (s ∷ ss)) → is_behind nat_cmp before s.node ≡ true
    → Chain (λ b (x : Spot). is_behind nat_cmp b x.node ≡ true) (λ b x. Some x.node) before (s ∷ ss)
unfolding IsStrictlySortedBy
spots_from before s [] sorted after = (after, tt)
spots_from before s (t ∷ ts) sorted after = (after, spots_from (Some s.node) t ts sorted.1 (ap is_lt sorted.0.0))

spots_in_order : (spots : List Spot) → IsStrictlySortedBy nat_cmp (map (λ (x : Spot). x.node) spots) → AreRowsInOrder (ruled.Spots spots)
spots_in_order [] sorted = tt
spots_in_order (s ∷ ss) sorted = spots_from None s ss sorted refl

rows_in_order : (rows : Ruled) → IsAscending rows → AreRowsInOrder rows
rows_in_order (ruled.Spots spots) up = spots_in_order spots up
rows_in_order (ruled.Message message) up = tt

one_key : (k : Key) → IsStrictlySortedBy byte_order (k ∷ [])
unfolding IsStrictlySortedBy
one_key k = (tt, tt)

-- ---- lists

zip_back : {A B C : Type 0} (f : A → B) (P : B → C → Type 0) (xs : List A) (ys : List C) → AllZip P (map f xs) ys → AllZip (λ x y. P (f x) y) xs ys
zip_back f P [] [] zip = tt
zip_back f P [] (y ∷ ys) zip = absurd zip
zip_back f P (x ∷ xs) [] zip = absurd zip
zip_back f P (x ∷ xs) (y ∷ ys) zip = (zip.0, zip_back f P xs ys zip.1)

-- numbers of members choose these members
chosen_places : (keys : List Key) (ms : List (ℕ × Key)) → AllByRecursion (λ (m : ℕ × Key). slice_get keys m.0 ≡ Some m.1) ms → chosen (map (λ (m : ℕ × Key). m.0) ms) keys ≡ map (λ (m : ℕ × Key). m.1) ms
chosen_places keys [] all = refl
chosen_places keys (m ∷ ms) all = λ i. cons_option (all.0 i) (chosen_places keys ms all.1 i)

empty_is : {A B : Type 0} (f : A → B) (xs : List A) → map f xs ≡ [] → xs ≡ []
empty_is f [] is = refl
empty_is f (x ∷ xs) is = absurd cc

-- ---- results together

not_true : (b : Bool) → not b ≡ true → b ≡ false
not_true true is = absurd cc
not_true false is = refl

passed_by : {A : Type 0} (test : A → Bool) (x : A) (xs : List A) (b : Bool) → test x ≡ b → AllByRecursion (λ (y : A). test y ≡ true) xs → AllByRecursion (λ (y : A). test y ≡ true) (cond b (x ∷ xs) xs)
passed_by test x xs true is rest = (is, rest)
passed_by test x xs false is rest = rest

passed : {A : Type 0} (test : A → Bool) (xs : List A) → AllByRecursion (λ (x : A). test x ≡ true) (filter test xs)
passed test [] = tt
passed test (x ∷ xs) = passed_by test x (filter test xs) (test x) refl (passed test xs)

-- none of the keys for which results are made has one that stays
none_stays : (stay : List CachedResult) (keys : List Key) (active : List Bool) → AllByRecursion (λ (key : Key). has_result stay key ≡ false) (map (λ (m : ℕ × Key). m.1) (missing_rules stay keys active))
none_stays stay keys active =
    let all : List Key = map (λ (m : ℕ × Key). m.1) (missing_rules stay keys active) in
    let left : List Key = keys_of_active keys active in
    all_map (λ (key : Key). has_key all key ≡ true) (λ (key : Key). has_result stay key ≡ false) all
    (λ key has. not_true (has_result stay key) (in_at (λ (k : Key). not (has_result stay k) ≡ true) key (missing stay left) (passed (λ (k : Key). not (has_result stay k)) left)
    (has_in (missing stay left) key (sym (keys_missing stay keys active key) ∙ has))))
    (has_itself all)

all_together : (stay made results : List CachedResult) (keys : List Key) (active : List Bool) → AreByBytes stay → All IsByBytes made → AllZip (λ key r. keys_of r ≡ key ∷ []) (map (λ (m : ℕ × Key). m.1) (missing_rules stay keys active)) made
    → AreTogether stay made results → AreByBytes results
all_together stay made results keys active by each own all =
    together stay made results (map (λ (m : ℕ × Key). m.1) (missing_rules stay keys active)) by each own (keys_once stay keys active)
    (All-from_recursion (λ (key : Key). has_result stay key ≡ false) (map (λ (m : ℕ × Key). m.1) (missing_rules stay keys active)) (none_stays stay keys active)) all.members all.ascending

no_results : AreByBytes []
unfolding IsDistinct
no_results = record { each = All-from_recursion IsByBytes [] tt; first = none_sorted; once = tt }

themselves : (w : ToldWorld) (names : List Name) → ((name : Name) → w.needs name ≡ name ∷ []) → all_needs w names ≡ names
themselves w [] own = refl
themselves w (n ∷ ns) own = λ i. own n i ++ themselves w ns own i

none_zipped : {A B : Type 0} (P : A → B → Type 0) (ys : List B) → AllZip P [] ys → ys ≡ []
none_zipped P [] zip = refl
none_zipped P (y ∷ ys) zip = absurd zip

-- ---- a run at a file

module _ {K : Type 0} (t : Told K) (set : EffectiveRules) (found : Cache) (file : File) where
  -- whether the file is used again is asked, from where the oracle tells t
  abbrev pub AsksReused : Told K → Result Bool AskFault → Type 0
  AsksReused u r = (meant : List Rule) → AreRulesOf set meant → Asks (reused_at found set meant file) t u r

  -- the same by an old entry
  abbrev pub AsksBy : Option Entry → Told K → Result Bool AskFault → Type 0
  AsksBy old u r = (meant : List Rule) → AreRulesOf set meant → Asks (reused_by found.answers set meant file old) t u r

  pub by_entry : (old : Option Entry) (u : Told K) (r : Result Bool AskFault) → entry_at found file ≡ old → AsksBy old u r → AsksReused u r
  by_entry old u r is asks = subst (λ (o : Option Entry). AsksBy o u r) (sym is) asks

  module _ (files : Files WrittenRule) (world : World) (rules : List Rule) (held : List WrittenRule) (run : StandsIn t set files world rules held) where
    abbrev here : RulesAt WrittenRule
    here = rules_at files file.0 file.1

    abbrev keys : List Key
    keys = active_keys here held

    abbrev wanted : List Key
    wanted = active_keys_of set file.0

    abbrev old : List CachedResult
    old = results_of (entry_at found file)

    rules_here : AreRulesOf set rules
    rules_here = are_rules set rules held run.rules_are

    keys_here : keys ≡ wanted
    keys_here = active_keys_are files run.files_are set rules held run.rules_are file.0 file.1

    set_keys : map here.key held ≡ keys_of_set set
    set_keys = keys_are files run.files_are set rules held run.rules_are

    set_active : map here.is_active held ≡ activity set file.0
    set_active = activity_are files run.files_are set rules held run.rules_are file.0

    missing_here : (stay : List CachedResult) → missing_rules stay (map here.key held) (map here.is_active held) ≡ missing_in set file.0 stay
    missing_here stay = λ i. missing_rules stay (set_keys i) (set_active i)

    -- the answer is that it can be
    pub reused_here : (u : Told K) (b : Bool) → AsksReused u (Ok b) → b ≡ is_reusable files found world held file
    reused_here u b asks =
        (asks rules rules_here).value_is run.is_told longest far
        ∙ ap (λ (w : World). value_of longest w (reused_at found set rules file)) (run.one_world longest far)
        ∙ is_reused longest world found files set rules held file run.files_are run.rules_are

    -- what stays
    pub stays : (u : Told K) (stay : List CachedResult) → Asks (kept_results found.answers old wanted) t u (Ok stay) → stay ≡ kept found.answers world keys old
    stays u stay asks =
        asks.value_is run.is_told longest far
        ∙ ap (λ (w : World). value_of longest w (kept_results found.answers old wanted)) (run.one_world longest far)
        ∙ results_kept longest world found.answers old wanted
        ∙ ap (λ (ks : List Key). kept found.answers world ks old) (sym keys_here)

    -- ---- which rules are evaluated

    -- none of a file that is used again
    pub evaluates_none : (u : Told K) (b : Bool) (ran : List ℕ) → b ≡ true → AsksReused u (Ok b) → ran ≡ [] → ran ≡ ran_at files found world held file
    evaluates_none u b ran is asks none = none ∙ ran_none files found world held file (sym (reused_here u b asks) ∙ is)

    -- of one at which rules are looked at those that are missing, which are those that have to be
    pub evaluates_completed : (stay : List CachedResult) (left : LeftFile) (u v : Told K) → Asks (kept_results found.answers old wanted) t u (Ok stay) → IsCompleted u set file stay left → AsksReused v (Ok left.is_reused)
        → left.ran ≡ ran_at files found world held file
    evaluates_completed stay left u v asks done reused =
        let needed : missing_numbers set file.0 stay ≡ filter (is_needed_at here found world file held) (numbers_to (length held)) =
        ap (λ (l : List (ℕ × Key)). map (λ (m : ℕ × Key). m.0) l) (sym (missing_here stay))
        ∙ ap (λ (l : List CachedResult). map (λ (m : ℕ × Key). m.0) (missing_rules l (map here.key held) (map here.is_active held))) (stays u stay asks)
        ∙ needed_are here found world file held in
        done.ran ∙ (λ i. where_tree (sym (run.files_are.head file.1) i) (needed i)) ∙ ran_needed files found world held file (sym (reused_here v left.is_reused reused) ∙ done.reused)

    -- ---- new results

    module _ (u : Told K) (same_told : u.is_told ≡ t.is_told) (same_world : u.world ≡ t.world) (stay : List CachedResult) where
      is_told : IsTrue u.is_told
      is_told = subst (λ (b : Bool). IsTrue b) (sym same_told) run.is_told

      one_world : AreOne u.world world
      one_world = subst (λ (w : Worlds). AreOne w world) (sym same_world) run.one_world

      abbrev ms : List (ℕ × Key)
      ms = missing_in set file.0 stay

      abbrev numbers : List ℕ
      numbers = missing_numbers set file.0 stay

      abbrev looked : List WrittenRule
      looked = chosen numbers held

      abbrev Rests : Rule → RuleRun → Type 0
      Rests rule run = RestsOn u (rule_meaning java_replies file.0 file.1 rule) run.rows run.names

      keys_looked : map here.key looked ≡ missing_keys set file stay
      keys_looked = sym (chosen_seen here.key numbers held) ∙ ap (λ (ks : List Key). chosen numbers ks) set_keys

      keys_numbered : missing_keys set file stay ≡ map (λ (m : ℕ × Key). m.1) ms
      keys_numbered =
          let standing = recursion_from_All (StandsAt (keys_of_set set) (activity set file.0)) ms (each_stands stay (keys_of_set set) (activity set file.0)) in
          chosen_places (keys_of_set set) ms (all_map (StandsAt (keys_of_set set) (activity set file.0)) (λ (m : ℕ × Key). slice_get (keys_of_set set) m.0 ≡ Some m.1) ms (λ m at. at.0) standing)

      rules_looked : chosen numbers rules ≡ map (λ (w : WrittenRule). w.rule) looked
      rules_looked = ap (λ (l : List Rule). chosen numbers l) (sym run.rules_are.rules) ∙ chosen_seen (λ (w : WrittenRule). w.rule) numbers held

      abbrev AreRun : List RuleRun → Type 0
      AreRun runs = AllZip Rests (map (λ (w : WrittenRule). w.rule) looked) runs

      run_of : (runs : List RuleRun) → AllZip Rests (chosen numbers rules) runs → AreRun runs
      run_of runs zip = subst (λ (l : List Rule). AllZip Rests l runs) rules_looked zip

      new_of : (made : List CachedResult) (runs : List RuleRun) → made ≡ new_results (missing_keys set file stay) runs → AreRun runs → AllZip (λ (m : ℕ × Key) r. IsNew here world m.1 r) (missing_rules stay (map here.key held) (map here.is_active held)) made
      new_of made runs is zip =
          let new = each_new u files run.files_are world file.0 file.1 is_told one_world looked runs zip in
          let own : made ≡ new_results (map here.key looked) runs = is ∙ ap (λ (ks : List Key). new_results ks runs) (sym keys_looked) in
          let there = subst (λ (l : List CachedResult). AllZip (IsNew here world) (map here.key looked) l) (sym own) new in
          let placed = subst (λ (ks : List Key). AllZip (IsNew here world) ks made) (keys_looked ∙ keys_numbered) there in
          subst (λ (l : List (ℕ × Key)). AllZip (λ (m : ℕ × Key) r. IsNew here world m.1 r) l made) (sym (missing_here stay)) (zip_back (λ (m : ℕ × Key). m.1) (IsNew here world) ms made placed)

      -- each of them stands by bytes
      each_by_bytes : RuleAscends → (ws : List WrittenRule) (runs : List RuleRun) → AllZip Rests (map (λ (w : WrittenRule). w.rule) ws) runs → AllByRecursion (λ (r : CachedResult). All IsClassText r.names) (new_results (map here.key ws) runs)
          → AllByRecursion IsByBytes (new_results (map here.key ws) runs)
      each_by_bytes up [] runs zip classes = tt
      each_by_bytes up (w ∷ ws) [] zip classes = tt
      each_by_bytes up (w ∷ ws) (run ∷ runs) zip classes = (
        record {
          some = omega arith;
          keys = one_key (here.key w);
          names = zip.0.ascending;
          classes = classes.0;
          rows = All-from_recursion (λ (k : KeyRows). AreRowsInOrder k.rows) (record { key = here.key w; rows = run.rows } ∷ [])
              (rows_in_order run.rows (subst (λ (v : Ruled). IsAscending v) ((zip.0.held is_told).value_is longest far) (up java_replies (u.world longest).answer longest file.0 file.1 w.rule)), tt);
        },
        each_by_bytes up ws runs zip.1 classes.1,
      )

      made_by_bytes : RuleAscends → (made : List CachedResult) (runs : List RuleRun) → made ≡ new_results (missing_keys set file stay) runs → AreRun runs → All (λ (r : CachedResult). All IsClassText r.names) made → All IsByBytes made
      made_by_bytes up made runs is zip classes =
          let own : made ≡ new_results (map here.key looked) runs = is ∙ ap (λ (ks : List Key). new_results ks runs) (sym keys_looked) in
          let there = subst (λ (l : List CachedResult). AllByRecursion (λ (r : CachedResult). All IsClassText r.names) l) own (recursion_from_All (λ (r : CachedResult). All IsClassText r.names) made classes) in
          All-from_recursion IsByBytes made (subst (λ (l : List CachedResult). AllByRecursion IsByBytes l) (sym own) (each_by_bytes up looked runs zip there))

      -- each has the key for which it is made
      new_keys : (made : List CachedResult) → AllZip (λ (m : ℕ × Key) r. IsNew here world m.1 r) ms made → AllZip (λ key r. keys_of r ≡ key ∷ []) (map (λ (m : ℕ × Key). m.1) ms) made
      new_keys made zip = key_each ms made zip
        where
          key_each : (ls : List (ℕ × Key)) (rs : List CachedResult) → AllZip (λ (m : ℕ × Key) r. IsNew here world m.1 r) ls rs → AllZip (λ key r. keys_of r ≡ key ∷ []) (map (λ (m : ℕ × Key). m.1) ls) rs
          key_each [] [] zip = tt
          key_each [] (r ∷ rs) zip = absurd zip
          key_each (m ∷ ls) [] zip = absurd zip
          key_each (m ∷ ls) (r ∷ rs) zip = (ap (λ (g : List KeyRows). map (λ (k : KeyRows). k.key) g) zip.0.group_is, key_each ls rs zip.1)

      -- ---- which names

      asked_each : (ws : List WrittenRule) (runs : List RuleRun) → AllZip Rests (map (λ (w : WrittenRule). w.rule) ws) runs
          → AskFor here world ws (name_set (names_of longest world (each (rule_meaning java_replies file.0 file.1) (map (λ (w : WrittenRule). w.rule) ws))))
      asked_each [] [] zip = none_named
      asked_each [] (came ∷ runs) zip = absurd zip
      asked_each (w ∷ ws) [] zip = absurd zip
      asked_each (w ∷ ws) (came ∷ runs) zip =
          let m : Asking Ruled = rule_meaning java_replies file.0 file.1 w.rule in
          let others : Asking (List Ruled) = each (rule_meaning java_replies file.0 file.1) (map (λ (w : WrittenRule). w.rule) ws) in
          let gives = zip.0.held is_told in
          record {
            own = name_set came.names;
            others = name_set (names_of longest world others);
            first = record {
              rows = came.rows;
              means = subst (λ (n : Asking Ruled). Means (whole world) n (Gives came.rows (name_set came.names))) (sym (run.files_are.meaning file.0 file.1 w))
                  (held-means u.world world m came.rows (name_set came.names) one_world gives);
            };
            rest = asked_each ws runs zip.1;
            all = ap (λ (l : List Name). name_set l) (names_of-bind longest world m (λ (v : Ruled). bind others (λ vs. Return (v ∷ vs)))
                ∙ ap (λ (l : List Name). names_of longest world m ++ l) (names_of-bind longest world others (λ vs. Return (value_of longest world m ∷ vs)) ∙ append-nil (names_of longest world others)))
                ∙ set_of_both (names_of longest world m) (names_of longest world others)
                ∙ ap (λ (s : NameSet). sets.union s (name_set (names_of longest world others))) (ap (λ (w : World). name_set (names_of longest w m)) (sym (one_world longest far)) ∙ gives.names_are longest far);
          }

      abbrev left_over : List WrittenRule
      left_over = unserved here found world file held

      -- the rules that are looked at have the keys of those that are not served
      same_keys : stay ≡ kept found.answers world keys old → (key : Key) → has_key (map here.key left_over) key ≡ has_key (map here.key looked) key
      same_keys is key =
          ap (λ (l : List Key). has_key l key) (both_tests here.key here.is_active (λ (k : Key). not (is_served_at found world file k)) held ∙ sym (made_is_unserved found.answers world keys old) ∙ (λ i. missing (sym is i) (keys_here i)))
          ∙ sym (keys_missing stay (keys_of_set set) (activity set file.0) key)
          ∙ ap (λ (l : List Key). has_key l key) (sym (keys_looked ∙ keys_numbered))

      asked_by : stay ≡ kept found.answers world keys old → (runs : List RuleRun) (o : Result JavaFile FileFault) → outcome_of file.1 ≡ o → AllZip Rests (rules_in o (chosen numbers rules)) runs
          → AskFor here world left_over (name_set (names_of longest world (each (rule_meaning java_replies file.0 file.1) (rules_in o (chosen numbers rules)))))
      asked_by is runs (Ok java) outcome zip =
          let all : List Rule → NameSet = λ l. name_set (names_of longest world (each (rule_meaning java_replies file.0 file.1) l)) in
          subst (λ (l : List Rule). AskFor here world left_over (all l)) (sym rules_looked)
          (same_asked here world looked left_over (all (map (λ (w : WrittenRule). w.rule) looked)) (asked_each looked runs (run_of runs zip)) (same_keys is))
      asked_by is runs (Err fault) outcome zip =
          subst (λ (s : NameSet). AskFor here world left_over s) (sym none_named)
          (none_asked here world left_over (λ rule. files.no_tree_is_nothing file.0 file.1 (fault_message fault) rule (run.files_are.head file.1 ∙ ap head_of outcome)))

    -- ---- results by bytes

    old_stand_by : IsInOrder found → (o : Option Entry) → entry_at found file ≡ o → has_no_tree o ≡ false → AreByBytes (results_of o)
    old_stand_by ordered None is tree = no_results
    old_stand_by ordered (Some e) is tree = subst (λ (h : Head). AreByBytesAt h e.results) (has_tree_at e tree).1 (old_by_bytes found file ordered e is)

    stay_stand : IsInOrder found → has_no_tree (entry_at found file) ≡ false → (stay : List CachedResult) → stay ≡ kept found.answers world keys old → AreByBytes stay
    stay_stand ordered tree stay is =
        subst (λ (l : List CachedResult). AreByBytes l) (sym is) (those_that_stay (serves found.answers world keys) old (old_stand_by ordered (entry_at found file) refl tree))

    -- ---- what is left

    -- over a right cache
    module _ (right : IsRightCache files found) where
      -- of a file without a tree by its old entry
      pub left_without_tree : (e : Entry) (left : LeftFile) (u : Told K) → entry_at found file ≡ Some e → has_no_tree (Some e) ≡ true → IsUsedAgain file e.head [] left → AsksReused u (Ok left.is_reused) → IsLeftFile files world found held file left
      left_without_tree e left u is tree again asks =
          let none : left.entry.results ≡ [] = none_of left.entry.results (length_permutation [] left.entry.results again.results.members) in
          record {
            entry = record {
              path = again.path;
              bytes = again.bytes;
              head = again.head_is ∙ old_head files world found held file right e is;
              results = subst (λ (l : List CachedResult). AreLeftBy (files.head file.1) here world found.answers old keys l) (sym none) (left_treeless files world found held file right e is tree);
            };
            reused = reused_here u left.is_reused asks;
            by_bytes = subst (λ (h : Head). AreByBytesAt h left.entry.results) (sym (again.head_is ∙ (no_tree_at e tree).1)) none;
          }

      -- of one whose rules are all served
      pub left_served : IsInOrder found → (e : Entry) (stay : List CachedResult) (left : LeftFile) (u v : Told K) → entry_at found file ≡ Some e → has_no_tree (Some e) ≡ false → Asks (kept_results found.answers e.results wanted) t u (Ok stay)
          → missing_numbers set file.0 stay ≡ [] → IsUsedAgain file e.head stay left → AsksReused v (Ok left.is_reused) → IsLeftFile files world found held file left
      left_served ordered e stay left u v is tree asks none again reused =
          let kept_asks = subst (λ (o : Option Entry). Asks (kept_results found.answers (results_of o) wanted) t u (Ok stay)) (sym is) asks in
          let has_tree = ap (λ (o : Option Entry). has_no_tree o) is ∙ tree in
          let stay_is = stays u stay kept_asks in
          let no_rules : missing_in set file.0 stay ≡ [] = empty_is (λ (m : ℕ × Key). m.0) (missing_in set file.0 stay) none in
          record {
            entry = record {
              path = again.path;
              bytes = again.bytes;
              head = again.head_is ∙ old_head files world found held file right e is;
              results = left_again files world found held file right e stay left.entry.results is tree stay_is (missing_here stay ∙ no_rules) again.results.members;
            };
            reused = reused_here v left.is_reused reused;
            by_bytes = subst (λ (h : Head). AreByBytesAt h left.entry.results) (sym (again.head_is ∙ (has_tree_at e tree).1))
                (all_together stay [] left.entry.results (keys_of_set set) (activity set file.0) (stay_stand ordered has_tree stay stay_is) (All-from_recursion IsByBytes [] tt)
                (subst (λ (l : List (ℕ × Key)). AllZip (λ (key : Key) (r : CachedResult). keys_of r ≡ key ∷ []) (map (λ (m : ℕ × Key). m.1) l) []) (sym no_rules) tt) again.results);
          }

      -- of one at which rules are looked at
      abbrev AreResults : Head → List CachedResult → Type 0
      AreResults head results = AreLeftBy (files.head file.1) here world found.answers old keys results × AreByBytesAt head results

      completed_by : RuleAscends → IsInOrder found → (u : Told K) (stay : List CachedResult) (left : LeftFile) → has_no_tree (entry_at found file) ≡ false → Asks (kept_results found.answers old wanted) t u (Ok stay)
          → (done : IsCompleted u set file stay left) (o : Result JavaFile FileFault) → outcome_of file.1 ≡ o → AllZip (λ rule came. RestsOn u (rule_meaning java_replies file.0 file.1 rule) came.rows came.names) (rules_in o (chosen (missing_numbers set file.0 stay) rules)) done.are_made.runs
          → AreResults left.entry.head left.entry.results
      completed_by up ordered u stay left tree asks done (Ok java) outcome zip =
          let made = done.made in
          let runs = done.are_made.runs in
          let stay_is = stays u stay asks in
          let came = run_of u asks.same_told asks.same_world stay runs zip in
          let new = new_of u asks.same_told asks.same_world stay made runs done.are_made.is came in
          let head : files.head file.1 ≡ heads.Package (package_name java.tree) = run.files_are.head file.1 ∙ ap head_of outcome in
          let own : left.entry.head ≡ heads.Package (package_name java.tree) = done.head_is ∙ ap head_of outcome in
          let placed = subst (λ (l : List (ℕ × Key)). AllZip (λ (m : ℕ × Key) r. IsNew here world m.1 r) l made) (missing_here stay) new in (
            left_with_tree files world found held file right (package_name java.tree) left.entry.results head (are_left files world found held file right stay made left.entry.results stay_is new done.results.members),
            subst (λ (h : Head). AreByBytesAt h left.entry.results) (sym own)
                (all_together stay made left.entry.results (keys_of_set set) (activity set file.0) (stay_stand ordered tree stay stay_is)
                (made_by_bytes u asks.same_told asks.same_world stay up made runs done.are_made.is came done.are_made.classes) (new_keys u asks.same_told asks.same_world stay made placed) done.results),
          )
      completed_by up ordered u stay left tree asks done (Err fault) outcome zip =
          let head : files.head file.1 ≡ heads.Message (fault_message fault) = run.files_are.head file.1 ∙ ap head_of outcome in
          let own : left.entry.head ≡ heads.Message (fault_message fault) = done.head_is ∙ ap head_of outcome in
          let none_old_here : old ≡ [] = none_old files world found held file right (fault_message fault) head tree in
          let no_stay : stay ≡ [] = stays u stay asks ∙ ap (λ (l : List CachedResult). kept found.answers world keys l) none_old_here in
          let no_runs = none_zipped (λ (rule : Rule) (came : RuleRun). RestsOn u (rule_meaning java_replies file.0 file.1 rule) came.rows came.names) done.are_made.runs zip in
          let no_made : done.made ≡ [] = done.are_made.is ∙ ap (λ (rs : List RuleRun). new_results (missing_keys set file stay) rs) no_runs ∙ none_made (missing_keys set file stay) in
          let moved : IsPermutation [] left.entry.results = subst (λ (l : List CachedResult). IsPermutation l left.entry.results) (λ i. no_stay i ++ no_made i) done.results.members in
          let none : left.entry.results ≡ [] = none_of left.entry.results (length_permutation [] left.entry.results moved) in
          (subst (λ (h : Head). AreLeftBy h here world found.answers old keys left.entry.results) (sym head) none, subst (λ (h : Head). AreByBytesAt h left.entry.results) (sym own) none)

      pub left_completed : RuleAscends → IsInOrder found → (stay : List CachedResult) (left : LeftFile) (u v : Told K) → has_no_tree (entry_at found file) ≡ false → Asks (kept_results found.answers old wanted) t u (Ok stay)
          → IsCompleted u set file stay left → AsksReused v (Ok left.is_reused) → IsLeftFile files world found held file left
      left_completed up ordered stay left u v tree asks done reused =
          let are = completed_by up ordered u stay left tree asks done (outcome_of file.1) refl (done.are_made.rest rules rules_here) in
          record {
            entry = record { path = done.path; bytes = done.bytes; head = done.head_is ∙ sym (run.files_are.head file.1); results = are.0 };
            reused = reused_here v left.is_reused reused;
            by_bytes = are.1;
          }

    -- ---- which names are asked

    module _ (own : NeedThemselves t.world) where
      abbrev asked_names : List Name
      asked_names = names_of longest world (reused_at found set rules file)

      looks_by : (u : Told K) (b : Bool) → AsksReused u (Ok b) → (asked : NameSet) → name_set asked_names ≡ sets.union (told_of files found world held file) asked → AskFor here world (analysed files found world held file b) asked
          → (names : NameSet) × LookedFile files found world held file names × (u.asked ≡ sets.union t.asked names)
      looks_by u b asks asked named ask = (
        name_set asked_names,
        record { asked = asked; comes = subst (λ (x : Bool). AskFor here world (analysed files found world held file x) asked) (reused_here u b asks) ask; all = named },
        (asks rules rules_here).asked_is run.is_told longest far
            ∙ asked_after-names longest (t.world longest) t.asked (reused_at found set rules file)
            ∙ ap (λ (w : World). with_names t.asked (all_needs (t.world longest) (names_of longest w (reused_at found set rules file)))) (run.one_world longest far)
            ∙ ap (λ (l : List Name). with_names t.asked l) (themselves (t.world longest) asked_names (own longest far))
            ∙ put_names t.asked asked_names,
      )

      -- at a file that is used again none is asked but to tell which results stand
      none_more : (u : Told K) (b : Bool) → b ≡ true → AsksReused u (Ok b) → asked_names ≡ looked_in found.answers world old keys ++ [] → (names : NameSet) × LookedFile files found world held file names × (u.asked ≡ sets.union t.asked names)
      none_more u b is asks named =
          looks_by u b asks (name_set []) (ap (λ (l : List Name). name_set l) named ∙ set_of_both (looked_in found.answers world old keys) [])
          (subst (λ (x : Bool). AskFor here world (analysed files found world held file x) (name_set [])) (sym is) none_named)

      pub looks_without_tree : IsInOrder found → (e : Entry) (u : Told K) (b : Bool) → b ≡ true → entry_at found file ≡ Some e → has_no_tree (Some e) ≡ true → AsksReused u (Ok b)
          → (names : NameSet) × LookedFile files found world held file names × (u.asked ≡ sets.union t.asked names)
      looks_without_tree ordered e u b reused is tree asks =
          let none : e.results ≡ [] = subst (λ (h : Head). AreByBytesAt h e.results) (no_tree_at e tree).1 (old_by_bytes found file ordered e is) in
          let none_old_here : old ≡ [] = ap (λ (o : Option Entry). results_of o) is ∙ none in
          let no_tree : has_no_tree (entry_at found file) ≡ true = ap (λ (o : Option Entry). has_no_tree o) is ∙ tree in
          none_more u b reused asks
          ((λ i. names_of longest world (if no_tree i then Return true else bind (kept_results found.answers old wanted) (then_missing set rules file (entry_at found file))))
          ∙ ap (λ (l : List CachedResult). looked_in found.answers world l keys ++ []) (sym none_old_here))

      names_by : has_no_tree (entry_at found file) ≡ false → asked_names ≡ looked_in found.answers world old keys ++ names_of longest world (then_missing set rules file (entry_at found file) (kept found.answers world keys old))
      names_by tree =
          (λ i. names_of longest world (if tree i then Return true else bind (kept_results found.answers old wanted) (then_missing set rules file (entry_at found file))))
          ∙ names_of-bind longest world (kept_results found.answers old wanted) (then_missing set rules file (entry_at found file))
          ∙ (λ i. names_kept longest world found.answers old wanted i ++ names_of longest world (then_missing set rules file (entry_at found file) (results_kept longest world found.answers old wanted i)))
          ∙ (λ i. looked_in found.answers world old (sym keys_here i) ++ names_of longest world (then_missing set rules file (entry_at found file) (kept found.answers world (sym keys_here i) old)))

      names_with : has_no_tree (entry_at found file) ≡ false → (u : Told K) (stay : List CachedResult) → Asks (kept_results found.answers old wanted) t u (Ok stay)
          → asked_names ≡ looked_in found.answers world old keys ++ names_of longest world (then_missing set rules file (entry_at found file) stay)
      names_with tree u stay asks = names_by tree
          ∙ ap (λ (l : List CachedResult). looked_in found.answers world old keys ++ names_of longest world (then_missing set rules file (entry_at found file) l)) (sym (stays u stay asks))

      pub looks_served : (e : Entry) (stay : List CachedResult) (u v : Told K) (b : Bool) → b ≡ true → entry_at found file ≡ Some e → has_no_tree (Some e) ≡ false → Asks (kept_results found.answers e.results wanted) t u (Ok stay)
          → missing_numbers set file.0 stay ≡ [] → AsksReused v (Ok b) → (names : NameSet) × LookedFile files found world held file names × (v.asked ≡ sets.union t.asked names)
      looks_served e stay u v b reused is tree asks none all =
          let kept_asks = subst (λ (o : Option Entry). Asks (kept_results found.answers (results_of o) wanted) t u (Ok stay)) (sym is) asks in
          let has_tree : has_no_tree (entry_at found file) ≡ false = ap (λ (o : Option Entry). has_no_tree o) is ∙ tree in
          let there : is_there (entry_at found file) ≡ true = ap (λ (o : Option Entry). is_there o) is in
          none_more v b reused all
          (names_with has_tree u stay kept_asks
          ∙ (λ i. looked_in found.answers world old keys ++ names_of longest world (if there i && is_empty (none i) then Return true else looked_at rules file (missing_numbers set file.0 stay))))

      pub looks_completed : (stay : List CachedResult) (left : LeftFile) (u v : Told K) → has_no_tree (entry_at found file) ≡ false → Asks (kept_results found.answers old wanted) t u (Ok stay)
          → (is_there (entry_at found file) && is_empty (missing_numbers set file.0 stay)) ≡ false → IsCompleted u set file stay left → AsksReused v (Ok left.is_reused)
          → (names : NameSet) × LookedFile files found world held file names × (v.asked ≡ sets.union t.asked names)
      looks_completed stay left u v tree asks some done all =
          let more : Asking (List Ruled) = chosen_meaning java_replies file.0 file.1 (missing_numbers set file.0 stay) rules in
          let named : names_of longest world (then_missing set rules file (entry_at found file) stay) ≡ names_of longest world more =
          (λ i. names_of longest world (if some i then Return true else looked_at rules file (missing_numbers set file.0 stay)))
          ∙ names_of-bind longest world more (λ came_to. Return false) ∙ append-nil (names_of longest world more) in
          looks_by v left.is_reused all (name_set (names_of longest world more))
          (ap (λ (l : List Name). name_set l) (names_with tree u stay asks ∙ ap (λ (l : List Name). looked_in found.answers world old keys ++ l) named) ∙ set_of_both (looked_in found.answers world old keys) (names_of longest world more))
          (subst (λ (x : Bool). AskFor here world (analysed files found world held file x) (name_set (names_of longest world more))) (sym done.reused)
          (asked_by u asks.same_told asks.same_world stay (stays u stay asks) done.are_made.runs (outcome_of file.1) refl (done.are_made.rest rules rules_here)))
