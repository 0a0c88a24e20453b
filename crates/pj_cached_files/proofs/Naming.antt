-- The names of what is left are among those that are asked at the files, so that asking for its answers asks no more.
use Rattle.std.proofs.Common.{◌≡◌, ◌≤◌, ◌∙◌, ◌++◌, ℕ, Bool, true, false, ◌&&◌, ◌||◌, List, [], ◌∷◌, Result, Ok, Err, ap, append-nil, arith, cond, filter, map, refl, subst, sym}
use Rattle.std.proofs.lemmas.List.{append_assoc}
use Rattle.std.proofs.lemmas.List.Concat.{flat_map-cons}
use Rattle.std.proofs.lemmas.List.Elements.{All-from_recursion, recursion_from_All}
use Rattle.std.proofs.lemmas.List.Sorted.{All-permutation}
use Rattle.std.specs.BTreeSet.{insert_key}
use Rattle.std.specs.Cmp.Lexicographic.{nat_list_cmp_total}
use Rattle.std.specs.FinSet as names_in
use Rattle.std.specs.FinSet.{contains-from_list}
use Rattle.std.specs.List.{AllByRecursion, AllZip, flat_map, list_all}
use Rattle.std.specs.Prelude.{IsTrue, if◌then◌else◌}
use Rattle.pj_cache.specs.Places.{byte_order}
use Rattle.pj_cache.specs.declared.cache.Cache.{Cache}
use Rattle.pj_cache.specs.declared.cache.CachedResult.{CachedResult}
use Rattle.pj_cache.specs.declared.cache.Entry.{Entry}
use Rattle.pj_cache_format.specs.FormatTwo.{names_of, results_of as results_of_all, with_more}
use Rattle.pj_cached_files.proofs.OneMore.{all_last}
use Rattle.pj_cached_files.specs.Asked.{active_keys_of, asked_at_all, looked_at, missing_numbers, reused_at, then_missing}
use Rattle.pj_cached_files.specs.Completed.{AreTogether, IsCompleted, IsUsedAgain, missing_keys}
use Rattle.pj_cached_files.specs.Gathered.{HaveNamesAmong, NamesAreAskedAt}
use Rattle.pj_cached_files.specs.LeftFile.{AreAmong, NamesAreAsked}
use Rattle.pj_cached_files.specs.Made.{new_results}
use Rattle.pj_cached_files.specs.declared.entry.LeftFile.{LeftFile}
use Rattle.pj_findings.specs.declared.run.RuleRun.{RuleRun}
use Rattle.pj_fitting.proofs.Among.{both_true}
use Rattle.pj_fitting.proofs.Lists.{all_joined, all_map}
use Rattle.pj_fitting.proofs.Named.{members}
use Rattle.pj_fitting.proofs.Sets.{in_first, in_rest, of_each, or_true, set_of_both}
use Rattle.pj_fitting.proofs.Sorted.{all_put}
use Rattle.pj_fitting.specs.Left.{File, entry_at, kept, results_of, serves}
use Rattle.pj_fitting.specs.Looked.{has_no_tree, is_there}
use Rattle.pj_fitting.specs.Right.{Key}
use Rattle.pj_left_cache.proofs.LeavingLaws.{left_names}
use Rattle.pj_left_cache.specs.Leaving.{left_cache}
use Rattle.pj_names.proofs.AskingLaws.{asked_after-names, with_names-append, within-trans}
use Rattle.pj_names.proofs.MeaningLaws.{names_of-bind}
use Rattle.pj_names.proofs.NameLists.{contains-with_names, is_in, same_names}
use Rattle.pj_names.specs.Asking.{Asking, Return, bind, each, is_empty, names_of as names_asked, value_of}
use Rattle.pj_names.specs.ClassName.{Name, NameSet, name_set}
use Rattle.pj_names.specs.Told.{Asks, IsWithin, Told, World as ToldWorld, Worlds, all_needs, asked_after, longest, seen, with_names}
use Rattle.pj_names.specs.declared.answer.Answer.{Answer}
use Rattle.pj_names.specs.declared.oracle.AskFault.{AskFault}
use Rattle.pj_names.specs.declared.oracle.AskFault.TheVariants.{Failed, Memory}
use Rattle.pj_parse.specs.FileOutcome.{outcome_of}
use Rattle.pj_reports.specs.declared.ruled.Head.{Head}
use Rattle.pj_reports.specs.declared.ruled.Ruled.{Ruled}
use Rattle.pj_reuse.proofs.KeptLaws.{names_kept, results_kept}
use Rattle.pj_reuse.specs.Serving.{has_key, has_one, is_kept, kept_results, looked_in, stands, up_to_change}
use Rattle.pj_rule_sets.specs.Rules.{EffectiveRules}
use Rattle.pj_workers.specs.Chosen.{chosen, chosen_meaning}
use Rattle.pj_workers.specs.FileMeaning.{rule_meaning}
use Rattle.pj_workers.specs.JavaReplies.{java_replies}
use Rattle.pj_workers.specs.Results.{RestsOn, rules_in}
use Rattle.pj_workers.specs.Rules.{AreRulesOf, Rule}

abbrev World : Type 0
World = Name → Answer

-- ---- lists of names

-- the names of a list whose set is within another one
each_within : (names : NameSet) (list : List Name) → ((q : Name) → IsTrue (names_in.contains (name_set list) q) → IsTrue (names_in.contains names q)) → AreAmong names list
each_within names list within =
    all_map (λ (x : Name). has_key list x ≡ true) (λ (n : Name). IsTrue (names_in.contains names n)) list (λ x here. within x (contains-from_list nat_list_cmp_total list x ∙ here)) (members [] list)

all_appended : {A : Type 0} (P : A → Type 0) (xs ys : List A) → AllByRecursion P xs → AllByRecursion P ys → AllByRecursion P (xs ++ ys)
all_appended P [] ys first second = second
all_appended P (x ∷ xs) ys first second = (first.0, all_appended P xs ys first.1 second)

wider : (few names : NameSet) → ((q : Name) → IsTrue (names_in.contains few q) → IsTrue (names_in.contains names q)) → (list : List Name) → AreAmong few list → AreAmong names list
wider few names within list all = all_map (λ (n : Name). IsTrue (names_in.contains few n)) (λ (n : Name). IsTrue (names_in.contains names n)) list within all

-- the names of results are in a set
abbrev HaveAmong : NameSet → List CachedResult → Type 0
HaveAmong names rs = AllByRecursion (λ (r : CachedResult). AreAmong names r.names) rs

wider_results : (few names : NameSet) → ((q : Name) → IsTrue (names_in.contains few q) → IsTrue (names_in.contains names q)) → (rs : List CachedResult) → HaveAmong few rs → HaveAmong names rs
wider_results few names within rs all = all_map (λ (r : CachedResult). AreAmong few r.names) (λ (r : CachedResult). AreAmong names r.names) rs (λ r some. wider few names within r.names some) all

-- two lists of names, one behind the other
in_front : (xs ys : List Name) (q : Name) → IsTrue (names_in.contains (name_set xs) q) → IsTrue (names_in.contains (name_set (xs ++ ys)) q)
in_front xs ys = in_first (name_set xs) (name_set ys) (name_set (xs ++ ys)) (set_of_both xs ys)

in_back : (xs ys : List Name) (q : Name) → IsTrue (names_in.contains (name_set ys) q) → IsTrue (names_in.contains (name_set (xs ++ ys)) q)
in_back xs ys = in_rest (name_set xs) (name_set ys) (name_set (xs ++ ys)) (set_of_both xs ys)

-- ---- results that stay

all_looked : (answers : List (Name × Answer)) (world : World) (names : List Name) → list_all (λ (n : Name). is_kept answers n (world n)) names ≡ true → up_to_change answers world names ≡ names
all_looked answers world [] e = refl
all_looked answers world (n ∷ ns) e =
    let both = both_true (is_kept answers n (world n)) (list_all (λ (m : Name). is_kept answers m (world m)) ns) e in
    rw both.0 (ap (λ (l : List Name). n ∷ l) (all_looked answers world ns both.1))

module _ (answers : List (Name × Answer)) (world : World) (keys : List Key) (names : NameSet) where
  abbrev looks : CachedResult → List Name
  looks r = cond (has_one keys r) (up_to_change answers world r.names) []

  one_stays : (r : CachedResult) (rs : List CachedResult) (b : Bool) → serves answers world keys r ≡ b → ((q : Name) → IsTrue (names_in.contains (name_set (looks r ++ looked_in answers world rs keys)) q) → IsTrue (names_in.contains names q))
      → HaveAmong names (filter (serves answers world keys) rs) → HaveAmong names (cond b (r ∷ filter (serves answers world keys) rs) (filter (serves answers world keys) rs))
  one_stays r rs true is within rest =
      let both = both_true (has_one keys r) (stands answers world r) is in
      let all : looks r ≡ r.names = ap (λ (b : Bool). cond b (up_to_change answers world r.names) []) both.0 ∙ all_looked answers world r.names both.1 in
      (each_within names r.names (λ q here. within q (in_front (looks r) (looked_in answers world rs keys) q (ap (λ (l : List Name). names_in.contains (name_set l) q) all ∙ here))), rest)
  one_stays r rs false is within rest = rest

  -- where the names that are looked at are in a set, those of the results that stay are
  stay_within : (rs : List CachedResult) → ((q : Name) → IsTrue (names_in.contains (name_set (looked_in answers world rs keys)) q) → IsTrue (names_in.contains names q)) → HaveAmong names (kept answers world keys rs)
  stay_within [] within = tt
  stay_within (r ∷ rs) within =
      let next : (q : Name) → IsTrue (names_in.contains (name_set (looks r ++ looked_in answers world rs keys)) q) → IsTrue (names_in.contains names q) =
      λ q here. within q (ap (λ (l : List Name). names_in.contains (name_set l) q) (flat_map-cons looks r rs) ∙ here) in
      one_stays r rs (serves answers world keys r) refl next (stay_within rs (λ q here. next q (in_back (looks r) (looked_in answers world rs keys) q here)))

-- the names of results that are kept are among those that are asked to tell it
kept_among : (depth : ℕ) (world : World) (answers : List (Name × Answer)) (old stay : List CachedResult) (keys : List Key) → stay ≡ value_of depth world (kept_results answers old keys)
    → HaveAmong (name_set (names_asked depth world (kept_results answers old keys))) stay
kept_among depth world answers old stay keys is =
    subst (λ (l : List CachedResult). HaveAmong (name_set (names_asked depth world (kept_results answers old keys))) l) (sym (is ∙ results_kept depth world answers old keys))
    (stay_within answers world keys (name_set (names_asked depth world (kept_results answers old keys))) old
    (λ q here. ap (λ (l : List Name). names_in.contains (name_set l) q) (names_kept depth world answers old keys) ∙ here))

-- ---- results that are made

each_first : {A B : Type 0} (depth : ℕ) (world : World) (f : A → Asking B) (x : A) (xs : List A) → names_asked depth world (each f (x ∷ xs)) ≡ names_asked depth world (f x) ++ names_asked depth world (each f xs)
each_first {A} {B} depth world f x xs =
    names_of-bind depth world (f x) (λ (v : B). bind (each f xs) (λ vs. Return (v ∷ vs)))
    ∙ ap (λ (l : List Name). names_asked depth world (f x) ++ l) (names_of-bind depth world (each f xs) (λ vs. Return (value_of depth world (f x) ∷ vs)) ∙ append-nil (names_asked depth world (each f xs)))

results_among : (names : NameSet) (keys : List Key) (runs : List RuleRun) → AllByRecursion (λ (r : RuleRun). AreAmong names r.names) runs → HaveAmong names (new_results keys runs)
results_among names [] runs all = tt
results_among names (key ∷ keys) [] all = tt
results_among names (key ∷ keys) (r ∷ runs) all = (all.0, results_among names keys runs all.1)

module _ {K : Type 0} (u : Told K) (is_told : IsTrue u.is_told) (depth : ℕ) (far : longest ≤ depth) (file : File) where
  abbrev asked_by : List Rule → List Name
  asked_by rules = names_asked depth (u.world depth).answer (each (rule_meaning java_replies file.0 file.1) rules)

  -- the names on which runs rest are among those that their rules ask
  runs_among : (rules : List Rule) (runs : List RuleRun) → AllZip (λ rule r. RestsOn u (rule_meaning java_replies file.0 file.1 rule) r.rows r.names) rules runs
      → AllByRecursion (λ (r : RuleRun). AreAmong (name_set (asked_by rules)) r.names) runs
  runs_among [] [] zip = tt
  runs_among [] (r ∷ runs) zip = absurd zip
  runs_among (rule ∷ rules) [] zip = absurd zip
  runs_among (rule ∷ rules) (r ∷ runs) zip =
      let own : List Name = names_asked depth (u.world depth).answer (rule_meaning java_replies file.0 file.1 rule) in
      let others : List Name = asked_by rules in
      let names_are : name_set own ≡ name_set r.names = (zip.0.held is_told).names_are depth far in
      let all : (own ++ others) ≡ asked_by (rule ∷ rules) = sym (each_first depth (u.world depth).answer (rule_meaning java_replies file.0 file.1) rule rules) in
      subst (λ (l : List Name). AllByRecursion (λ (s : RuleRun). AreAmong (name_set l) s.names) (r ∷ runs)) all (
        each_within (name_set (own ++ others)) r.names (λ q here. in_front own others q (ap (λ (s : NameSet). names_in.contains s q) names_are ∙ here)),
        all_map (λ (s : RuleRun). AreAmong (name_set others) s.names) (λ (s : RuleRun). AreAmong (name_set (own ++ others)) s.names) runs
            (λ s some. wider (name_set others) (name_set (own ++ others)) (in_back own others) s.names some) (runs_among rules runs zip.1),
      )

-- ---- a file

-- results together have the names of both
together_among : (names : NameSet) (stay made results : List CachedResult) → AreTogether stay made results → HaveAmong names stay → HaveAmong names made → HaveAmong names results
together_among names stay made results all first second =
    recursion_from_All (λ (r : CachedResult). AreAmong names r.names) results
    (All-permutation (λ (r : CachedResult). AreAmong names r.names) (stay ++ made) results all.members
    (All-from_recursion (λ (r : CachedResult). AreAmong names r.names) (stay ++ made) (all_appended (λ (r : CachedResult). AreAmong names r.names) stay made first second)))

module _ {K : Type 0} (t : Told K) (set : EffectiveRules) (found : Cache) (file : File) where
  abbrev old : List CachedResult
  old = results_of (entry_at found file)

  abbrev wanted : List Key
  wanted = active_keys_of set file.0

  -- no results have no names
  pub named_none : (head : Head) (left : LeftFile) → IsUsedAgain file head [] left → NamesAreAsked t set found file left.entry.results
  named_none head left again = λ meant are is_told depth far. together_among (name_set (names_asked depth (t.world depth).answer (reused_at found set meant file))) [] [] left.entry.results again.results tt tt

  module _ (tree : has_no_tree (entry_at found file) ≡ false) (u : Told K) (stay : List CachedResult) (asks : Asks (kept_results found.answers old wanted) t u (Ok stay)) where
    module _ (meant : List Rule) (is_told : IsTrue t.is_told) (depth : ℕ) (far : longest ≤ depth) where
      abbrev world : World
      world = (t.world depth).answer

      abbrev first : List Name
      first = names_asked depth world (kept_results found.answers old wanted)

      abbrev behind : List Name
      behind = names_asked depth world (then_missing set meant file (entry_at found file) stay)

      stay_is : stay ≡ value_of depth world (kept_results found.answers old wanted)
      stay_is = asks.value_is is_told depth far

      names_are : names_asked depth world (reused_at found set meant file) ≡ first ++ behind
      names_are =
          (λ i. names_asked depth world (if tree i then Return true else bind (kept_results found.answers old wanted) (then_missing set meant file (entry_at found file))))
          ∙ names_of-bind depth world (kept_results found.answers old wanted) (then_missing set meant file (entry_at found file))
          ∙ ap (λ (l : List CachedResult). first ++ names_asked depth world (then_missing set meant file (entry_at found file) l)) (sym stay_is)

      stay_among : HaveAmong (name_set (first ++ behind)) stay
      stay_among = wider_results (name_set first) (name_set (first ++ behind)) (in_front first behind) stay (kept_among depth world found.answers old stay wanted stay_is)

      made_names : (is_there (entry_at found file) && is_empty (missing_numbers set file.0 stay)) ≡ false → behind ≡ names_asked depth world (chosen_meaning java_replies file.0 file.1 (missing_numbers set file.0 stay) meant)
      made_names some =
          let more : Asking (List Ruled) = chosen_meaning java_replies file.0 file.1 (missing_numbers set file.0 stay) meant in
          (λ i. names_asked depth world (if some i then Return true else looked_at meant file (missing_numbers set file.0 stay)))
          ∙ names_of-bind depth world more (λ came_to. Return false) ∙ append-nil (names_asked depth world more)

    -- those that stay have names that are asked
    pub named_again : (head : Head) (left : LeftFile) → IsUsedAgain file head stay left → NamesAreAsked t set found file left.entry.results
    named_again head left again = λ meant are is_told depth far.
        subst (λ (l : List Name). HaveAmong (name_set l) left.entry.results) (sym (names_are meant is_told depth far))
        (together_among (name_set (first meant is_told depth far ++ behind meant is_told depth far)) stay [] left.entry.results again.results (stay_among meant is_told depth far) tt)

    -- so have those that are made
    pub named_completed : (left : LeftFile) → (is_there (entry_at found file) && is_empty (missing_numbers set file.0 stay)) ≡ false → IsCompleted u set file stay left → NamesAreAsked t set found file left.entry.results
    named_completed left some done = λ meant are is_told depth far.
        let before : List Name = first meant is_told depth far in
        let after : List Name = behind meant is_told depth far in
        let runs = done.are_made.runs in
        let rules : List Rule = rules_in (outcome_of file.1) (chosen (missing_numbers set file.0 stay) meant) in
        let own = runs_among u (asks.same_told ∙ is_told) depth far file rules runs (done.are_made.rest meant are) in
        let here = subst (λ (w : Worlds). HaveAmong (name_set (names_asked depth (w depth).answer (each (rule_meaning java_replies file.0 file.1) rules))) (new_results (missing_keys set file stay) runs)) asks.same_world
        (results_among (name_set (names_asked depth (u.world depth).answer (each (rule_meaning java_replies file.0 file.1) rules))) (missing_keys set file stay) runs own) in
        let there = subst (λ (l : List Name). HaveAmong (name_set l) (new_results (missing_keys set file stay) runs)) (sym (made_names meant is_told depth far some)) here in
        let made = subst (λ (rs : List CachedResult). HaveAmong (name_set after) rs) (sym done.are_made.is) there in
        subst (λ (l : List Name). HaveAmong (name_set l) left.entry.results) (sym (names_are meant is_told depth far))
        (together_among (name_set (before ++ after)) stay done.made left.entry.results done.results (stay_among meant is_told depth far) (wider_results (name_set after) (name_set (before ++ after)) (in_back before after) done.made made))

-- ---- files

each_last : {A B : Type 0} (depth : ℕ) (world : World) (f : A → Asking B) (xs : List A) (x : A) → names_asked depth world (each f (xs ++ x ∷ [])) ≡ names_asked depth world (each f xs) ++ names_asked depth world (f x)
each_last depth world f [] x = each_first depth world f x [] ∙ append-nil (names_asked depth world (f x))
each_last depth world f (y ∷ xs) x =
    each_first depth world f y (xs ++ x ∷ [])
    ∙ ap (λ (l : List Name). names_asked depth world (f y) ++ l) (each_last depth world f xs x)
    ∙ sym (append_assoc (names_asked depth world (f y)) (names_asked depth world (each f xs)) (names_asked depth world (f x)))
    ∙ ap (λ (l : List Name). l ++ names_asked depth world (f x)) (sym (each_first depth world f y xs))

module _ (depth : ℕ) (world : World) (found : Cache) (set : EffectiveRules) (meant : List Rule) where
  all_names : (list : List File) → names_asked depth world (asked_at_all found set meant list) ≡ names_asked depth world (each (reused_at found set meant) list)
  all_names list = names_of-bind depth world (each (reused_at found set meant) list) (λ reused. Return tt) ∙ append-nil (names_asked depth world (each (reused_at found set meant) list))

  one_more : (list : List File) (file : File) → names_asked depth world (asked_at_all found set meant (list ++ file ∷ [])) ≡ names_asked depth world (asked_at_all found set meant list) ++ names_asked depth world (reused_at found set meant file)
  one_more list file =
      all_names (list ++ file ∷ []) ∙ each_last depth world (reused_at found set meant) list file
      ∙ ap (λ (l : List Name). l ++ names_asked depth world (reused_at found set meant file)) (sym (all_names list))

-- the names of one more entry are among those that are asked at its file
pub named_last : {K : Type 0} (t u : Told K) (set : EffectiveRules) (found : Cache) (list : List File) (file : File) (entries more : List Entry) (entry : Entry)
    → ((meant : List Rule) → AreRulesOf set meant → (u.is_told ≡ t.is_told) × (u.world ≡ t.world)) → NamesAreAskedAt t set found list entries → NamesAreAsked u set found file entry.results → more ≡ entries ++ entry ∷ []
    → NamesAreAskedAt t set found (list ++ file ∷ []) more
named_last t u set found list file entries more entry stays so_far last is = λ meant are is_told depth far.
    let same = stays meant are in
    let world : World = (t.world depth).answer in
    let before : List Name = names_asked depth world (asked_at_all found set meant list) in
    let after : List Name = names_asked depth world (reused_at found set meant file) in
    let own : HaveAmong (name_set after) entry.results =
    subst (λ (w : Worlds). HaveAmong (name_set (names_asked depth (w depth).answer (reused_at found set meant file))) entry.results) same.1 (last meant are (same.0 ∙ is_told) depth far) in
    let all : HaveNamesAmong (name_set (before ++ after)) entries =
    all_map (λ (e : Entry). HaveAmong (name_set before) e.results) (λ (e : Entry). HaveAmong (name_set (before ++ after)) e.results) entries
    (λ e some. wider_results (name_set before) (name_set (before ++ after)) (in_front before after) e.results some) (so_far meant are is_told depth far) in
    let here = all_last (λ (e : Entry). HaveAmong (name_set (before ++ after)) e.results) entries entry all (wider_results (name_set after) (name_set (before ++ after)) (in_back before after) entry.results own) in
    subst (λ (l : List Name). HaveNamesAmong (name_set l) more) (sym (one_more depth world found set meant list file)) (subst (λ (es : List Entry). HaveNamesAmong (name_set (before ++ after)) es) (sym is) here)

-- ---- a cache of entries

all_more : (P : List ℕ → Type 0) (held xs : List (List ℕ)) → AllByRecursion P held → AllByRecursion P xs → AllByRecursion P (with_more held xs)
all_more P held [] all more = all
all_more P held (x ∷ xs) all more = all_more P (insert_key byte_order held x) xs (all_put P x held more.0 all) more.1

entries_among : (names : NameSet) (entries : List Entry) → HaveNamesAmong names entries → AreAmong names (names_of entries)
entries_among names entries all =
    all_more (λ (n : Name). IsTrue (names_in.contains names n)) [] (flat_map (λ (r : CachedResult). r.names) (results_of_all entries)) tt
    (all_joined (λ (n : Name). IsTrue (names_in.contains names n)) (λ (r : CachedResult). r.names) (results_of_all entries)
    (all_joined (λ (r : CachedResult). AreAmong names r.names) (λ (e : Entry). e.results) entries all))

by_or : (a b : Bool) → (b ≡ true → a ≡ true) → (a || b) ≡ a
by_or true b within = refl
by_or false false within = refl
by_or false true within = sym (within refl)

nothing_more : (names : NameSet) (list : List Name) → AreAmong names list → with_names names list ≡ names
nothing_more names list within = same_names (with_names names list) names (λ q.
    contains-with_names names list q
    ∙ by_or (names_in.contains names q) (is_in list q) (λ there. of_each (λ (n : Name). IsTrue (names_in.contains names n)) list q within (contains-from_list nat_list_cmp_total list q ∙ there)))

-- names that are put to a set are in it, also with more
put_there : (s : NameSet) (list more : List Name) → AreAmong (with_names (with_names s list) more) list
put_there s list more = each_within (with_names (with_names s list) more) list (λ q here.
    let there : is_in list q ≡ true = sym (contains-from_list nat_list_cmp_total list q) ∙ here in
    let first : names_in.contains (with_names s list) q ≡ true = contains-with_names s list q ∙ ap (λ (b : Bool). names_in.contains s q || b) there ∙ or_true (names_in.contains s q) in
    contains-with_names (with_names s list) more q ∙ ap (λ (b : Bool). b || is_in more q) first)

-- so are the needs of names
needs_there : (w : ToldWorld) (s : NameSet) (list : List Name) → AllByRecursion (λ (n : Name). AreAmong (with_names s (all_needs w list)) (w.needs n)) list
needs_there w s [] = tt
needs_there w s (n ∷ ns) =
    subst (λ (x : NameSet). AllByRecursion (λ (m : Name). AreAmong x (w.needs m)) (n ∷ ns)) (sym (with_names-append s (w.needs n) (all_needs w ns)))
    (put_there s (w.needs n) (all_needs w ns), needs_there w (with_names s (w.needs n)) ns)

needs_among : (w : ToldWorld) (s : NameSet) (list few : List Name) → AllByRecursion (λ (n : Name). AreAmong s (w.needs n)) list → AreAmong (name_set list) few → AreAmong s (all_needs w few)
needs_among w s list [] all among = tt
needs_among w s list (n ∷ ns) all among =
    all_appended (λ (q : Name). IsTrue (names_in.contains s q)) (w.needs n) (all_needs w ns) (of_each (λ (m : Name). AreAmong s (w.needs m)) list n all among.0) (needs_among w s list ns all among.1)

none_new : (w : ToldWorld) (s : NameSet) (list few : List Name) → AreAmong (name_set list) few → with_names (with_names s (all_needs w list)) (all_needs w few) ≡ with_names s (all_needs w list)
none_new w s list few among = nothing_more (with_names s (all_needs w list)) (all_needs w few) (needs_among w (with_names s (all_needs w list)) list few (needs_there w s list) among)

-- where the files were asked about, asking for the answers of a cache of their entries asks no more
abbrev pub AsksNoMore : {K : Type 0} → Told K → Told K → List Entry → Type 0
AsksNoMore t u entries = IsTrue t.is_told → (depth : ℕ) → longest ≤ depth → asked_after depth (u.world depth) u.asked (left_cache entries) ≡ u.asked

pub asks_no_more : {K : Type 0} (t u : Told K) (set : EffectiveRules) (found : Cache) (list : List File) (entries : List Entry) (meant : List Rule) → AreRulesOf set meant → NamesAreAskedAt t set found list entries
    → Asks (asked_at_all found set meant list) t u (Ok tt) → AsksNoMore t u entries
asks_no_more t u set found list entries meant are named asks = λ is_told depth far.
    let w : ToldWorld = t.world depth in
    let names : List Name = names_asked depth w.answer (asked_at_all found set meant list) in
    let is : u.asked ≡ with_names t.asked (all_needs w names) = asks.asked_is is_told depth far ∙ asked_after-names depth w t.asked (asked_at_all found set meant list) in
    asked_after-names depth (u.world depth) u.asked (left_cache entries)
    ∙ ap (λ (l : List Name). with_names u.asked (all_needs (u.world depth) l)) (left_names depth (u.world depth).answer entries)
    ∙ (λ i. with_names (is i) (all_needs (asks.same_world i depth) (names_of entries)))
    ∙ none_new w t.asked names (names_of entries) (entries_among (name_set names) entries (named meant are is_told depth far))
    ∙ sym is

-- ---- what asks no more

-- What asks no more behind a meaning that asks is as if it were not there, but that it may be refused.
pub asks_behind : {K A B : Type 0} (m : Asking A) (n : Asking B) (a : A) (t u v : Told K) (r : Result B AskFault) (s : Result A AskFault) → Asks m t u (Ok a) → Asks n u v r
    → (IsTrue t.is_told → (depth : ℕ) → longest ≤ depth → asked_after depth (u.world depth) u.asked n ≡ u.asked) → s ≡ seen (λ b. a) r → Asks m t v s
asks_behind {K} {A} {B} m n a t u v (Ok b) s first more none is = subst (λ (x : Result A AskFault). Asks m t v x) (sym is) (record {
  same_told = more.same_told ∙ first.same_told;
  same_world = more.same_world ∙ first.same_world;
  same_kept = more.same_kept ∙ first.same_kept;
  faults_grow = omega (arith, first.faults_grow, more.faults_grow);
  faults_stay = more.faults_stay ∙ first.faults_stay;
  failed = λ fails. absurd (cc);
  value_is = λ told depth far. first.value_is told depth far;
  asked_is = λ told depth far. more.asked_is (first.same_told ∙ told) depth far ∙ none told depth far ∙ first.asked_is told depth far;
  asked_stays = within-trans first.asked_stays more.asked_stays;
  asked_within = λ told depth far. subst (λ (x : NameSet). IsWithin v.asked x) (none told depth far ∙ first.asked_is told depth far) (more.asked_within (first.same_told ∙ told) depth far);
})
asks_behind {K} {A} {B} m n a t u v (Err Memory) s first more none is = subst (λ (x : Result A AskFault). Asks m t v x) (sym is) (record {
  same_told = more.same_told ∙ first.same_told;
  same_world = more.same_world ∙ first.same_world;
  same_kept = more.same_kept ∙ first.same_kept;
  faults_grow = omega (arith, first.faults_grow, more.faults_grow);
  faults_stay = more.faults_stay ∙ first.faults_stay;
  failed = λ fails. absurd (cc);
  value_is = λ told depth far. tt;
  asked_is = λ told depth far. tt;
  asked_stays = within-trans first.asked_stays more.asked_stays;
  asked_within = λ told depth far. subst (λ (x : NameSet). IsWithin v.asked x) (none told depth far ∙ first.asked_is told depth far) (more.asked_within (first.same_told ∙ told) depth far);
})
asks_behind {K} {A} {B} m n a t u v (Err Failed) s first more none is = subst (λ (x : Result A AskFault). Asks m t v x) (sym is) (record {
  same_told = more.same_told ∙ first.same_told;
  same_world = more.same_world ∙ first.same_world;
  same_kept = more.same_kept ∙ first.same_kept;
  faults_grow = omega (arith, first.faults_grow, more.faults_grow);
  faults_stay = tt;
  failed = λ fails. omega (arith, first.faults_grow, more.failed refl);
  value_is = λ told depth far. tt;
  asked_is = λ told depth far. tt;
  asked_stays = within-trans first.asked_stays more.asked_stays;
  asked_within = λ told depth far. subst (λ (x : NameSet). IsWithin v.asked x) (none told depth far ∙ first.asked_is told depth far) (more.asked_within (first.same_told ∙ told) depth far);
})
