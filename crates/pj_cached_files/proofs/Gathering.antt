-- What is left of files in a run over an oracle, with one more file behind the others.
use Rattle.std.proofs.Common.{◌≡◌, ◌≤◌, ◌+◌, ◌∙◌, ◌++◌, ℕ, Bool, not, List, [], ◌∷◌, Ok, ap, append-nil, arith, filter, length, map, refl, subst, sym}
use Rattle.std.proofs.lemmas.List.{length-append, length-map, map-append}
use Rattle.std.proofs.lemmas.List.Concat.{flat_map-append}
use Rattle.std.specs.FinSet as names_in
use Rattle.std.specs.List.{AllByRecursion, AllZip}
use Rattle.std.specs.List.Sorted.{IsStrictlySortedBy}
use Rattle.pj_cache.specs.Places.{byte_order}
use Rattle.pj_cache.specs.declared.cache.Cache.{Cache}
use Rattle.pj_cache.specs.declared.cache.Entry.{Entry}
use Rattle.pj_cache_laws.specs.Reported.{all_rows, rows_of}
use Rattle.pj_cache_laws.specs.Written.{AreFiles, AreWrittenRules, WrittenRule}
use Rattle.pj_cached_files.proofs.CacheLeft.{cache_in, cache_left, cache_told}
use Rattle.pj_cached_files.proofs.Naming.{asks_no_more}
use Rattle.pj_cached_files.proofs.OneMore.{all_last, looked_last, passing_last, picked_last, put_alike, union_apart, union_none}
use Rattle.pj_cached_files.proofs.Rules.{activity_are, are_rules, keys_are}
use Rattle.pj_cached_files.specs.Asked.{activity, asked_at_all, keys_of_set}
use Rattle.pj_cached_files.specs.Gathered.{AreParted, Gathers, HasText, ListsGathered, NamesAreAskedAt, put_if}
use Rattle.pj_cached_files.specs.LeftFile.{Evaluates, IsRun, Leaves, Looks, Reuses, StandsIn}
use Rattle.pj_cached_files.specs.LeftFiles.{ArePartedBy, Does, LeavesAll, Lists, LooksAtAll, path_rows, picked}
use Rattle.pj_cached_files.specs.Ran.{ran_at, ran_at_all}
use Rattle.pj_cached_files.specs.declared.entry.LeftFile.{LeftFile}
use Rattle.pj_cached_files.specs.declared.files.Gathered.{Gathered}
use Rattle.pj_findings.specs.Merged.{merge}
use Rattle.pj_fitting.specs.Left.{File, IsLeftCache, IsLeftEntry, rows_at}
use Rattle.pj_fitting.specs.Looked.{is_reusable}
use Rattle.pj_fitting.specs.Right.{Files, Key, rules_at}
use Rattle.pj_left_cache.proofs.SaidLaws.{said_of_each}
use Rattle.pj_left_cache.specs.Bytes.{AreByBytesAt}
use Rattle.pj_left_cache.specs.Leaving.{left_cache}
use Rattle.pj_left_cache.specs.Said.{said_of_rules}
use Rattle.pj_names.specs.ClassName.{NameSet}
use Rattle.pj_names.specs.Held.{AreOne, NeedThemselves}
use Rattle.pj_names.specs.Told.{Asks, Told, Worlds, longest}
use Rattle.pj_outside.specs.Files.{Bytes}
use Rattle.pj_reports.specs.declared.rows.FileRows.{FileRows}
use Rattle.pj_reports.specs.declared.ruled.Ruled.{Ruled}
use Rattle.pj_rule_sets.specs.Rules.{EffectiveRules}
use Rattle.pj_workers.proofs.Running.{zip_last}
use Rattle.pj_workers.specs.Cold.{World}
use Rattle.pj_workers.specs.Evaluated.{with_path}
use Rattle.pj_workers.specs.JavaReplies.{java_replies}
use Rattle.pj_workers.specs.Rules.{AreRulesOf, Rule}
use Rattle.pj_workers.specs.declared.work.Work.{Work}

-- ---- the run

-- a run over a right cache stands there, whatever cache it found
pub stands_in : {K : Type 0} (t : Told K) (set : EffectiveRules) (found : Cache) (files : Files WrittenRule) (world : World) (rules : List Rule) (held : List WrittenRule) → IsRun t set found files world rules held → StandsIn t set files world rules held
stands_in t set found files world rules held run = record { files_are = run.files_are; rules_are = run.rules_are; is_told = run.is_told; one_world = run.one_world }

-- where the oracle still tells the same world, the run still stands there
pub stands_later : {K : Type 0} (t u : Told K) (set : EffectiveRules) (files : Files WrittenRule) (world : World) (rules : List Rule) (held : List WrittenRule) → u.is_told ≡ t.is_told → u.world ≡ t.world
    → StandsIn t set files world rules held → StandsIn u set files world rules held
stands_later t u set files world rules held same_told same_world run = record {
  files_are = run.files_are;
  rules_are = run.rules_are;
  is_told = same_told ∙ run.is_told;
  one_world = subst (λ (w : Worlds). AreOne w world) (sym same_world) run.one_world;
}

-- so it is over a right cache
pub run_later : {K : Type 0} (t u : Told K) (set : EffectiveRules) (found : Cache) (files : Files WrittenRule) (world : World) (rules : List Rule) (held : List WrittenRule) → u.is_told ≡ t.is_told → u.world ≡ t.world
    → IsRun t set found files world rules held → IsRun u set found files world rules held
run_later t u set found files world rules held same_told same_world run = record {
  files_are = run.files_are;
  rules_are = run.rules_are;
  is_told = same_told ∙ run.is_told;
  one_world = subst (λ (w : Worlds). AreOne w world) (sym same_world) run.one_world;
  right = run.right;
}

-- After what was asked, by whichever rules it is, the oracle still tells the same world.
abbrev pub StaysTold : {K : Type 0} → EffectiveRules → Told K → Told K → Type 0
StaysTold set t u = (meant : List Rule) → AreRulesOf set meant → (u.is_told ≡ t.is_told) × (u.world ≡ t.world)

-- ---- files

-- nothing was made of no files
pub gathers_none : {K : Type 0} (t : Told K) (set : EffectiveRules) (found : Cache) (all : Gathered) → all.entries ≡ [] → Gathers t set found [] all
gathers_none t set found all entries = λ files world rules held run. record {
  entries = subst (λ (es : List Entry). AllZip (IsLeftEntry files world found held) [] es) (sym entries) tt;
  by_bytes = subst (λ (es : List Entry). AllByRecursion (λ (e : Entry). AreByBytesAt e.head e.results) es) (sym entries) tt;
}

-- what is left of one more file is put behind the others
pub gathers_last : {K : Type 0} (t u : Told K) (set : EffectiveRules) (found : Cache) (list : List File) (file : File) (all more : Gathered) (left : LeftFile) → StaysTold set t u → Gathers t set found list all → Leaves u set found file left
    → more.entries ≡ all.entries ++ left.entry ∷ [] → Gathers t set found (list ++ file ∷ []) more
gathers_last t u set found list file all more left stays so_far leaves entries = λ files world rules held run.
    let same = stays rules (are_rules set rules held run.rules_are) in
    let one = leaves files world rules held (run_later t u set found files world rules held same.0 same.1 run) in
    let gathered = so_far files world rules held run in
    record {
      entries = subst (λ (es : List Entry). AllZip (IsLeftEntry files world found held) (list ++ file ∷ []) es) (sym entries)
          (zip_last (IsLeftEntry files world found held) list all.entries file left.entry gathered.entries one.entry);
      by_bytes = subst (λ (es : List Entry). AllByRecursion (λ (e : Entry). AreByBytesAt e.head e.results) es) (sym entries)
          (all_last (λ (e : Entry). AreByBytesAt e.head e.results) all.entries left.entry gathered.by_bytes one.by_bytes);
    }

-- no path of no files stands in a list
pub lists_none : {K : Type 0} (t : Told K) (set : EffectiveRules) (found : Cache) (all : Gathered) → all.reused ≡ [] → all.analysed ≡ [] → all.ran ≡ [] → ListsGathered t set found [] all
lists_none t set found all reused analysed ran = λ files world rules held run. record { reused = reused; analysed = analysed; ran = ran }

-- the path of one more file is put behind those of the others
pub lists_last : {K : Type 0} (t u : Told K) (set : EffectiveRules) (found : Cache) (list : List File) (file : File) (all more : Gathered) (left : LeftFile) → StaysTold set t u → ListsGathered t set found list all → Reuses u set found file left
    → Evaluates u set found file left → left.entry.path ≡ file.0 → more.reused ≡ put_if left.is_reused all.reused left.entry.path → more.analysed ≡ put_if (not left.is_reused) all.analysed left.entry.path
    → more.ran ≡ all.ran ++ with_path left.entry.path left.ran → ListsGathered t set found (list ++ file ∷ []) more
lists_last t u set found list file all more left stays so_far reuses evaluates path reused analysed ran = λ files world rules held run.
    let same = stays rules (are_rules set rules held run.rules_are) in
    let later = stands_later t u set files world rules held same.0 same.1 run in
    let one = reuses files world rules held later in
    let own = evaluates files world rules held later in
    let listed = so_far files world rules held run in
    let path_of : File → Bytes = λ f. f.0 in
    let ran_of : File → List (Bytes × ℕ) = λ f. with_path f.0 (ran_at files found world held f) in
    record {
      reused = reused ∙ put_alike _ _ _ _ _ _ one listed.reused path ∙ sym (passing_last path_of (is_reusable files found world held) file list);
      analysed = analysed ∙ put_alike _ _ _ _ _ _ (ap not one) listed.analysed path ∙ sym (passing_last path_of (λ (f : File). not (is_reusable files found world held f)) file list);
      ran = ran ∙ (λ i. listed.ran i ++ with_path (path i) (own i)) ∙ ap (λ (l : List (Bytes × ℕ)). ran_at_all files found world held list ++ l) (sym (append-nil (ran_of file))) ∙ sym (flat_map-append ran_of list (file ∷ []));
    }

-- the paths of no files are parted into nothing
pub parted_none : (all : Gathered) → all.reused ≡ [] → all.analysed ≡ [] → AreParted [] all
parted_none all reused analysed = record { flags = []; as_many = refl; reused = reused; analysed = analysed }

-- one more path comes to one of the lists
pub parted_last : (list : List File) (file : File) (all more : Gathered) (path : Bytes) (b : Bool) → AreParted (map (λ (f : File). f.0) list) all → path ≡ file.0 → more.reused ≡ put_if b all.reused path → more.analysed ≡ put_if (not b) all.analysed path
    → AreParted (map (λ (f : File). f.0) (list ++ file ∷ [])) more
parted_last list file all more path b parted is reused analysed =
    let paths : List Bytes = map (λ (f : File). f.0) list in
    let none_left : length (map not parted.flags) ≡ length paths = length-map parted.flags not ∙ parted.as_many in
    subst (λ (ps : List Bytes). AreParted ps more) (sym (map-append (λ (f : File). f.0) list (file ∷ []))) (record {
      flags = parted.flags ++ b ∷ [];
      as_many = length-append parted.flags (b ∷ []) ∙ ap (λ (n : ℕ). n + 1) parted.as_many ∙ sym (length-append paths (file.0 ∷ []));
      reused = reused ∙ put_alike b b all.reused (picked parted.flags paths) path file.0 refl parted.reused is ∙ sym (picked_last parted.flags paths b file.0 parted.as_many);
      analysed = analysed ∙ put_alike (not b) (not b) all.analysed (picked (map not parted.flags) paths) path file.0 refl parted.analysed is ∙ sym (picked_last (map not parted.flags) paths (not b) file.0 none_left)
          ∙ ap (λ (bs : List Bool). picked bs (paths ++ file.0 ∷ [])) (sym (map-append not parted.flags (b ∷ [])));
    })

-- the paths of entries are those of the files
pub paths_last : (list : List File) (file : File) (entries more : List Entry) (entry : Entry) → map (λ (e : Entry). e.path) entries ≡ map (λ (f : File). f.0) list → more ≡ entries ++ entry ∷ [] → entry.path ≡ file.0
    → map (λ (e : Entry). e.path) more ≡ map (λ (f : File). f.0) (list ++ file ∷ [])
paths_last list file entries more entry so_far put is =
    ap (λ (es : List Entry). map (λ (e : Entry). e.path) es) put ∙ map-append (λ (e : Entry). e.path) entries (entry ∷ [])
    ∙ (λ i. so_far i ++ is i ∷ []) ∙ sym (map-append (λ (f : File). f.0) list (file ∷ []))

-- so are its rows
pub rows_last : (set : EffectiveRules) (entries more : List Entry) (rows those : List (Bytes × FileRows)) (entry : Entry) → rows ≡ map (path_rows set) entries → more ≡ entries ++ entry ∷ [] → those ≡ rows ++ path_rows set entry ∷ [] → those ≡ map (path_rows set) more
rows_last set entries more rows those entry so_far put grown =
    grown ∙ ap (λ (l : List (Bytes × FileRows)). l ++ path_rows set entry ∷ []) so_far ∙ sym (map-append (path_rows set) entries (entry ∷ [])) ∙ ap (λ (l : List Entry). map (path_rows set) l) (sym put)

-- nothing was asked at no files
pub looks_none : {K : Type 0} (t : Told K) (set : EffectiveRules) (found : Cache) → LooksAtAll t t.asked set found []
looks_none t set found = λ files world rules held run own. (names_in.empty, refl, sym (union_none t.asked))

-- one more file is asked about
pub looks_last : {K : Type 0} (t u : Told K) (asked : NameSet) (set : EffectiveRules) (found : Cache) (list : List File) (file : File) → StaysTold set t u → LooksAtAll t u.asked set found list → Looks u asked set found file → LooksAtAll t asked set found (list ++ file ∷ [])
looks_last t u asked set found list file stays so_far looks = λ files world rules held run own.
    let same = stays rules (are_rules set rules held run.rules_are) in
    let before = so_far files world rules held run own in
    let now = looks files world rules held (stands_later t u set files world rules held same.0 same.1 run) (subst (λ (w : Worlds). NeedThemselves w) (sym same.1) own) in
    (names_in.union before.0 now.0, looked_last files found world held list file before.0 now.0 before.1 now.1, now.2 ∙ ap (λ (s : NameSet). names_in.union s now.0) before.2 ∙ union_apart t.asked before.0 now.0)

-- ---- what is left in the end

module _ (files : Files WrittenRule) (are : AreFiles java_replies files) (set : EffectiveRules) (rules : List Rule) (held : List WrittenRule) (written : AreWrittenRules set rules held) where
  module _ (world : World) (found : Cache) where
    said_is : (file : File) (e : Entry) → IsLeftEntry files world found held file e → said_of_rules e.results (keys_of_set set) (activity set e.path) ≡ map (rows_at (rules_at files file.0 file.1) e.results) held
    said_is file e left =
        ap (λ (path : Bytes). said_of_rules e.results (keys_of_set set) (activity set path)) left.path
        ∙ ap (λ (active : List Bool). said_of_rules e.results (keys_of_set set) active) (sym (activity_are files are set rules held written file.0))
        ∙ ap (λ (keys : List Key). said_of_rules e.results keys (map (files.is_active file.0) held)) (sym (keys_are files are set rules held written))
        ∙ said_of_each (rules_at files file.0 file.1) e.results held

    -- the rows by entries are those that the entries say
    pub all_said : (list : List File) (entries : List Entry) → AllZip (IsLeftEntry files world found held) list entries → map (path_rows set) entries ≡ all_rows files held list entries
    all_said [] [] left = refl
    all_said [] (e ∷ entries) left = absurd left
    all_said (file ∷ list) [] left = absurd left
    all_said (file ∷ list) (e ∷ entries) left =
        let first : path_rows set e ≡ rows_of files held file e = ap (λ (said : List Ruled). (e.path, merge e.head said)) (said_is file e left.0) in
        λ i. first i ∷ all_said list entries left.1 i

-- what is left of files is what a run has to leave
pub leaves_all : {K : Type 0} (t u v : Told K) (set : EffectiveRules) (found : Cache) (list : List File) (all : Gathered) (c : Cache) → StaysTold set t u → IsStrictlySortedBy byte_order (map (λ (file : File). file.0) list) → Gathers t set found list all
    → all.rows ≡ map (path_rows set) all.entries → AllByRecursion HasText all.entries → Asks (left_cache all.entries) u v (Ok c) → LeavesAll t set found list (record { cache = c; rows = all.rows })
leaves_all t u v set found list all c stays ascending gathers rows texts asks = λ files world rules held run named.
    let gathered = gathers files world rules held run in
    let same = stays rules (are_rules set rules held run.rules_are) in
    let is : c ≡ cache_in world all.entries = cache_told u v world all.entries c (same.0 ∙ run.is_told) (subst (λ (w : Worlds). AreOne w world) (sym same.1) run.one_world) asks in
    record {
      cache = subst (λ (k : Cache). IsLeftCache files world found held list k) (sym is) (cache_left files world found held list all.entries named ascending gathered.entries gathered.by_bytes texts);
      rows = rows ∙ all_said files run.files_are set rules held run.rules_are world found list all.entries gathered.entries ∙ ap (λ (k : Cache). all_rows files held list k.entries) (sym is);
    }

-- the paths are put behind those before
pub lists_all : {K : Type 0} (t : Told K) (set : EffectiveRules) (found : Cache) (list : List File) (all : Gathered) (before after : Work) → ListsGathered t set found list all → after.reused ≡ before.reused ++ all.reused → after.analysed ≡ before.analysed ++ all.analysed
    → after.ran ≡ before.ran ++ all.ran → Lists t set found list before after
lists_all t set found list all before after lists reused analysed ran = λ files world rules held run.
    let listed = lists files world rules held run in
    record {
      reused = reused ∙ ap (λ (l : List Bytes). before.reused ++ l) listed.reused;
      analysed = analysed ∙ ap (λ (l : List Bytes). before.analysed ++ l) listed.analysed;
      ran = ran ∙ ap (λ (l : List (Bytes × ℕ)). before.ran ++ l) listed.ran;
    }

-- so it is in a run over a right cache
pub does_all : {K : Type 0} (t : Told K) (set : EffectiveRules) (found : Cache) (list : List File) (before after : Work) → Lists t set found list before after → Does t set found list before after
does_all t set found list before after lists = λ files world rules held run. lists files world rules held (stands_in t set found files world rules held run)

-- each of them stands in one list
pub parts_all : (paths : List Bytes) (all : Gathered) (before after : Work) → AreParted paths all → after.reused ≡ before.reused ++ all.reused → after.analysed ≡ before.analysed ++ all.analysed → ArePartedBy paths before after
parts_all paths all before after parted reused analysed = record {
  flags = parted.flags;
  as_many = parted.as_many;
  reused = reused ∙ ap (λ (l : List Bytes). before.reused ++ l) parted.reused;
  analysed = analysed ∙ ap (λ (l : List Bytes). before.analysed ++ l) parted.analysed;
}

-- the names asked in the end are those of the files
pub looks_all : {K : Type 0} (t u v : Told K) (set : EffectiveRules) (found : Cache) (list : List File) (entries : List Entry) (c : Cache) → ((meant : List Rule) → AreRulesOf set meant → Asks (asked_at_all found set meant list) t u (Ok tt))
    → NamesAreAskedAt t set found list entries → Asks (left_cache entries) u v (Ok c) → LooksAtAll t u.asked set found list → LooksAtAll t v.asked set found list
looks_all t u v set found list entries c asks named more looks = λ files world rules held run own.
    let are = are_rules set rules held run.rules_are in
    let before = looks files world rules held run own in
    let far : longest ≤ longest = omega arith in
    let first = asks rules are in
    (before.0, before.1, more.asked_is (first.same_told ∙ run.is_told) longest far ∙ asks_no_more t u set found list entries rules are named first run.is_told longest far ∙ before.2)
