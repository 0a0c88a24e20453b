-- What several workers leave is what a run has to leave.
use Rattle.std.proofs.Common.{◌≡◌, ◌∙◌, ◌++◌, ℕ, Bool, List, IsTrue, length, map, not, sym, subst, ap}
use Rattle.std.proofs.lemmas.List.{length-map}
use Rattle.std.specs.Prelude.{Ok, is_some}
use Rattle.std.specs.FinSet as set
use Rattle.std.specs.List.{AllByRecursion, AllZip}
use Rattle.std.specs.List.Sorted.{IsStrictlySortedBy}
use Rattle.pj_cache.specs.Places.{byte_order}
use Rattle.pj_cache.specs.declared.cache.Cache.{Cache}
use Rattle.pj_cache.specs.declared.cache.Entry.{Entry}
use Rattle.pj_cache_laws.specs.Reported.{all_rows}
use Rattle.pj_cached_files.proofs.CacheLeft.{cache_in, cache_left, cache_told}
use Rattle.pj_cached_files.proofs.Gathering.{all_said}
use Rattle.pj_cached_files.specs.Gathered.{HasText}
use Rattle.pj_cached_files.specs.LeftFile.{IsLeftFile}
use Rattle.pj_cached_files.specs.LeftFiles.{ArePartedBy, path_rows, picked}
use Rattle.pj_cached_files.specs.Ran.{ran_at}
use Rattle.pj_cached_files.specs.declared.entry.LeftFile.{LeftFile}
use Rattle.pj_fitting.specs.Left.{File, IsLeftCache, IsLeftEntry}
use Rattle.pj_fitting.specs.Looked.{is_reusable}
use Rattle.pj_left_cache.specs.Bytes.{AreByBytesAt}
use Rattle.pj_left_cache.specs.Leaving.{left_cache}
use Rattle.pj_names.specs.Asking.{Asking}
use Rattle.pj_names.specs.Told.{Asks, Told}
use Rattle.pj_outside.specs.Files.{Bytes}
use Rattle.pj_reports.specs.declared.rows.FileRows.{FileRows}
use Rattle.pj_rule_sets.specs.Rules.{EffectiveRules}
use Rattle.pj_table.specs.Telling.{tells_of}
use Rattle.pj_table.specs.Worlds.{World}
use Rattle.pj_workers.specs.declared.work.Work.{Work}
use Rattle.pj_shared_files.proofs.AllLeft.{CameIn, bytes_left, entries_left, flags_are, flags_are_not, picked_is, ran_is, weaken}
use Rattle.pj_shared_files.specs.Gathering.{entries_of, flags_of, ran_of}
use Rattle.pj_shared_files.specs.InWorlds.{LeavesAllIn, ListsIn}

-- ---- an oracle that never fails

pub made_by : {A K : Type 0} (m : Asking A) (first t u : Told K) (value : A) → t ≡ first → Asks m t u (Ok value) → (new : Told K) × Asks m first new (Ok value)
made_by {K = K} m first t u value is asks = (u, subst (λ (v : Told K). Asks m v u (Ok value)) is asks)

-- ---- in the world of the doors

module _ (world : World) (rules : EffectiveRules) (found : Cache) (list : List File) (made : List LeftFile) (told : IsTrue (is_some world)) (came : AllZip (CameIn world rules found) list made) where
  pub leaves : (entries : List Entry) (rows : List (Bytes × FileRows)) (c : Cache) (new : Told (Unit {0})) → IsStrictlySortedBy byte_order (map (λ (file : File). file.0) list) → entries ≡ entries_of list made → rows ≡ map (path_rows rules) entries
      → AllByRecursion HasText entries → Asks (left_cache entries) (tells_of tt world set.empty 0) new (Ok c) → LeavesAllIn world rules found list (record { cache = c; rows = rows })
  leaves entries rows c new ascending are said texts asks = λ files classes meant held run named.
      let each = weaken (CameIn world rules found) (IsLeftFile files classes found held) list made (λ file left one. one.1.leaves files classes meant held run) came in
      let left : AllZip (IsLeftEntry files classes found held) list entries = subst (λ (es : List Entry). AllZip (IsLeftEntry files classes found held) list es) (sym are) (entries_left files classes found held list made each) in
      let by : AllByRecursion (λ (e : Entry). AreByBytesAt e.head e.results) entries = subst (λ (es : List Entry). AllByRecursion (λ (e : Entry). AreByBytesAt e.head e.results) es) (sym are) (bytes_left files classes found held list made each) in
      let is : c ≡ cache_in classes entries = cache_told (tells_of tt world set.empty 0) new classes entries c told run.one_world asks in
      record {
        cache = subst (λ (k : Cache). IsLeftCache files classes found held list k) (sym is) (cache_left files classes found held list entries named ascending left by texts);
        rows = said ∙ all_said files run.files_are rules meant held run.rules_are classes found list entries left ∙ ap (λ (k : Cache). all_rows files held list k.entries) (sym is);
      }

  pub lists : (before after : Work) → after.reused ≡ before.reused ++ picked (flags_of made) (map (λ (file : File). file.0) list) → after.analysed ≡ before.analysed ++ picked (map not (flags_of made)) (map (λ (file : File). file.0) list)
      → after.ran ≡ before.ran ++ ran_of list made → ListsIn world rules found list before after
  lists before after reused analysed ran = λ files classes meant held run.
      let can : File → Bool = is_reusable files found classes held in
      let each = weaken (CameIn world rules found) (λ (file : File) (left : LeftFile). left.is_reused ≡ can file) list made (λ file left one. one.1.reuses files classes meant held run) came in
      let evaluated = weaken (CameIn world rules found) (λ (file : File) (left : LeftFile). left.ran ≡ ran_at files found classes held file) list made (λ file left one. one.1.evaluates files classes meant held run) came in
      let flags = flags_are can list made each in
      record {
        reused = reused ∙ ap (λ (l : List Bytes). before.reused ++ l) (picked_is can list (flags_of made) flags);
        analysed = analysed ∙ ap (λ (l : List Bytes). before.analysed ++ l) (picked_is (λ (file : File). not (can file)) list (map not (flags_of made)) (flags_are_not can list (flags_of made) flags));
        ran = ran ∙ ap (λ (l : List (Bytes × ℕ)). before.ran ++ l) (ran_is files classes found held list made evaluated);
      }

-- ---- in any world

-- each path stands in one of the two lists
pub parts : (list : List File) (made : List LeftFile) (before after : Work) → length made ≡ length list → after.reused ≡ before.reused ++ picked (flags_of made) (map (λ (file : File). file.0) list)
    → after.analysed ≡ before.analysed ++ picked (map not (flags_of made)) (map (λ (file : File). file.0) list) → ArePartedBy (map (λ (file : File). file.0) list) before after
parts list made before after long reused analysed = record {
  flags = flags_of made;
  as_many = length-map made (λ (left : LeftFile). left.is_reused) ∙ long ∙ sym (length-map list (λ (file : File). file.0));
  reused = reused;
  analysed = analysed;
}
