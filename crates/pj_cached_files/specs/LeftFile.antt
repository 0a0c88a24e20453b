-- What a run leaves of a file, and what it asks there, over an oracle that tells its world.
use Rattle.std.specs.Prelude.{◌≡◌, ◌≤◌, ℕ, Bool, IsTrue, List}
use Rattle.std.specs.FinSet.{contains, union}
use Rattle.std.specs.List.{AllByRecursion}
use Rattle.pj_cache.specs.declared.cache.Cache.{Cache}
use Rattle.pj_cache.specs.declared.cache.CachedResult.{CachedResult}
use Rattle.pj_cache_laws.specs.Written.{AreFiles, AreWrittenRules, WrittenRule}
use Rattle.pj_cached_files.specs.Asked.{reused_at}
use Rattle.pj_cached_files.specs.Ran.{ran_at}
use Rattle.pj_cached_files.specs.declared.entry.LeftFile.{LeftFile}
use Rattle.pj_fitting.specs.Left.{File, IsLeftEntry}
use Rattle.pj_fitting.specs.Looked.{LookedFile, is_reusable}
use Rattle.pj_fitting.specs.Right.{Files, IsRightCache}
use Rattle.pj_left_cache.specs.Bytes.{AreByBytesAt}
use Rattle.pj_names.specs.Asking.{names_of}
use Rattle.pj_names.specs.ClassName.{Name, NameSet, name_set}
use Rattle.pj_names.specs.Held.{AreOne, NeedThemselves}
use Rattle.pj_names.specs.Told.{Told, longest}
use Rattle.pj_rule_sets.specs.Rules.{EffectiveRules}
use Rattle.pj_workers.specs.Cold.{World}
use Rattle.pj_workers.specs.JavaReplies.{java_replies}
use Rattle.pj_workers.specs.Rules.{AreRulesOf, Rule}

-- Where a run stands, whatever cache it found: files as they are, the rules of a set as they are written, and the one world that the oracle tells.
pub record StandsIn {K : Type 0} (told : Told K) (set : EffectiveRules) (files : Files WrittenRule) (world : World) (rules : List Rule) (held : List WrittenRule) : Type 0 where
  pub files_are : AreFiles java_replies files
  pub rules_are : AreWrittenRules set rules held
  pub is_told : IsTrue told.is_told
  pub one_world : AreOne told.world world

-- Where a run stands over a right cache: files as they are, the rules of a set as they are written, and the one world that the oracle tells, and the cache that was found is right.
pub record IsRun {K : Type 0} (told : Told K) (set : EffectiveRules) (found : Cache) (files : Files WrittenRule) (world : World) (rules : List Rule) (held : List WrittenRule) : Type 0 where
  pub files_are : AreFiles java_replies files
  pub rules_are : AreWrittenRules set rules held
  pub is_told : IsTrue told.is_told
  pub one_world : AreOne told.world world
  pub right : IsRightCache files found

-- What is left of a file is its entry, over the cache that was found, with its results in their order, and the file is used again as it is where it can be.
pub record IsLeftFile (files : Files WrittenRule) (world : World) (found : Cache) (held : List WrittenRule) (file : File) (left : LeftFile) : Type 0 where
  pub entry : IsLeftEntry files world found held file left.entry
  pub reused : left.is_reused ≡ is_reusable files found world held file
  pub by_bytes : AreByBytesAt left.entry.head left.entry.results

-- in every run over the oracle, where the cache is right
abbrev pub Leaves : {K : Type 0} → Told K → EffectiveRules → Cache → File → LeftFile → Type 0
Leaves told set found file left =
    (files : Files WrittenRule) (world : World) (rules : List Rule) (held : List WrittenRule) → IsRun told set found files world rules held → IsLeftFile files world found held file left

-- The file is used again as it is where it can be, whether the cache is right or not.
abbrev pub Reuses : {K : Type 0} → Told K → EffectiveRules → Cache → File → LeftFile → Type 0
Reuses told set found file left =
    (files : Files WrittenRule) (world : World) (rules : List Rule) (held : List WrittenRule) → StandsIn told set files world rules held → left.is_reused ≡ is_reusable files found world held file

-- Just the rules are evaluated that have to be, whether the cache is right or not.
abbrev pub Evaluates : {K : Type 0} → Told K → EffectiveRules → Cache → File → LeftFile → Type 0
Evaluates told set found file left =
    (files : Files WrittenRule) (world : World) (rules : List Rule) (held : List WrittenRule) → StandsIn told set files world rules held → left.ran ≡ ran_at files found world held file

-- To the names asked come just those for which a run asks at the file, whether the cache is right or not.
abbrev pub Looks : {K : Type 0} → Told K → NameSet → EffectiveRules → Cache → File → Type 0
Looks told asked set found file =
    (files : Files WrittenRule) (world : World) (rules : List Rule) (held : List WrittenRule) → StandsIn told set files world rules held → NeedThemselves told.world
    → (names : NameSet) × LookedFile files found world held file names × (asked ≡ union told.asked names)

-- each of some names is in a set
abbrev pub AreAmong : NameSet → List Name → Type 0
AreAmong names list = AllByRecursion (λ (n : Name). IsTrue (contains names n)) list

-- The names of results are among those that are asked at the file, in each world that the oracle tells.
abbrev pub NamesAreAsked : {K : Type 0} → Told K → EffectiveRules → Cache → File → List CachedResult → Type 0
NamesAreAsked told set found file results =
    (meant : List Rule) → AreRulesOf set meant → IsTrue told.is_told → (depth : ℕ) → longest ≤ depth
    → AllByRecursion (λ (r : CachedResult). AreAmong (name_set (names_of depth (told.world depth).answer (reused_at found set meant file))) r.names) results
