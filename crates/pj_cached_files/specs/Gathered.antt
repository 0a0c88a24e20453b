-- What was made of files so far. This serves private clauses.
use Rattle.std.specs.Prelude.{◌≡◌, ◌≤◌, ◌++◌, ◌∷◌, [], ℕ, Bool, IsTrue, true, List, filter, length, map, not, if◌then◌else◌}
use Rattle.std.specs.List.{AllByRecursion, AllZip}
use Rattle.std.specs.Str.{is_utf8}
use Rattle.pj_cache.specs.declared.cache.Cache.{Cache}
use Rattle.pj_cache.specs.declared.cache.CachedResult.{CachedResult}
use Rattle.pj_cache.specs.declared.cache.Entry.{Entry}
use Rattle.pj_cache_laws.specs.Written.{WrittenRule}
use Rattle.pj_cached_files.specs.Asked.{asked_at_all}
use Rattle.pj_cached_files.specs.LeftFile.{AreAmong, IsRun, StandsIn}
use Rattle.pj_cached_files.specs.LeftFiles.{paths_of, picked}
use Rattle.pj_cached_files.specs.Ran.{ran_at_all}
use Rattle.pj_cached_files.specs.declared.files.Gathered.{Gathered}
use Rattle.pj_fitting.specs.Left.{File, IsLeftEntry}
use Rattle.pj_fitting.specs.Looked.{is_reusable}
use Rattle.pj_fitting.specs.Right.{Files}
use Rattle.pj_left_cache.specs.Bytes.{AreByBytesAt}
use Rattle.pj_names.specs.Asking.{names_of}
use Rattle.pj_names.specs.ClassName.{NameSet, name_set}
use Rattle.pj_names.specs.Told.{Told, longest}
use Rattle.pj_outside.specs.Files.{Bytes}
use Rattle.pj_rule_sets.specs.Rules.{EffectiveRules}
use Rattle.pj_workers.specs.Cold.{World}
use Rattle.pj_workers.specs.Rules.{AreRulesOf, Rule}

-- a path behind others, if it is to be put there
abbrev pub put_if : Bool → List Bytes → Bytes → List Bytes
put_if is_put paths path = if is_put then paths ++ path ∷ [] else paths

-- what was made, apart from what it is
abbrev pub apart : Gathered → Unit {0}
apart all = tt

-- a path is a text
abbrev pub HasText : Entry → Type 0
HasText entry = is_utf8 entry.path ≡ true

-- The entries of files are those that a run leaves, with their results in their order.
pub record AreGathered (files : Files WrittenRule) (world : World) (found : Cache) (held : List WrittenRule) (list : List File) (all : Gathered) : Type 0 where
  pub entries : AllZip (IsLeftEntry files world found held) list all.entries
  pub by_bytes : AllByRecursion (λ (e : Entry). AreByBytesAt e.head e.results) all.entries

-- in every run over the oracle, where the cache is right
abbrev pub Gathers : {K : Type 0} → Told K → EffectiveRules → Cache → List File → Gathered → Type 0
Gathers told set found list all =
    (files : Files WrittenRule) (world : World) (rules : List Rule) (held : List WrittenRule) → IsRun told set found files world rules held → AreGathered files world found held list all

-- The paths of files stand with those of files that are used again, or are analysed, and with the rules that were evaluated.
pub record AreListed (files : Files WrittenRule) (world : World) (found : Cache) (held : List WrittenRule) (list : List File) (all : Gathered) : Type 0 where
  pub reused : all.reused ≡ paths_of (filter (is_reusable files found world held) list)
  pub analysed : all.analysed ≡ paths_of (filter (λ file. not (is_reusable files found world held file)) list)
  pub ran : all.ran ≡ ran_at_all files found world held list

-- in every run over the oracle, whether the cache is right or not
abbrev pub ListsGathered : {K : Type 0} → Told K → EffectiveRules → Cache → List File → Gathered → Type 0
ListsGathered told set found list all =
    (files : Files WrittenRule) (world : World) (rules : List Rule) (held : List WrittenRule) → StandsIn told set files world rules held → AreListed files world found held list all

-- Each of some paths stands in just one of the two lists.
pub record AreParted (paths : List Bytes) (all : Gathered) : Type 0 where
  pub flags : List Bool
  pub as_many : length flags ≡ length paths
  pub reused : all.reused ≡ picked flags paths
  pub analysed : all.analysed ≡ picked (map not flags) paths

-- the names of entries are in a set
abbrev pub HaveNamesAmong : NameSet → List Entry → Type 0
HaveNamesAmong names entries = AllByRecursion (λ (e : Entry). AllByRecursion (λ (r : CachedResult). AreAmong names r.names) e.results) entries

-- The names of entries are among those that are asked at the files, in each world that the oracle tells.
abbrev pub NamesAreAskedAt : {K : Type 0} → Told K → EffectiveRules → Cache → List File → List Entry → Type 0
NamesAreAskedAt told set found list entries =
    (meant : List Rule) → AreRulesOf set meant → IsTrue told.is_told → (depth : ℕ) → longest ≤ depth
    → HaveNamesAmong (name_set (names_of depth (told.world depth).answer (asked_at_all found set meant list))) entries
