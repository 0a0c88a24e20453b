-- What a run leaves of files, and what it asks at them, over an oracle that tells its world.
use Rattle.std.specs.Prelude.{◌≡◌, ◌++◌, ◌∷◌, Bool, List, [], filter, length, map, not, if◌then◌else◌}
use Rattle.std.specs.FinSet.{union}
use Rattle.pj_cache.specs.declared.cache.Cache.{Cache}
use Rattle.pj_cache.specs.declared.cache.Entry.{Entry}
use Rattle.pj_cache_format.specs.Ordered.{HasItsName}
use Rattle.pj_cache_laws.specs.Reported.{all_rows}
use Rattle.pj_cache_laws.specs.Written.{WrittenRule}
use Rattle.pj_cached_files.specs.Asked.{activity, keys_of_set}
use Rattle.pj_cached_files.specs.LeftFile.{IsRun, StandsIn}
use Rattle.pj_cached_files.specs.Ran.{ran_at_all}
use Rattle.pj_cached_files.specs.declared.files.LeftFiles.{LeftFiles}
use Rattle.pj_findings.specs.Merged.{merge}
use Rattle.pj_fitting.specs.Left.{File, IsLeftCache}
use Rattle.pj_fitting.specs.Looked.{Looked, is_reusable}
use Rattle.pj_fitting.specs.Right.{Files}
use Rattle.pj_left_cache.specs.Said.{said_of_rules}
use Rattle.pj_names.specs.ClassName.{Name, NameSet}
use Rattle.pj_names.specs.Held.{NeedThemselves}
use Rattle.pj_names.specs.Told.{Told}
use Rattle.pj_outside.specs.Files.{Bytes}
use Rattle.pj_reports.specs.declared.rows.FileRows.{FileRows}
use Rattle.pj_rule_sets.specs.Rules.{EffectiveRules}
use Rattle.pj_workers.specs.Cold.{World}
use Rattle.pj_workers.specs.Rules.{Rule}
use Rattle.pj_workers.specs.declared.work.Work.{Work}

-- The cache that is left is the one that a run has to leave, and the rows are those that its entries say.
pub record AreLeftFiles (files : Files WrittenRule) (world : World) (found : Cache) (held : List WrittenRule) (list : List File) (left : LeftFiles) : Type 0 where
  pub cache : IsLeftCache files world found held list left.cache
  pub rows : left.rows ≡ all_rows files held list left.cache.entries

-- the rows of a file by its entry
abbrev pub rows_said : EffectiveRules → Entry → FileRows
rows_said set entry = merge entry.head (said_of_rules entry.results (keys_of_set set) (activity set entry.path))

-- with its path
abbrev pub path_rows : EffectiveRules → Entry → Bytes × FileRows
path_rows set entry = (entry.path, rows_said set entry)

-- the paths of files
abbrev pub paths_of : List File → List Bytes
paths_of list = map (λ (file : File). file.0) list

-- What was done: the files that can be used again as they are were, and the others were analysed, in their order; and just the rules were evaluated that have to be.
pub record IsDone (files : Files WrittenRule) (world : World) (found : Cache) (held : List WrittenRule) (list : List File) (before after : Work) : Type 0 where
  pub reused : after.reused ≡ before.reused ++ paths_of (filter (is_reusable files found world held) list)
  pub analysed : after.analysed ≡ before.analysed ++ paths_of (filter (λ file. not (is_reusable files found world held file)) list)
  pub ran : after.ran ≡ before.ran ++ ran_at_all files found world held list

-- the members of a list at whose places `true` stands
abbrev pub picked : {A : Type 0} → List Bool → List A → List A
picked [] list = []
picked (flag ∷ flags) [] = []
picked (flag ∷ flags) (x ∷ xs) = if flag then x ∷ picked flags xs else picked flags xs

-- Each of some paths came to just one of the two lists, in their order.
pub record ArePartedBy (paths : List Bytes) (before after : Work) : Type 0 where
  pub flags : List Bool
  pub as_many : length flags ≡ length paths
  pub reused : after.reused ≡ before.reused ++ picked flags paths
  pub analysed : after.analysed ≡ before.analysed ++ picked (map not flags) paths

-- A world has each class under its name, as class folders have: else a cache of its answers would not be in order.
abbrev pub HasClassesByName : World → Type 0
HasClassesByName world = (name : Name) → HasItsName name (world name)

-- in every run over the oracle, where the cache is right

abbrev pub LeavesAll : {K : Type 0} → Told K → EffectiveRules → Cache → List File → LeftFiles → Type 0
LeavesAll told set found list left =
    (files : Files WrittenRule) (world : World) (rules : List Rule) (held : List WrittenRule) → IsRun told set found files world rules held → HasClassesByName world → AreLeftFiles files world found held list left

abbrev pub Does : {K : Type 0} → Told K → EffectiveRules → Cache → List File → Work → Work → Type 0
Does told set found list before after =
    (files : Files WrittenRule) (world : World) (rules : List Rule) (held : List WrittenRule) → IsRun told set found files world rules held → IsDone files world found held list before after

-- whether the cache is right or not

abbrev pub Lists : {K : Type 0} → Told K → EffectiveRules → Cache → List File → Work → Work → Type 0
Lists told set found list before after =
    (files : Files WrittenRule) (world : World) (rules : List Rule) (held : List WrittenRule) → StandsIn told set files world rules held → IsDone files world found held list before after

-- To the names asked come just those for which a run asks at the files.
abbrev pub LooksAtAll : {K : Type 0} → Told K → NameSet → EffectiveRules → Cache → List File → Type 0
LooksAtAll told asked set found list =
    (files : Files WrittenRule) (world : World) (rules : List Rule) (held : List WrittenRule) → StandsIn told set files world rules held → NeedThemselves told.world
    → (names : NameSet) × Looked files found world held list names × (asked ≡ union told.asked names)
