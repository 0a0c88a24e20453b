-- What follows from the definitions.
use Rattle.std.specs.Prelude.{⊤, ◌≡◌, ◌⊎◌, false, List, [], ◌∷◌, map, Option, Some, IfSome, Ok}
use Rattle.std.specs.List.{All, AllByRecursion, AllZip}
use Rattle.std.specs.List.Sorted.{IsStrictlySortedBy}
use Rattle.pj_outside.specs.Doors.{ClassFolders}
use Rattle.pj_outside.specs.Files.{Files, Bytes, bytes_at}
use Rattle.pj_reports.specs.declared.rows.FileRows.{FileRows}
use Rattle.pj_rule_sets.specs.Rules.{EffectiveRules}
use Rattle.pj_settings.specs.Job.{job}
use Rattle.pj_settings.specs.declared.settings.Settings.{Settings}
use Rattle.pj_sources.specs.Paths.{byte_order}
use Rattle.pj_sources.specs.Reading.{AreRead}
use Rattle.pj_sources.specs.declared.listing.Listing.{Listing}
use Rattle.pj_workers.specs.Calls.{asks_nothing}
use Rattle.pj_workers.specs.JavaReplies.{java_replies}
use Rattle.pj_workers.specs.Laws.{AreInOrder, FindWhatIsDenoted}
use Rattle.pj_workers.specs.Rules.{AreRulesOf, Rule}
use Rattle.pj_cache_store.specs.declared.loading.Unused.{Unused}
use Rattle.pj_cold.specs.Cold.{world_of}
use Rattle.pj_cold.specs.Laws.{SetCallsOnly, SetSettles}
use Rattle.pj_check.specs.Caching.{ContentFits, FindsFitting, WorkSeen}
use Rattle.pj_check.specs.Kept.{LeavesCache, SaysOfCache}
use Rattle.pj_check.specs.Refused.{IsRefused}
use Rattle.pj_check.specs.Run.{HasRules, IsRun, Run}
use Rattle.pj_check.specs.declared.cache.CacheNotes.{CacheNotes}
use Rattle.pj_check.specs.declared.outcome.Outcome.{Outcome}

-- Words and files that have a run have no cause of refusal. So a run over a tree that tells its files comes to its report, or the tree,
-- the class path or the sink failed, or memory was wanting.
abbrev pub RunIsNotRefused : Type 0
RunIsNotRefused = (words : List Bytes) (held : Files) (classes : ClassFolders) (run : Run) (outcome : Outcome) → IsRun words held classes run → IsRefused words held outcome → ⊥

-- They have one cause of refusal at most.
abbrev pub OneRefusal : Type 0
OneRefusal = (words : List Bytes) (held : Files) (a b : Outcome) → IsRefused words held a → IsRefused words held b → a ≡ b

-- Words, files and class folders have one run at most.
abbrev pub OneRun : Type 0
OneRun = (words : List Bytes) (held : Files) (classes : ClassFolders) (a b : Run) → IsRun words held classes a → IsRun words held classes b → a ≡ b

-- The report of a run has its files by path, in the order of their bytes, each once; and the rows of each file in order.
abbrev pub ReportIsInOrder : Type 0
ReportIsInOrder = (words : List Bytes) (held : Files) (classes : ClassFolders) (run : Run) → IsRun words held classes run
    → IsStrictlySortedBy byte_order (map (λ (of_file : Bytes × FileRows). of_file.0) run.report.files) × AllByRecursion (λ (of_file : Bytes × FileRows). AreInOrder of_file.1) run.report.files

-- The report of a run says of each source and of each rule what the rule denotes there, in the world of the class folders.
abbrev pub ReportFindsWhatIsDenoted : Type 0
ReportFindsWhatIsDenoted = (words : List Bytes) (held : Files) (classes : ClassFolders) (run : Run) → IsRun words held classes run
    → (rules : List Rule) × AreRulesOf run.rules rules × AllZip (FindWhatIsDenoted java_replies (world_of classes run.settings.classes) rules) run.sources run.report.files

-- What the rules to which words and files come mean at their sources comes to something, over the class folders of the words.
abbrev pub RunSettles : List Bytes → Files → ClassFolders → Type 0
RunSettles words held classes = (settings : Settings) (listing : Listing) (rules : EffectiveRules) (sources : Files) → HasRules words held settings listing rules → AreRead held listing.paths sources
    → SetSettles (world_of classes settings.classes) sources rules

-- Words, files and class folders have a run or a cause of refusal, if what the rules mean comes to something.
abbrev pub RunOrRefusal : Type 0
RunOrRefusal = (words : List Bytes) (held : Files) (classes : ClassFolders) → RunSettles words held classes → ((run : Run) × IsRun words held classes run) ⊎ ((outcome : Outcome) × IsRefused words held outcome)

-- So they have a run or a cause of refusal, whatever the class folders, if the rules that they name do not look at types.
abbrev pub RunOrRefusalWithoutTypes : Type 0
RunOrRefusalWithoutTypes = (words : List Bytes) (held : Files) (classes : ClassFolders) → ((settings : Settings) (listing : Listing) (rules : EffectiveRules) → HasRules words held settings listing rules → SetCallsOnly asks_nothing rules)
    → ((run : Run) × IsRun words held classes run) ⊎ ((outcome : Outcome) × IsRefused words held outcome)

-- What stands under a name of a keeper fits again after a run over a tree and a class path that tell what they hold, if it did before: whatever came of the run, whether the name
-- is that of its cache or another, and also where the new cache was not put in its place.
abbrev pub KeepersStayFit : Type 0
KeepersStayFit = (outcome : Outcome) (words : List Bytes) (held : Files) (classes : ClassFolders) (kept : Files) (new : Option Files) (before after : WorkSeen) (told : CacheNotes) (name : Bytes)
    → SaysOfCache outcome words (Some held) (Some classes) (Some kept) new before after told → ContentFits (bytes_at kept name) → IfSome new (λ now. ContentFits (bytes_at now name))

-- So it does after every list of such runs, whatever is changed between them: the files, the class folders, the rulesets and the words.
pub record RunOver (old new : Files) : Type 0 where
  pub outcome : Outcome
  pub words : List Bytes
  pub held : Files
  pub classes : ClassFolders
  pub before : WorkSeen
  pub after : WorkSeen
  pub told : CacheNotes
  pub says : SaysOfCache outcome words (Some held) (Some classes) (Some old) (Some new) before after told

-- what a keeper holds before and after a list of runs
abbrev pub RunsOver : Files → List Files → Type 0
RunsOver old [] = ⊤
RunsOver old (new ∷ later) = RunOver old new × RunsOver new later

abbrev pub KeepersStayFitForever : Type 0
KeepersStayFitForever = (kept : Files) (later : List Files) (name : Bytes) → RunsOver kept later → ContentFits (bytes_at kept name) → All (λ (held : Files). ContentFits (bytes_at held name)) later

-- What stands under the name of its cache fits after a run that has put the new cache there, whatever stood there before, if the run did not use it: so where the keeper failed.
abbrev pub KeepersMend : Type 0
KeepersMend = (words : List Bytes) (settings : Settings) (name : Bytes) (held : Files) (classes : ClassFolders) (kept : Files) (new : Option Files) (before after : WorkSeen) (told : CacheNotes) (why : Unused)
    → job words ≡ Ok settings → settings.cache ≡ Some name → LeavesCache words (Some held) (Some classes) (Some kept) new before after told → told.unused ≡ Some why → told.is_unwritten ≡ false
    → IfSome new (λ now. ContentFits (bytes_at now name))

-- Where what stands under the name of the cache fits, the run finds what fits: so its report is that of a run without a cache.
abbrev pub FitKeepersServe : Type 0
FitKeepersServe = (words : List Bytes) (settings : Settings) (name : Bytes) (kept : Files) → job words ≡ Ok settings → settings.cache ≡ Some name → ContentFits (bytes_at kept name) → FindsFitting words (Some kept)
