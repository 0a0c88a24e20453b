-- What a run leaves of files in the worlds of oracles, whichever oracle it is.
use Rattle.std.specs.Prelude.{◌≡◌, ℕ, List, true}
use Rattle.std.specs.FinSet as set
use Rattle.pj_cache.specs.declared.cache.Cache.{Cache}
use Rattle.pj_cache_laws.specs.Written.{WrittenRule}
use Rattle.pj_cached_files.specs.LeftFile.{Evaluates, Leaves, Looks, Reuses, StandsIn}
use Rattle.pj_cached_files.specs.LeftFiles.{LeavesAll, Lists}
use Rattle.pj_cached_files.specs.declared.entry.LeftFile.{LeftFile}
use Rattle.pj_cached_files.specs.declared.files.LeftFiles.{LeftFiles}
use Rattle.pj_crew.specs.Opening.{counted_on, with_finds}
use Rattle.pj_fitting.specs.Left.{File}
use Rattle.pj_fitting.specs.Looked.{Looked}
use Rattle.pj_fitting.specs.Right.{Files}
use Rattle.pj_names.specs.ClassName.{NameSet}
use Rattle.pj_names.specs.Told.{Told, Worlds}
use Rattle.pj_outside.specs.Doors.{count_and}
use Rattle.pj_rule_sets.specs.Rules.{EffectiveRules}
use Rattle.pj_table.specs.ClassWorld.{worlds_of}
use Rattle.pj_table.specs.Worlds.{World}
use Rattle.pj_workers.specs.Cold as cold
use Rattle.pj_workers.specs.Rules.{Rule}
use Rattle.pj_workers.specs.declared.work.Work.{Work}

-- what an oracle of these worlds tells, of which nothing was asked
abbrev pub told_in : Worlds → Told (Unit {0})
told_in worlds = record { is_told = true; world = worlds; kept = tt; asked = set.empty; faults = 0 }

-- What is left of a file in these worlds, and the names that are asked for it there.
pub record LeavesIn (rules : EffectiveRules) (found : Cache) (file : File) (worlds : Worlds) (names : NameSet) (left : LeftFile) : Type 0 where
  pub leaves : Leaves (told_in worlds) rules found file left
  pub reuses : Reuses (told_in worlds) rules found file left
  pub evaluates : Evaluates (told_in worlds) rules found file left
  pub looks : Looks (told_in worlds) names rules found file

-- What is left of all files in the world of a table, where it is told and the cache is right.
abbrev pub LeavesAllIn : World → EffectiveRules → Cache → List File → LeftFiles → Type 0
LeavesAllIn world rules found list left = LeavesAll (told_in (worlds_of world)) rules found list left

-- What was done with them, over any cache.
abbrev pub ListsIn : World → EffectiveRules → Cache → List File → Work → Work → Type 0
ListsIn world rules found list before after = Lists (told_in (worlds_of world)) rules found list before after

-- ---- finds

-- What a run asks for at the files, whatever cache it found, is a set of names that has this property.
abbrev pub LooksSo : World → EffectiveRules → Cache → List File → (NameSet → Type 0) → Type 0
LooksSo world rules found list so =
    (files : Files WrittenRule) (classes : cold.World) (meant : List Rule) (held : List WrittenRule) → StandsIn (told_in (worlds_of world)) rules files classes meant held → (names : NameSet) × Looked files found classes held list names × so names

-- A count of finds rose by the number of names of a set, or to the greatest number that a count can have.
abbrev pub Counts : ℕ → ℕ → NameSet → Type 0
Counts old new names = new ≡ count_and old (set.len names)

-- Together the finds of doors rose by the number of names: so does every count to which they are added.
abbrev pub CountTogether : {D : Type 0} → (D → ℕ) → List D → List D → NameSet → Type 0
CountTogether finds before after names = (count : ℕ) → Counts (with_finds finds before count) (with_finds finds after count) names

-- Together the doors found each class once for which a run asks at the files, and no other.
abbrev pub FindInWorld : {D : Type 0} → (D → ℕ) → World → EffectiveRules → Cache → List File → List D → List D → Type 0
FindInWorld finds world rules found list before after = LooksSo world rules found list (CountTogether finds before after)

-- so does the count of a class path
abbrev pub FoundInWorld : World → EffectiveRules → Cache → List File → ℕ → ℕ → Type 0
FoundInWorld world rules found list old new = LooksSo world rules found list (Counts old new)

-- As many doors were taken back as were given.
abbrev pub GivesAllBack : ℕ → ℕ → ℕ → ℕ → Type 0
GivesAllBack given more taken back = (count : ℕ) × (more ≡ counted_on count given) × (back ≡ counted_on count taken)
