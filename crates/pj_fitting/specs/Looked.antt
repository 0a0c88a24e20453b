-- Which files are used again as they are, and which classes a run asks for.
use Rattle.std.specs.Prelude.{◌≡◌, IsTrue, Bool, false, true, ◌||◌, ◌&&◌, List, [], ◌∷◌, not, filter, Option, Some, None}
use Rattle.std.specs.List.{list_all}
use Rattle.std.specs.FinSet as set
use Rattle.pj_names.specs.declared.answer.Answer.{Answer}
use Rattle.pj_names.specs.ClassName.{Name, NameSet, name_set}
use Rattle.pj_names.specs.Meaning.{Means, Gives, whole}
use Rattle.pj_reports.specs.declared.ruled.Head.{Head}
use Rattle.pj_reports.specs.declared.ruled.Head.TheVariants as heads
use Rattle.pj_reports.specs.declared.ruled.Ruled.{Ruled}
use Rattle.pj_cache.specs.declared.cache.Entry.{Entry}
use Rattle.pj_cache.specs.declared.cache.Cache.{Cache}
use Rattle.pj_reuse.specs.Serving.{is_served, looked_in}
use Rattle.pj_fitting.specs.Right.{Key, RulesAt, Files, Together, rules_at}
use Rattle.pj_fitting.specs.Left.{File, active_keys, entry_at, results_of}

-- whether a cache serves the rules of a key at a file, in a world
abbrev pub is_served_at : Cache → (Name → Answer) → File → Key → Bool
is_served_at found world file key = is_served found.answers world (results_of (entry_at found file)) key

-- whether an entry says that its file has no tree
abbrev pub has_no_tree : Option Entry → Bool
has_no_tree None = false
has_no_tree (Some e) = is_message e.head where
  is_message : Head → Bool
  is_message (heads.Package name) = false
  is_message (heads.Message message) = true

abbrev pub is_there : Option Entry → Bool
is_there None = false
is_there (Some e) = true

-- Whether a file is used again as it is: the cache has an entry of its path and bytes, which says that there is no tree, or each rule
-- that is active there is served.
abbrev pub is_reusable : {R : Type 0} → Files R → Cache → (Name → Answer) → List R → File → Bool
is_reusable files found world held file = has_no_tree (entry_at found file) || (is_there (entry_at found file) && list_all (is_served_at found world file) (active_keys (rules_at files file.0 file.1) held))

-- ---- names

-- A rule asks for just these names in a world.
pub record AsksFor {R : Type 0} (rules : RulesAt R) (world : Name → Answer) (rule : R) (names : NameSet) : Type 0 where
  pub rows : Ruled
  pub means : Means (whole world) (rules.meaning rule) (Gives rows names)

-- rules do, together
abbrev pub AskFor : {R : Type 0} → RulesAt R → (Name → Answer) → List R → NameSet → Type 0
AskFor rules world [] names = names ≡ set.empty
AskFor rules world (rule ∷ rest) names = Together (AsksFor rules world rule) (AskFor rules world rest) names

-- the rules that are active at a file and not served there
abbrev pub unserved : {R : Type 0} → RulesAt R → Cache → (Name → Answer) → File → List R → List R
unserved rules found world file held = filter (λ rule. rules.is_active rule && not (is_served_at found world file (rules.key rule))) held

-- the rules that are looked at in a file: none where it is used again as it is
abbrev pub analysed : {R : Type 0} → Files R → Cache → (Name → Answer) → List R → File → Bool → List R
analysed files found world held file true = []
analysed files found world held file false = unserved (rules_at files file.0 file.1) found world file held

-- the names that are asked for to tell which results stand: of each result for the key of an active rule, those up to the first one
-- whose answer is another
abbrev pub told : {R : Type 0} → Files R → Cache → (Name → Answer) → List R → File → NameSet
told files found world held file = name_set (looked_in found.answers world (results_of (entry_at found file)) (active_keys (rules_at files file.0 file.1) held))

-- A run asks for just these names at a file: those by which it tells what is served, and those for which the other rules ask.
pub record LookedFile {R : Type 0} (files : Files R) (found : Cache) (world : Name → Answer) (held : List R) (file : File) (names : NameSet) : Type 0 where
  pub asked : NameSet
  pub comes : AskFor (rules_at files file.0 file.1) world (analysed files found world held file (is_reusable files found world held file)) asked
  pub all : names ≡ set.union (told files found world held file) asked

-- at all files
abbrev pub Looked : {R : Type 0} → Files R → Cache → (Name → Answer) → List R → List File → NameSet → Type 0
Looked files found world held [] names = names ≡ set.empty
Looked files found world held (file ∷ rest) names = Together (LookedFile files found world held file) (Looked files found world held rest) names

-- What a rule asks for in a world is within a set of names.
abbrev pub AsksWithin : {R : Type 0} → RulesAt R → (Name → Answer) → NameSet → R → Type 0
AsksWithin rules world names rule =
    (rows : Ruled) (own : NameSet) → Means (whole world) (rules.meaning rule) (Gives rows own) → (name : Name) → IsTrue (set.contains own name) → IsTrue (set.contains names name)
