-- Which caches of format 1 are right: over its own answers each entry has the rows of its rules.
use Rattle.std.specs.Prelude.{◌≡◌, ℕ, List, [], ◌∷◌, None, Some, slice_get, if◌then◌else◌}
use Rattle.std.specs.List.{All}
use Rattle.std.specs.FinSet as set
use Rattle.pj_names.specs.declared.answer.Answer.{Answer}
use Rattle.pj_names.specs.ClassName.{Name, NameSet, name_set}
use Rattle.pj_names.specs.Meaning.{Source, Means, Gives, found_in}
use Rattle.pj_reports.specs.declared.rows.FileRows.{FileRows}
use Rattle.pj_reports.specs.declared.ruled.Head.{Head}
use Rattle.pj_reports.specs.declared.ruled.Head.TheVariants as heads
use Rattle.pj_reports.specs.declared.ruled.Ruled.{Ruled}
use Rattle.pj_cache.specs.declared.old.OldEntry.{OldEntry}
use Rattle.pj_cache.specs.declared.old.OldCache.{OldCache}
use Rattle.pj_cache_format.specs.Ordered.{AreRowsInOrder}
use Rattle.pj_carry.specs.Form.{lone_message}
use Rattle.pj_carry.specs.Rows.{rows_of}
use Rattle.pj_fitting.specs.Right.{RulesAt, Files, Together, rules_at}

-- ---- merging

-- Rows are merged so that they tell what each rule came to: a file without a tree has its message alone; one with a tree has its package, is
-- told from one without, and has of each rule just its rows, where the nodes of each ascend.
pub record IsMerge (merge : Head → List Ruled → FileRows) : Type 0 where
  pub alone : (message : List ℕ) (results : List Ruled) → lone_message (merge (heads.Message message) results) ≡ Some message
  pub others : (name : List ℕ) (results : List Ruled) → lone_message (merge (heads.Package name) results) ≡ None
  pub package_is : (name : List ℕ) (results : List Ruled) → (merge (heads.Package name) results).«package» ≡ name
  pub kept : (name : List ℕ) (results : List Ruled) (rule : ℕ) (result : Ruled) → All AreRowsInOrder results → slice_get results rule ≡ Some result → rows_of (merge (heads.Package name) results) rule ≡ result

-- ---- entries and caches

-- the answers of an entry: those that the cache has for its names, and no others
abbrev pub answers_of : List (Name × Answer) → OldEntry → Source
answers_of answers e name = if set.contains (name_set e.names) name then found_in answers name else None

-- Over a source each of some rules comes to its rows, and together they ask for just these names.
abbrev pub ComeToRows : {R : Type 0} → RulesAt R → Source → List R → List Ruled → NameSet → Type 0
ComeToRows rules source [] [] names = names ≡ set.empty
ComeToRows rules source [] (rows ∷ results) names = ⊥
ComeToRows rules source (rule ∷ held) [] names = ⊥
ComeToRows rules source (rule ∷ held) (rows ∷ results) names = Together (λ own. Means source (rules.meaning rule) (Gives rows own)) (ComeToRows rules source held results) names

-- An entry is right for some rules: its rows are what they come to, merged.
pub record IsRightOldEntry {R : Type 0} (files : Files R) (merge : Head → List Ruled → FileRows) (answers : List (Name × Answer)) (held : List R) (e : OldEntry) : Type 0 where
  pub results : List Ruled
  pub come : ComeToRows (rules_at files e.path e.bytes) (answers_of answers e) held results (name_set e.names)
  pub rows_are : e.rows ≡ merge (files.head e.bytes) results

-- ---- rules and their lists

-- What a rule comes to has its nodes in order, over every source.
abbrev pub NodesAscend : {R : Type 0} → Files R → Type 0
NodesAscend {R} files = (path bytes : List ℕ) (rule : R) (source : Source) (rows : Ruled) (names : NameSet) → Means source (files.meaning path bytes rule) (Gives rows names) → AreRowsInOrder rows

-- What lists of rules are, as caches of format 1 tell them apart: the rules of each, and its key.
pub record RuleLists (R L : Type 0) : Type 0 where
  pub rules : L → List R
  pub key : L → List ℕ

-- Each entry of a cache is right for each list of rules that has the cache's key.
abbrev pub IsRightOldCache : {R L : Type 0} → Files R → RuleLists R L → (Head → List Ruled → FileRows) → OldCache → Type 0
IsRightOldCache {R} {L} files lists merge c = (list : L) → lists.key list ≡ c.rules → All (IsRightOldEntry files merge c.answers (lists.rules list)) c.entries
