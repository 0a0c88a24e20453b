-- What a run leaves: the old results that serve one of its rules, unchanged, and new ones for the other rules.
use Rattle.std.specs.Prelude.{◌≡◌, ◌⊎◌, ℕ, Bool, not, ◌&&◌, List, [], ◌∷◌, map, filter, Option, Some, None, nat_eq, if◌then◌else◌}
use Rattle.std.specs.Cmp.Lexicographic.{pointwise}
use Rattle.std.specs.List.{All, AllZip, Contains, flat_map, list_any}
use Rattle.pj_names.specs.declared.answer.Answer.{Answer}
use Rattle.pj_names.specs.ClassName.{Name, NameSet, name_set}
use Rattle.pj_names.specs.Meaning.{Means, Gives, whole}
use Rattle.pj_reports.specs.declared.ruled.Head.{Head}
use Rattle.pj_reports.specs.declared.ruled.Head.TheVariants as heads
use Rattle.pj_reports.specs.declared.ruled.Ruled.{Ruled}
use Rattle.pj_reports.specs.declared.ruled.Ruled.TheVariants as ruled
use Rattle.pj_cache.specs.Found.{entry_of, first_named}
use Rattle.pj_cache.specs.declared.cache.KeyRows.{KeyRows}
use Rattle.pj_cache.specs.declared.cache.CachedResult.{CachedResult}
use Rattle.pj_cache.specs.declared.cache.Entry.{Entry}
use Rattle.pj_cache.specs.declared.cache.Cache.{Cache}
use Rattle.pj_cache_format.specs.Ordered.{IsInOrder}
use Rattle.pj_reuse.specs.Serving.{has_key, has_one, keys_of, stands}
use Rattle.pj_fitting.specs.Right.{Key, RulesAt, Files, rules_at}

-- ---- a file and its entry

-- a path, and the bytes of the file there
abbrev pub File : Type 0
File = List ℕ × List ℕ

-- the keys of the rules that are active at a file, in the order of the rules
abbrev pub active_keys : {R : Type 0} → RulesAt R → List R → List Key
active_keys rules held = map rules.key (filter rules.is_active held)

-- an entry, if it has these bytes
abbrev pub of_bytes : Option Entry → List ℕ → Option Entry
of_bytes None bytes = None
of_bytes (Some e) bytes = if pointwise nat_eq e.bytes bytes then Some e else None

-- the entry of a path and bytes, if a cache has one
abbrev pub entry_at : Cache → File → Option Entry
entry_at c file = of_bytes (entry_of c.entries file.0) file.1

abbrev pub results_of : Option Entry → List CachedResult
results_of None = []
results_of (Some e) = e.results

-- ---- what is kept, and what is made

-- whether a result serves one of some keys in a world: it has one of them, and each of its answers is the world's
abbrev pub serves : List (Name × Answer) → (Name → Answer) → List Key → CachedResult → Bool
serves answers world keys r = has_one keys r && stands answers world r

-- the results of an old entry that stay
abbrev pub kept : List (Name × Answer) → (Name → Answer) → List Key → List CachedResult → List CachedResult
kept answers world keys old = filter (serves answers world keys) old

-- whether one of some results has a key
abbrev pub has_result : List CachedResult → Key → Bool
has_result results key = list_any (λ (r : CachedResult). has_key (keys_of r) key) results

-- the keys for which no result stays
abbrev pub missing : List CachedResult → List Key → List Key
missing results keys = filter (λ (key : Key). not (has_result results key)) keys

-- A result is new: it is that of one key alone, a rule of the key comes to its rows in the world, and asks for just its names.
pub record IsNew {R : Type 0} (rules : RulesAt R) (world : Name → Answer) (key : Key) (r : CachedResult) : Type 0 where
  pub rule : R
  pub key_is : rules.key rule ≡ key
  pub rows : Ruled
  pub group_is : r.group ≡ record { key = key; rows = rows } ∷ []
  pub comes : Means (whole world) (rules.meaning rule) (Gives rows (name_set r.names))

-- Some key of a list has it as its new result.
pub record IsNewOfSome {R : Type 0} (rules : RulesAt R) (world : Name → Answer) (keys : List Key) (r : CachedResult) : Type 0 where
  pub key : Key
  pub wanted : Contains keys key
  pub new : IsNew rules world key r

-- A list has the new result of a key.
pub record HasNew {R : Type 0} (rules : RulesAt R) (world : Name → Answer) (results : List CachedResult) (key : Key) : Type 0 where
  pub result : CachedResult
  pub there : Contains results result
  pub new : IsNew rules world key result

-- The results that a run leaves at a file with a tree: those of the old ones that stay, a new one for each other key of its active
-- rules, and no more.
pub record AreLeft {R : Type 0} (rules : RulesAt R) (world : Name → Answer) (answers : List (Name × Answer)) (old : List CachedResult) (keys : List Key) (results : List CachedResult) : Type 0 where
  pub stay : All (Contains results) (kept answers world keys old)
  pub made : All (HasNew rules world results) (missing (kept answers world keys old) keys)
  pub only : All (λ (r : CachedResult). Contains (kept answers world keys old) r ⊎ IsNewOfSome rules world (missing (kept answers world keys old) keys) r) results

-- at a file with a head: none where it has no tree
abbrev pub AreLeftBy : {R : Type 0} → Head → RulesAt R → (Name → Answer) → List (Name × Answer) → List CachedResult → List Key → List CachedResult → Type 0
AreLeftBy (heads.Package name) rules world answers old keys results = AreLeft rules world answers old keys results
AreLeftBy (heads.Message message) rules world answers old keys results = results ≡ []

-- ---- what the results say

-- the rows of a key among results, if one of them has it
abbrev pub row_of : List CachedResult → Key → Option KeyRows
row_of results key = first_named (λ (k : KeyRows). k.key) (flat_map (λ (r : CachedResult). r.group) results) key

abbrev pub rows_or_none : Option KeyRows → Ruled
rows_or_none None = ruled.Spots []
rows_or_none (Some k) = k.rows

-- what the results of a file say of a rule: nothing, where it is not active there
abbrev pub rows_at : {R : Type 0} → RulesAt R → List CachedResult → R → Ruled
rows_at rules results rule = if rules.is_active rule then rows_or_none (row_of results (rules.key rule)) else ruled.Spots []

-- ---- the cache

-- The entry that a run with these rules leaves of a file, over a world, where it found a cache.
pub record IsLeftEntry {R : Type 0} (files : Files R) (world : Name → Answer) (found : Cache) (held : List R) (file : File) (e : Entry) : Type 0 where
  pub path : e.path ≡ file.0
  pub bytes : e.bytes ≡ file.1
  pub head : e.head ≡ files.head file.1
  pub results : AreLeftBy (files.head file.1) (rules_at files file.0 file.1) world found.answers (results_of (entry_at found file)) (active_keys (rules_at files file.0 file.1) held) e.results

-- The cache that it leaves: an entry for each file, with the world's answers for the names of the results, in the order of the format.
pub record IsLeftCache {R : Type 0} (files : Files R) (world : Name → Answer) (found : Cache) (held : List R) (list : List File) (c : Cache) : Type 0 where
  pub in_order : IsInOrder c
  pub entries : AllZip (IsLeftEntry files world found held) list c.entries
  pub answers : All (λ (a : Name × Answer). a.1 ≡ world a.0) c.answers

-- Results serve a rule in a world: those that stand have rows of its key, and it comes to these there.
pub record IsServedBy {R : Type 0} (rules : RulesAt R) (answers : List (Name × Answer)) (world : Name → Answer) (results : List CachedResult) (rule : R) : Type 0 where
  pub row : KeyRows
  pub is : row_of (filter (stands answers world) results) (rules.key rule) ≡ Some row
  pub names : NameSet
  pub comes : Means (whole world) (rules.meaning rule) (Gives row.rows names)

-- What results say of a rule is what it comes to in a world.
pub record IsSaid {R : Type 0} (rules : RulesAt R) (world : Name → Answer) (results : List CachedResult) (rule : R) : Type 0 where
  pub names : NameSet
  pub comes : Means (whole world) (rules.meaning rule) (Gives (rows_at rules results rule) names)
