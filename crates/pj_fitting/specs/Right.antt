-- Which caches are right: over its own answers each result is what its rules come to.
use Rattle.std.specs.Prelude.{◌≡◌, ℕ, Bool, false, List, [], ◌∷◌, None, if◌then◌else◌}
use Rattle.std.specs.List.{All}
use Rattle.std.specs.FinSet as set
use Rattle.pj_names.specs.declared.answer.Answer.{Answer}
use Rattle.pj_names.specs.ClassName.{Name, NameSet, name_set}
use Rattle.pj_names.specs.Asking.{Asking, Return}
use Rattle.pj_names.specs.Meaning.{Source, Means, Gives, found_in}
use Rattle.pj_reports.specs.declared.ruled.Head.{Head}
use Rattle.pj_reports.specs.declared.ruled.Head.TheVariants as heads
use Rattle.pj_reports.specs.declared.ruled.Ruled.{Ruled}
use Rattle.pj_reports.specs.declared.ruled.Ruled.TheVariants as ruled
use Rattle.pj_cache.specs.declared.cache.KeyRows.{KeyRows}
use Rattle.pj_cache.specs.declared.cache.CachedResult.{CachedResult}
use Rattle.pj_cache.specs.declared.cache.Entry.{Entry}
use Rattle.pj_cache.specs.declared.cache.Cache.{Cache}

abbrev pub Key : Type 0
Key = List ℕ

-- what comes of a rule that is not active, or where a file has no tree: nothing, and nothing is asked
abbrev pub nothing : Asking Ruled
nothing = Return (ruled.Spots [])

-- ---- rules

-- What rules are at one file. They are all rules that can be written, and not those of one run, since a cache has results of rules that
-- are gone. The key of a rule settles what it means.
pub record RulesAt (R : Type 0) : Type 0 where
  pub key : R → Key
  -- whether it is active for the path of the file
  pub is_active : R → Bool
  -- what it means there, apart from any source of answers
  pub meaning : R → Asking Ruled
  pub one_meaning : (a b : R) → key a ≡ key b → meaning a ≡ meaning b
  pub inactive_is_nothing : (a : R) → is_active a ≡ false → meaning a ≡ nothing

-- What files are: the head of some bytes, and all rules that can be written, with their keys, the paths for which they are active, and what
-- they mean at a path with some bytes.
pub record Files (R : Type 0) : Type 0 where
  pub head : List ℕ → Head
  pub key : R → Key
  pub is_active : List ℕ → R → Bool
  pub meaning : List ℕ → List ℕ → R → Asking Ruled
  pub one_meaning : (path bytes : List ℕ) (a b : R) → key a ≡ key b → meaning path bytes a ≡ meaning path bytes b
  pub inactive_is_nothing : (path bytes : List ℕ) (a : R) → is_active path a ≡ false → meaning path bytes a ≡ nothing
  pub no_tree_is_nothing : (path bytes message : List ℕ) (a : R) → head bytes ≡ heads.Message message → meaning path bytes a ≡ nothing

-- the rules at a file
abbrev pub rules_at : {R : Type 0} → Files R → List ℕ → List ℕ → RulesAt R
rules_at files path bytes = record {
  key = files.key;
  is_active = files.is_active path;
  meaning = files.meaning path bytes;
  one_meaning = files.one_meaning path bytes;
  inactive_is_nothing = files.inactive_is_nothing path bytes;
}

-- ---- results

-- the answers of a result: those that the cache has for its names, and no others
abbrev pub answers_of : List (Name × Answer) → CachedResult → Source
answers_of answers r name = if set.contains (name_set r.names) name then found_in answers name else None

-- Over a source some rule of a key comes to the key's rows, and asks for just these names. So does then each rule of the key.
pub record ComesTo {R : Type 0} (rules : RulesAt R) (source : Source) (k : KeyRows) (names : NameSet) : Type 0 where
  pub rule : R
  pub key_is : rules.key rule ≡ k.key
  pub means : Means source (rules.meaning rule) (Gives k.rows names)

-- Names together: those of a first key, and those of the others.
pub record Together (First Others : NameSet → Type 0) (names : NameSet) : Type 0 where
  pub own : NameSet
  pub others : NameSet
  pub first : First own
  pub rest : Others others
  pub all : names ≡ set.union own others

-- so it is for each of some keys, and together their rules ask for just these names
abbrev pub ComeTo : {R : Type 0} → RulesAt R → Source → List KeyRows → NameSet → Type 0
ComeTo rules source [] names = names ≡ set.empty
ComeTo rules source (k ∷ ks) names = Together (ComesTo rules source k) (ComeTo rules source ks) names

-- A result is right: over its own answers its rules come to its rows, and together they ask for all its names.
abbrev pub IsRight : {R : Type 0} → RulesAt R → List (Name × Answer) → CachedResult → Type 0
IsRight rules answers r = ComeTo rules (answers_of answers r) r.group (name_set r.names)

-- ---- entries and caches

-- an entry is right: it has the head of its bytes, and each of its results is right
abbrev pub IsRightEntry : {R : Type 0} → Files R → List (Name × Answer) → Entry → Type 0
IsRightEntry files answers e = (e.head ≡ files.head e.bytes) × All (IsRight (rules_at files e.path e.bytes) answers) e.results

-- each entry of a cache is
abbrev pub IsRightCache : {R : Type 0} → Files R → Cache → Type 0
IsRightCache files c = All (IsRightEntry files c.answers) c.entries
