-- What format 2 says of order, of keys and of names in a cache: who makes a cache sees to it.
use Rattle.std.specs.Prelude.{◌≡◌, ◌<◌, ℕ, true, List, [], length, map, Option, Some, None}
use Rattle.std.specs.List.{All}
use Rattle.std.specs.Ordering.{nat_cmp}
use Rattle.pj_format.specs.Fields.{Chain}
use Rattle.pj_names.specs.declared.answer.Answer.{Answer}
use Rattle.pj_names.specs.declared.answer.Answer.TheVariants as answers
use Rattle.pj_names.specs.ClassName.{Name}
use Rattle.pj_reports.specs.declared.ruled.Head.{Head}
use Rattle.pj_reports.specs.declared.ruled.Head.TheVariants as heads
use Rattle.pj_reports.specs.declared.ruled.Ruled.{Ruled}
use Rattle.pj_reports.specs.declared.ruled.Ruled.TheVariants as ruled
use Rattle.pj_reports.specs.declared.ruled.Spot.{Spot}
use Rattle.pj_cache.specs.declared.cache.KeyRows.{KeyRows}
use Rattle.pj_cache.specs.declared.cache.CachedResult.{CachedResult}
use Rattle.pj_cache.specs.declared.cache.Entry.{Entry}
use Rattle.pj_cache.specs.declared.cache.Cache.{Cache}
use Rattle.pj_cache.specs.Places.{member_at, place_in}
use Rattle.pj_cache_format.specs.Judges.{is_behind, is_path_behind}
use Rattle.pj_cache_format.specs.Answers.{is_name_behind}
use Rattle.pj_cache_format.specs.FormatTwo.{is_key_place, is_name_place, first_of, with_places, keys_of, names_of}

-- Answers.

-- the class of an answer has the name under which it stands
abbrev pub HasItsName : Name → Answer → Type 0
HasItsName name answers.Absent = Unit {0}
HasItsName name (answers.Found class) = class.name ≡ name
HasItsName name (answers.Broken what) = Unit {0}

-- a class name, behind that of another answer
abbrev pub IsAnswerInOrder : Option Name → Name × Answer → Type 0
IsAnswerInOrder before a = (is_name_behind before a.0 ≡ true) × HasItsName a.0 a.1

-- Results.

-- what a rule comes to: nodes by strictly ascending number
abbrev pub AreRowsInOrder : Ruled → Type 0
AreRowsInOrder (ruled.Spots spots) = Chain (λ before (s : Spot). is_behind nat_cmp before s.node ≡ true) (λ before s. Some s.node) None spots
AreRowsInOrder (ruled.Message message) = Unit {0}

-- the places of the keys of a result
abbrev pub places_of : List (List ℕ) → CachedResult → List ℕ
places_of keys r = map (λ (k : KeyRows). place_in keys k.key) r.group

-- one key at least, by strictly ascending places, behind the first key of the result before, and none that an earlier result has
abbrev pub AreKeysInOrder : ℕ → List ℕ → Option ℕ → List ℕ → Type 0
AreKeysInOrder count used before places = (0 < length places) × Chain (λ before place. is_key_place count used before place ≡ true) (λ before place. Some place) before places

-- one of the keys, with its rows
abbrev pub IsKeyInOrder : List (List ℕ) → KeyRows → Type 0
IsKeyInOrder keys k = (member_at keys (place_in keys k.key) ≡ k.key) × AreRowsInOrder k.rows

-- one of the names of answers, behind the place of another one
abbrev pub IsNameInOrder : List Name → Option ℕ → Name → Type 0
IsNameInOrder names before name = (is_name_place (length names) before (place_in names name) ≡ true) × (member_at names (place_in names name) ≡ name)

-- a result behind the first key of another one, in an entry whose earlier results have the keys at some places
abbrev pub IsResultInOrder : List (List ℕ) → List Name → Option ℕ × List ℕ → CachedResult → Type 0
IsResultInOrder keys names state r =
    AreKeysInOrder (length keys) state.1 state.0 (places_of keys r)
    × Chain (IsNameInOrder names) (λ before name. Some (place_in names name)) None r.names
    × All (IsKeyInOrder keys) r.group

abbrev pub result_step : List (List ℕ) → Option ℕ × List ℕ → CachedResult → Option ℕ × List ℕ
result_step keys state r = (first_of (places_of keys r), with_places state.1 (places_of keys r))

-- Entries.

-- a file without a tree has no results
abbrev pub AreResultsInOrder : List (List ℕ) → List Name → Head → List CachedResult → Type 0
AreResultsInOrder keys names (heads.Package package_name) results = Chain (IsResultInOrder keys names) (result_step keys) (None, []) results
AreResultsInOrder keys names (heads.Message message) results = results ≡ []

abbrev pub IsEntryInOrder : List (List ℕ) → List Name → Option (List ℕ) → Entry → Type 0
IsEntryInOrder keys names before e = (is_path_behind before e.path ≡ true) × AreResultsInOrder keys names e.head e.results

-- The cache keeps what the format says of order, of keys and of names.
pub record IsInOrder (c : Cache) : Type 0 where
  pub answers : Chain IsAnswerInOrder (λ before a. Some a.0) None c.answers
  pub entries : Chain (IsEntryInOrder (keys_of c.entries) (map (λ a. a.0) c.answers)) (λ before e. Some e.path) None c.entries
  -- the answers are just those for the names that results have
  pub named : names_of c.entries ≡ map (λ a. a.0) c.answers
