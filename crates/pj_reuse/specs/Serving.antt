-- Which rules a cache serves at a file, and which classes are asked for to tell that.
use Rattle.std.specs.Prelude.{ℕ, suc, Bool, true, false, ◌&&◌, List, [], ◌∷◌, ◌++◌, map, Option, Some, None, if◌then◌else◌}
use Rattle.std.specs.List.{list_any, list_all, flat_map}
use Rattle.std.specs.BTreeSet.{insert_key}
use Rattle.std.specs.BTreeMap.{is_at}
use Rattle.pj_names.specs.declared.answer.Answer.{Answer}
use Rattle.pj_names.specs.ClassName.{Name}
use Rattle.pj_names.specs.Asking.{Asking, Return, ask, bind}
use Rattle.pj_names.specs.Meaning.{found_in}
use Rattle.pj_cache.specs.declared.cache.KeyRows.{KeyRows}
use Rattle.pj_cache.specs.declared.cache.CachedResult.{CachedResult}
use Rattle.pj_cache.specs.Places.{byte_order}
use Rattle.pj_reuse.specs.Same.{is_same_answer}

-- Keys.

abbrev pub Key : Type 0
Key = List ℕ

-- whether a key is among some keys
abbrev pub has_key : List Key → Key → Bool
has_key keys key = list_any (is_at (byte_order key)) keys

-- the keys of a result
abbrev pub keys_of : CachedResult → List Key
keys_of r = map (λ (k : KeyRows). k.key) r.group

-- whether a result is for one of some keys
abbrev pub has_one : List Key → CachedResult → Bool
has_one keys r = list_any (has_key keys) (keys_of r)

-- Answers.

-- whether it is the answer, if there is one
abbrev pub is_answer : Option Answer → Answer → Bool
is_answer None now = false
is_answer (Some kept) now = is_same_answer kept now

-- whether the answer that a cache has for a name is the one now
abbrev pub is_kept : List (Name × Answer) → Name → Answer → Bool
is_kept answers name now = is_answer (found_in answers name) now

-- What is served in a world: the places of the keys that a result has, each of whose answers is the world's.

-- whether a result stands: each of its answers is the world's
abbrev pub stands : List (Name × Answer) → (Name → Answer) → CachedResult → Bool
stands answers world r = list_all (λ (name : Name). is_kept answers name (world name)) r.names

-- whether some result that stands has the key
abbrev pub is_served : List (Name × Answer) → (Name → Answer) → List CachedResult → Key → Bool
is_served answers world results key = list_any (λ (r : CachedResult). stands answers world r && has_key (keys_of r) key) results

-- the places, from some place on, of the keys that pass a test
abbrev pub places_from : (Key → Bool) → ℕ → List Key → List ℕ
places_from test at [] = []
places_from test at (key ∷ keys) = if test key then at ∷ places_from test (suc at) keys else places_from test (suc at) keys

-- the places of the keys that are served
abbrev pub served_in : List (Name × Answer) → (Name → Answer) → List CachedResult → List Key → List ℕ
served_in answers world results keys = places_from (is_served answers world results) 0 keys

-- The names that are asked for: of each result for one of the keys, its names up to the first one whose answer is another.

abbrev pub up_to_change : List (Name × Answer) → (Name → Answer) → List Name → List Name
up_to_change answers world [] = []
up_to_change answers world (name ∷ names) = name ∷ (if is_kept answers name (world name) then up_to_change answers world names else [])

abbrev pub looked_in : List (Name × Answer) → (Name → Answer) → List CachedResult → List Key → List Name
looked_in answers world results keys = flat_map (λ (r : CachedResult). if has_one keys r then up_to_change answers world r.names else []) results

-- The same as a meaning that asks.

-- whether each of some names has the answer that the cache has, asked in their order up to the first one that has another
abbrev pub are_kept : List (Name × Answer) → List Name → Asking Bool
are_kept answers [] = Return true
are_kept answers (name ∷ names) = bind (ask name) (λ now. if is_kept answers name now then are_kept answers names else Return false)

-- keys in their order, each once, with some more of them
abbrev pub with_keys : List Key → List Key → List Key
with_keys held [] = held
with_keys held (key ∷ keys) = with_keys (insert_key byte_order held key) keys

-- keys, with those of a result that is for one of the keys asked of, where it stands
abbrev pub keys_of_result : List (Name × Answer) → List Key → List Key → CachedResult → Asking (List Key)
keys_of_result answers wanted held r =
    if has_one wanted r then bind (are_kept answers r.names) (λ stand. Return (if stand then with_keys held (keys_of r) else held)) else Return held

abbrev pub keys_of_results : List (Name × Answer) → List Key → List Key → List CachedResult → Asking (List Key)
keys_of_results answers wanted held [] = Return held
keys_of_results answers wanted held (r ∷ rs) = bind (keys_of_result answers wanted held r) (λ more. keys_of_results answers wanted more rs)

abbrev pub served : List (Name × Answer) → List CachedResult → List Key → Asking (List ℕ)
served answers results keys = bind (keys_of_results answers (with_keys [] keys) [] results) (λ held. Return (places_from (has_key held) 0 keys))

-- The results that are kept, as a meaning that asks.

-- whether a result is for one of some keys and stands: the names of one that is for none of them are not asked
abbrev pub is_result_kept : List (Name × Answer) → List Key → CachedResult → Asking Bool
is_result_kept answers wanted r = if has_one wanted r then are_kept answers r.names else Return false

-- some results, with another one behind them where it is kept
abbrev pub with_result : Bool → List CachedResult → CachedResult → List CachedResult
with_result is_kept front r = if is_kept then front ++ r ∷ [] else front

abbrev pub kept_behind : List (Name × Answer) → List Key → List CachedResult → List CachedResult → Asking (List CachedResult)
kept_behind answers wanted front [] = Return front
kept_behind answers wanted front (r ∷ rs) = bind (is_result_kept answers wanted r) (λ is_kept. kept_behind answers wanted (with_result is_kept front r) rs)

abbrev pub kept_results : List (Name × Answer) → List CachedResult → List Key → Asking (List CachedResult)
kept_results answers results keys = kept_behind answers (with_keys [] keys) [] results
