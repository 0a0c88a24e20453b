-- For which rules a run makes new results at a file.
use Rattle.std.specs.Prelude.{ℕ, suc, Bool, not, ◌&&◌, List, [], ◌∷◌, if◌then◌else◌}
use Rattle.std.specs.List.{flat_map}
use Rattle.std.specs.BTreeMap.{is_at}
use Rattle.pj_cache.specs.Places.{byte_order}
use Rattle.pj_cache.specs.declared.cache.CachedResult.{CachedResult}
use Rattle.pj_reuse.specs.Serving.{has_key, keys_of, with_keys}
use Rattle.pj_fitting.specs.Right.{Key}

-- whether two keys are one
abbrev pub is_same_key : Key → Key → Bool
is_same_key a b = is_at (byte_order b) a

-- the keys of some results, one result after the other
abbrev pub keys_of_all : List CachedResult → List Key
keys_of_all results = flat_map keys_of results

-- the keys of the rules that are active at a file, from the key of each rule and whether it is active
abbrev pub keys_of_active : List Key → List Bool → List Key
keys_of_active [] active = []
keys_of_active (key ∷ keys) [] = []
keys_of_active (key ∷ keys) (is_active ∷ active) = if is_active then key ∷ keys_of_active keys active else keys_of_active keys active

-- the active rules, numbered from some number on, whose key is not among some keys and is not that of an active rule before: the
-- number of each, with its key
abbrev pub missing_from : List Key → ℕ → List Key → List Bool → List (ℕ × Key)
missing_from held at [] active = []
missing_from held at (key ∷ keys) [] = []
missing_from held at (key ∷ keys) (is_active ∷ active) =
    if is_active && not (has_key held key) then (at, key) ∷ missing_from (key ∷ held) (suc at) keys active else missing_from held (suc at) keys active

-- the active rules whose key none of the results that stay has, of each key the first one
abbrev pub missing_rules : List CachedResult → List Key → List Bool → List (ℕ × Key)
missing_rules stay keys active = missing_from (keys_of_all stay) 0 keys active

-- keys in their order, each once, with those of some results
abbrev pub with_results : List Key → List CachedResult → List Key
with_results held [] = held
with_results held (r ∷ rs) = with_results (with_keys held (keys_of r)) rs
