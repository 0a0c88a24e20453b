-- What a run asks at a file over a cache that it found: first which of the old results stand, and then what those rules come to for whose keys none does.
use Rattle.std.specs.Prelude.{ℕ, Bool, true, false, ◌&&◌, List, Option, map, if◌then◌else◌}
use Rattle.pj_cache.specs.declared.cache.Cache.{Cache}
use Rattle.pj_cache.specs.declared.cache.CachedResult.{CachedResult}
use Rattle.pj_cache.specs.declared.cache.Entry.{Entry}
use Rattle.pj_fitting.specs.Left.{File, entry_at, results_of}
use Rattle.pj_fitting.specs.Looked.{has_no_tree, is_there}
use Rattle.pj_fitting.specs.Right.{Key}
use Rattle.pj_left_cache.specs.Missing.{keys_of_active, missing_rules}
use Rattle.pj_names.specs.Asking.{Asking, Return, bind, each, is_empty}
use Rattle.pj_names.specs.ClassName.{Name}
use Rattle.pj_names.specs.declared.answer.Answer.{Answer}
use Rattle.pj_outside.specs.Files.{Bytes}
use Rattle.pj_reuse.specs.Serving.{kept_results}
use Rattle.pj_rule_keys.specs.Keys.{key_of}
use Rattle.pj_rule_sets.specs.Active.{is_active}
use Rattle.pj_rule_sets.specs.Rules.{EffectiveRule, EffectiveRules}
use Rattle.pj_workers.specs.Chosen.{chosen_meaning}
use Rattle.pj_workers.specs.JavaReplies.{java_replies}
use Rattle.pj_workers.specs.Rules.{Rule}

-- ---- the rules of a set

-- their keys, in their order
abbrev pub keys_of_set : EffectiveRules → List Key
keys_of_set set = map (λ (rule : EffectiveRule). key_of set.marker rule) set.rules

-- for each of them whether it is active for a path
abbrev pub activity : EffectiveRules → Bytes → List Bool
activity set path = map (λ (rule : EffectiveRule). is_active rule path) set.rules

-- the keys of those that are active for a path
abbrev pub active_keys_of : EffectiveRules → Bytes → List Key
active_keys_of set path = keys_of_active (keys_of_set set) (activity set path)

-- the active rules for whose keys none of these results is, of each key the first one: the number of each, with its key
abbrev pub missing_in : EffectiveRules → Bytes → List CachedResult → List (ℕ × Key)
missing_in set path stay = missing_rules stay (keys_of_set set) (activity set path)

-- their numbers
abbrev pub missing_numbers : EffectiveRules → Bytes → List CachedResult → List ℕ
missing_numbers set path stay = map (λ (rule : ℕ × Key). rule.0) (missing_in set path stay)

-- ---- a file

-- what is asked of the rules of some numbers, where the file is not used again as it is
abbrev pub looked_at : List Rule → File → List ℕ → Asking Bool
looked_at rules file numbers = bind (chosen_meaning java_replies file.0 file.1 numbers rules) (λ came_to. Return false)

-- Where there is an old entry and no rule is missing, the file is used again as it is. Else the missing rules are looked at.
abbrev pub then_missing : EffectiveRules → List Rule → File → Option Entry → List CachedResult → Asking Bool
then_missing set rules file old stay = if is_there old && is_empty (missing_numbers set file.0 stay) then Return true else looked_at rules file (missing_numbers set file.0 stay)

-- Whether a file is used again as it is, by its old entry. Nothing is asked of one that has no tree by that.
abbrev pub reused_by : List (Name × Answer) → EffectiveRules → List Rule → File → Option Entry → Asking Bool
reused_by answers set rules file old =
    if has_no_tree old then Return true else bind (kept_results answers (results_of old) (active_keys_of set file.0)) (then_missing set rules file old)

-- over the cache that was found
abbrev pub reused_at : Cache → EffectiveRules → List Rule → File → Asking Bool
reused_at found set rules file = reused_by found.answers set rules file (entry_at found file)

-- ---- files

-- what is asked at files, one after the other, apart from what it comes to
abbrev pub asked_at_all : Cache → EffectiveRules → List Rule → List File → Asking (Unit {0})
asked_at_all found set rules list = bind (each (reused_at found set rules) list) (λ reused. Return tt)
