-- Whether a file is used again, by what is asked, is whether it can be.
use Rattle.std.proofs.Common.{◌≡◌, ◌↔◌, ◌∙◌, ℕ, Bool, true, false, not, ◌||◌, ◌&&◌, List, [], ◌∷◌, Option, ap, filter, map, refl, sym}
use Rattle.std.specs.Prelude.{if◌then◌else◌}
use Rattle.std.specs.List.{list_all}
use Rattle.pj_cache.specs.declared.cache.CachedResult.{CachedResult}
use Rattle.pj_cache.specs.declared.cache.Entry.{Entry}
use Rattle.pj_cached_files.specs.Asked.{active_keys_of, activity, keys_of_set, looked_at, missing_in, missing_numbers, reused_by, then_missing}
use Rattle.pj_fitting.specs.Left.{File, kept, missing, results_of}
use Rattle.pj_fitting.specs.Looked.{has_no_tree, is_there}
use Rattle.pj_fitting.specs.Right.{Key}
use Rattle.pj_left_cache.specs.Missing.{keys_of_active, missing_rules}
use Rattle.pj_names.proofs.MeaningLaws.{value_of-bind}
use Rattle.pj_names.specs.Asking.{Asking, Return, bind, is_empty, value_of}
use Rattle.pj_names.specs.ClassName.{Name}
use Rattle.pj_names.specs.declared.answer.Answer.{Answer}
use Rattle.pj_reuse.specs.Serving.{has_one, is_served, kept_results, stands}
use Rattle.pj_rule_sets.specs.Rules.{EffectiveRules}
use Rattle.pj_workers.specs.Chosen.{chosen_meaning}
use Rattle.pj_workers.specs.JavaReplies.{java_replies}
use Rattle.pj_workers.specs.Rules.{Rule}

-- ---- lists that are empty

empty_seen : {A B : Type 0} (f : A → B) (list : List A) → is_empty (map f list) ≡ is_empty list
empty_seen f [] = refl
empty_seen f (x ∷ xs) = refl

both_empty : {A B : Type 0} (xs : List A) (ys : List B) → (xs ≡ []) ↔ (ys ≡ []) → is_empty xs ≡ is_empty ys
both_empty [] [] same = refl
both_empty [] (y ∷ ys) same = let none = same.0 refl in absurd cc
both_empty (x ∷ xs) [] same = let none = same.1 refl in absurd cc
both_empty (x ∷ xs) (y ∷ ys) same = refl

one_left_out : {A : Type 0} (b : Bool) (x : A) (kept : List A) (all : Bool) → is_empty kept ≡ all → is_empty (if not b then x ∷ kept else kept) ≡ (b && all)
one_left_out true x kept all is = is
one_left_out false x kept all is = refl

none_left_out : {A : Type 0} (p : A → Bool) (list : List A) → is_empty (filter (λ x. not (p x)) list) ≡ list_all p list
none_left_out p [] = refl
none_left_out p (x ∷ xs) = one_left_out (p x) x (filter (λ y. not (p y)) xs) (list_all p xs) (none_left_out p xs)

-- ---- what the laws of the crates below say

-- the results that are kept in a world
abbrev pub KeptIs : Type 0
KeptIs = (depth : ℕ) (world : Name → Answer) (answers : List (Name × Answer)) (results : List CachedResult) (keys : List Key)
    → value_of depth world (kept_results answers results keys) ≡ filter (λ (r : CachedResult). has_one keys r && stands answers world r) results

-- no rule is missing exactly where no key is
abbrev pub NoneMissing : Type 0
NoneMissing = (stay : List CachedResult) (keys : List Key) (active : List Bool) → (missing_rules stay keys active ≡ []) ↔ (missing stay (keys_of_active keys active) ≡ [])

-- the keys that are missing are those that are not served
abbrev pub MissingAre : Type 0
MissingAre = (answers : List (Name × Answer)) (world : Name → Answer) (keys : List Key) (old : List CachedResult)
    → missing (kept answers world keys old) keys ≡ filter (λ (key : Key). not (is_served answers world old key)) keys

-- ---- a file

module _ (kept_is : KeptIs) (none : NoneMissing) (missing_are : MissingAre) (depth : ℕ) (world : Name → Answer) (answers : List (Name × Answer)) (set : EffectiveRules) (rules : List Rule) (file : File) where
  abbrev keys : List Key
  keys = active_keys_of set file.0

  none_missing : (old : List CachedResult) → is_empty (missing_numbers set file.0 (kept answers world keys old)) ≡ list_all (is_served answers world old) keys
  none_missing old =
      empty_seen (λ (rule : ℕ × Key). rule.0) (missing_in set file.0 (kept answers world keys old))
      ∙ both_empty (missing_in set file.0 (kept answers world keys old)) (missing (kept answers world keys old) keys) (none (kept answers world keys old) (keys_of_set set) (activity set file.0))
      ∙ ap (λ (l : List Key). is_empty l) (missing_are answers world keys old)
      ∙ none_left_out (is_served answers world old) keys

  by_test : (b : Bool) (numbers : List ℕ) → value_of depth world (if b then Return true else looked_at rules file numbers) ≡ b
  by_test true numbers = refl
  by_test false numbers = value_of-bind depth world (chosen_meaning java_replies file.0 file.1 numbers rules) (λ came_to. Return false)

  after_kept : (old : Option Entry) → value_of depth world (bind (kept_results answers (results_of old) keys) (then_missing set rules file old)) ≡ (is_there old && list_all (is_served answers world (results_of old)) keys)
  after_kept old =
      value_of-bind depth world (kept_results answers (results_of old) keys) (then_missing set rules file old)
      ∙ ap (λ (stay : List CachedResult). value_of depth world (then_missing set rules file old stay)) (kept_is depth world answers (results_of old) keys)
      ∙ by_test (is_there old && is_empty (missing_numbers set file.0 (kept answers world keys (results_of old)))) (missing_numbers set file.0 (kept answers world keys (results_of old)))
      ∙ ap (λ (b : Bool). is_there old && b) (none_missing (results_of old))

  by_head : (b : Bool) (old : Option Entry) → value_of depth world (if b then Return true else bind (kept_results answers (results_of old) keys) (then_missing set rules file old))
      ≡ (b || (is_there old && list_all (is_served answers world (results_of old)) keys))
  by_head true old = refl
  by_head false old = after_kept old

  pub reused_value : (old : Option Entry) → value_of depth world (reused_by answers set rules file old) ≡ (has_no_tree old || (is_there old && list_all (is_served answers world (results_of old)) keys))
  reused_value old = by_head (has_no_tree old) old
