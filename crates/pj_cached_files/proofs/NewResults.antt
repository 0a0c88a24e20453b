-- New results, as a loop makes them, and the numbers of the rules for which they are made.
use Rattle.std.proofs.Common.{◌≡◌, ◌<◌, ◌≤◌, ◌+◌, ◌++◌, ◌∙◌, ℕ, zero, suc, List, [], ◌∷◌, Result, Ok, Err, Option, Some, None, ap, append_assoc, arith, drop, get_or, length, map, refl, slice_get, subst, sym}
use Rattle.std.specs.List.{All, AllByRecursion, AllZip, cons_option}
use Rattle.std.proofs.lemmas.List.Elements.{All-from_recursion, recursion_from_All}
use Rattle.pj_cache.specs.declared.cache.CachedResult.{CachedResult}
use Rattle.pj_cached_files.specs.Asked.{keys_of_set, missing_in, missing_numbers}
use Rattle.pj_cached_files.specs.Made.{new_result, new_results}
use Rattle.pj_findings.specs.declared.run.RuleRun.{RuleRun}
use Rattle.pj_fitting.proofs.Lists.{all_map}
use Rattle.pj_fitting.specs.Right.{Key}
use Rattle.pj_left_cache.proofs.LeftLaws.{all_append}
use Rattle.pj_left_cache.proofs.MissingLaws.{StandsAt, each_stands}
use Rattle.pj_outside.specs.Files.{Bytes}
use Rattle.pj_parse.specs.JavaFile.{JavaFile}
use Rattle.pj_parse.specs.declared.file_fault.FileFault.{FileFault}
use Rattle.pj_rule_sets.specs.Active.{is_active}
use Rattle.pj_rule_sets.specs.Rules.{EffectiveRule, EffectiveRules}
use Rattle.pj_workers.proofs.Chosen.{chosen_short}
use Rattle.pj_workers.proofs.Running.{zip_length}
use Rattle.pj_workers.specs.Chosen.{chosen}
use Rattle.pj_workers.specs.Results.{rules_in}
use Rattle.pj_workers.specs.Rules.{Rule}

-- ---- a step of the loop

pub got : {A : Type 0} (xs : List A) (i : ℕ) (x : A) → i < length xs → x ≡ get_or xs i x → slice_get xs i ≡ Some x
got [] i x below is = absurd (omega (arith, below))
got (y ∷ ys) zero x below is = ap (λ z. Some z) (sym is)
got (y ∷ ys) (suc i) x below is = got ys i x (omega (arith, below)) is

pub next_made : (keys : List Key) (which : List ℕ) (place number : ℕ) (key : Key) (run : RuleRun) (rest : List RuleRun) (made more all : List CachedResult)
    → drop place which ≡ number ∷ drop (place + 1) which → slice_get keys number ≡ Some key → more ≡ made ++ new_result key run ∷ []
    → made ++ new_results (chosen (drop place which) keys) (run ∷ rest) ≡ all → more ++ new_results (chosen (drop (place + 1) which) keys) rest ≡ all
next_made keys which place number key run rest made more all left is put so_far =
    let later : List Key = chosen (drop (place + 1) which) keys in
    (λ i. put i ++ new_results later rest)
    ∙ append_assoc made (new_result key run ∷ []) (new_results later rest)
    ∙ (λ i. made ++ new_results (cons_option (sym is i) later) (run ∷ rest))
    ∙ (λ i. made ++ new_results (chosen (sym left i) keys) (run ∷ rest))
    ∙ so_far

-- without runs there are none
pub none_made : (keys : List Key) → new_results keys [] ≡ []
none_made [] = refl
none_made (k ∷ ks) = refl

-- ---- numbers

there_below : {A : Type 0} (xs : List A) (i : ℕ) (x : A) → slice_get xs i ≡ Some x → i < length xs
there_below [] i x is = absurd cc
there_below (y ∷ ys) zero x is = omega arith
there_below (y ∷ ys) (suc i) x is = let rest = there_below ys i x is in omega (arith, rest)

all_numbers : (count : ℕ) (ms : List (ℕ × Key)) → AllByRecursion (λ (m : ℕ × Key). m.0 < count) ms → AllByRecursion (λ (n : ℕ). n < count) (map (λ (m : ℕ × Key). m.0) ms)
all_numbers count [] all = tt
all_numbers count (m ∷ ms) all = (all.0, all_numbers count ms all.1)

-- the numbers of missing rules are those of keys
pub numbers_of_keys : (set : EffectiveRules) (path : Bytes) (stay : List CachedResult) → All (λ (n : ℕ). n < length (keys_of_set set)) (missing_numbers set path stay)
numbers_of_keys set path stay =
    let keys : List Key = keys_of_set set in
    let active = map (λ (rule : EffectiveRule). is_active rule path) set.rules in
    All-from_recursion (λ (n : ℕ). n < length keys) (missing_numbers set path stay)
    (all_numbers (length keys) (missing_in set path stay)
    (all_map (StandsAt keys active) (λ (m : ℕ × Key). m.0 < length keys) (missing_in set path stay) (λ m at. there_below keys m.0 m.1 at.0)
    (recursion_from_All (StandsAt keys active) (missing_in set path stay) (each_stands stay keys active))))

same_length : {A B : Type 0} (f : A → B) (xs : List A) → length (map f xs) ≡ length xs
same_length f [] = refl
same_length f (x ∷ xs) = ap suc (same_length f xs)

-- and of rules
pub numbers_of_rules : (set : EffectiveRules) (path : Bytes) (stay : List CachedResult) → All (λ (n : ℕ). n < length set.rules) (missing_numbers set path stay)
numbers_of_rules set path stay = subst (λ (count : ℕ). All (λ (n : ℕ). n < count) (missing_numbers set path stay)) (same_length _ set.rules) (numbers_of_keys set path stay)

rules_short : (o : Result JavaFile FileFault) (rules : List Rule) → length (rules_in o rules) ≤ length rules
rules_short (Ok file) rules = omega arith
rules_short (Err fault) rules = omega arith

-- there are no more runs than numbers
pub runs_short : (R : Rule → RuleRun → Type 0) (o : Result JavaFile FileFault) (numbers : List ℕ) (rules : List Rule) (runs : List RuleRun) → AllZip R (rules_in o (chosen numbers rules)) runs → length runs ≤ length numbers
runs_short R o numbers rules runs zip = omega (arith, zip_length R (rules_in o (chosen numbers rules)) runs zip, rules_short o (chosen numbers rules), chosen_short numbers rules)

-- ---- lists

pub none_of : {A : Type 0} (xs : List A) → length xs ≡ 0 → xs ≡ []
none_of [] is = refl
none_of (x ∷ xs) is = absurd (omega (arith, is))

pub all_last : {A : Type 0} (P : A → Type 0) (xs : List A) (x : A) (ys : List A) → ys ≡ xs ++ x ∷ [] → All P xs → P x → All P ys
all_last {A} P xs x ys is all one = All-from_recursion P ys (subst (λ (l : List A). AllByRecursion P l) (sym is) (all_append P xs (x ∷ []) (recursion_from_All P xs all) (one, tt)))
