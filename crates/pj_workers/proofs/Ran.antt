-- Which rules were evaluated on files, by what came of them.
use Rattle.std.proofs.Common.{◌≡◌, ◌<◌, ◌+◌, ◌++◌, ◌∙◌, ◌==◌, ℕ, zero, suc, Bool, true, false, cond, List, [], ◌∷◌, Result, Ok, Err, ap, append-nil, arith, filter, get_or, length, map, refl, slice_get, sym}
use Rattle.std.specs.Prelude.{flat_map, if◌then◌else◌}
use Rattle.std.specs.List.{AllZip}
use Rattle.std.specs.Option.{option_map_or}
use Rattle.std.proofs.lemmas.Bool.{eqb-true}
use Rattle.std.proofs.lemmas.List.Elements.{filter-append}
use Rattle.pj_findings.specs.declared.run.RuleRun.{RuleRun}
use Rattle.pj_names.specs.Told.{Told}
use Rattle.pj_outside.specs.Files.{Bytes, Files}
use Rattle.pj_parse.specs.FileOutcome.{outcome_of}
use Rattle.pj_parse.specs.JavaFile.{JavaFile}
use Rattle.pj_parse.specs.declared.file_fault.FileFault.{FileFault}
use Rattle.pj_rule_sets.specs.Active.{is_active, is_active_at}
use Rattle.pj_rule_sets.specs.Rules.{EffectiveRule, EffectiveRules}
use Rattle.pj_workers.specs.Chosen.{numbers_to}
use Rattle.pj_workers.specs.Evaluated.{evaluated, evaluated_on, with_path}
use Rattle.pj_workers.specs.JavaReplies.{java_replies}
use Rattle.pj_workers.specs.Results.{IsResultAt, rules_in}
use Rattle.pj_workers.specs.Rules.{AreRulesOf, IsRuleOf, Rule}
use Rattle.pj_workers.specs.Views.{evaluated_by}
use Rattle.pj_workers.specs.declared.result.FileResult.{FileResult}
use Rattle.pj_workers.proofs.Chosen.{one_number_more}
use Rattle.pj_workers.proofs.Running.{zip_length}

-- ---- numbers of active rules

-- a fact that is known of each member of a list is known of the one of a number
told_at : {X : Type 0} (f : X → Bool) (xs : List X) (i : ℕ) (b d : Bool) → i < length xs → b ≡ get_or (map f xs) i d → option_map_or f (slice_get xs i) false ≡ b
told_at f [] i b d below is = absurd (omega (arith, below))
told_at f (x ∷ xs) zero b d below is = sym is
told_at f (x ∷ xs) (suc i) b d below is = told_at f xs i b d (omega (arith, below)) is

put_by : (test : ℕ → Bool) (front : List ℕ) (i : ℕ) (b c : Bool) → test i ≡ b → c ≡ b → filter test front ++ filter test (i ∷ []) ≡ (if c then filter test front ++ i ∷ [] else filter test front)
put_by test front i true true is same = ap (λ (t : Bool). filter test front ++ cond t (i ∷ []) []) is
put_by test front i false false is same = ap (λ (t : Bool). filter test front ++ cond t (i ∷ []) []) is ∙ append-nil (filter test front)
put_by test front i true false is same = absurd cc
put_by test front i false true is same = absurd cc

-- one more number is put behind the others, if its rule is active
pub active_more : (set : EffectiveRules) (path : Bytes) (i : ℕ) (b d : Bool) (numbers more : List ℕ) → i < length set.rules → b ≡ get_or (map (λ (rule : EffectiveRule). is_active rule path) set.rules) i d
    → numbers ≡ filter (λ n. is_active_at set n path) (numbers_to i) → more ≡ (if b then numbers ++ i ∷ [] else numbers) → more ≡ filter (λ n. is_active_at set n path) (numbers_to (i + 1))
active_more set path i b d numbers more below is so_far put =
    put ∙ ap (λ (l : List ℕ). if b then l ++ i ∷ [] else l) so_far
    ∙ sym (put_by (λ n. is_active_at set n path) (numbers_to i) i b b (told_at (λ (rule : EffectiveRule). is_active rule path) set.rules i b d below is) refl)
    ∙ sym (filter-append (λ n. is_active_at set n path) (numbers_to i) (i ∷ []))
    ∙ ap (λ (l : List ℕ). filter (λ n. is_active_at set n path) l) (sym (one_number_more i))

-- ---- by what came of files

not_none : (n : ℕ) → (suc n == 0) ≡ true → ⊥
not_none n is = let never : suc n ≡ 0 = eqb-true (suc n) 0 is in omega (arith, never)

-- without runs no rule was evaluated
pub none_evaluated : (set : EffectiveRules) (path : Bytes) (runs : List RuleRun) → (length runs == 0) ≡ true → [] ≡ evaluated_by set path runs
none_evaluated set path [] is = refl
none_evaluated set path (run ∷ runs) is = absurd (not_none (length runs) is)

none_of : {X Y : Type 0} (R : X → Y → Type 0) (xs : List X) → AllZip R xs [] → 0 ≡ length xs
none_of R xs zip = zip_length R xs [] zip

-- the rules that were evaluated, where each has a run, or there is no tree
pub by_runs : (set : EffectiveRules) (path : Bytes) (o : Result JavaFile FileFault) (meant : List Rule) (runs : List RuleRun) (R : Rule → RuleRun → Type 0) → AreRulesOf set meant → AllZip R (rules_in o meant) runs → evaluated_by set path runs ≡ evaluated set path o
by_runs set path (Ok file) meant [] R are zip =
    let none : 0 ≡ length set.rules = none_of R meant zip ∙ zip_length (IsRuleOf set.marker) set.rules meant are in
    ap (λ (n : ℕ). filter (λ k. is_active_at set k path) (numbers_to n)) none
by_runs set path (Ok file) meant (run ∷ runs) R are zip = refl
by_runs set path (Err fault) meant [] R are zip = refl
by_runs set path (Err fault) meant (run ∷ runs) R are zip = absurd zip

abbrev pub ran_of : EffectiveRules → Bytes × FileResult → List (Bytes × ℕ)
ran_of set of_file = with_path of_file.0 (evaluated_by set of_file.0 of_file.1.runs)

-- of each of the files
pub all_by_runs : {K : Type 0} (set : EffectiveRules) (t : Told K) (meant : List Rule) (files : Files) (found : List (Bytes × FileResult)) → AreRulesOf set meant → AllZip (IsResultAt t java_replies meant) files found
    → flat_map (ran_of set) found ≡ evaluated_on set files
all_by_runs set t meant [] [] are zip = refl
all_by_runs set t meant [] (of_file ∷ found) are zip = absurd zip
all_by_runs set t meant (file ∷ files) [] are zip = absurd zip
all_by_runs set t meant (file ∷ files) (of_file ∷ found) are zip =
    let one : ran_of set of_file ≡ with_path file.0 (evaluated set file.0 (outcome_of file.1)) =
    ap (λ (path : Bytes). with_path path (evaluated_by set path of_file.1.runs)) zip.0.path
    ∙ ap (λ (numbers : List ℕ). with_path file.0 numbers) (by_runs set file.0 (outcome_of file.1) meant of_file.1.runs _ are zip.0.result.runs) in
    λ i. one i ++ all_by_runs set t meant files found are zip.1 i
