-- What rules come to over an oracle makes new results.
use Rattle.std.proofs.Common.{◌≡◌, ◌∙◌, ℕ, zero, suc, List, [], ◌∷◌, Option, Some, None, map, refl, slice_get, subst, sym}
use Rattle.std.specs.Prelude.{IsTrue}
use Rattle.std.specs.List.{AllZip, cons_option}
use Rattle.std.specs.Option.{option_map}
use Rattle.pj_cache_laws.specs.Written.{AreFiles, AreWrittenRules, WrittenRule}
use Rattle.pj_cached_files.specs.Asked.{keys_of_set}
use Rattle.pj_cached_files.specs.Made.{new_result, new_results}
use Rattle.pj_findings.specs.declared.run.RuleRun.{RuleRun}
use Rattle.pj_fitting.specs.Left.{IsNew}
use Rattle.pj_fitting.specs.Right.{Files, rules_at}
use Rattle.pj_names.proofs.MeaningLaws.{held-means}
use Rattle.pj_names.specs.Asking.{Asking}
use Rattle.pj_names.specs.ClassName.{name_set}
use Rattle.pj_names.specs.Held.{AreOne}
use Rattle.pj_names.specs.Meaning.{Gives, Means, whole}
use Rattle.pj_names.specs.Told.{Told}
use Rattle.pj_outside.specs.Files.{Bytes}
use Rattle.pj_reports.specs.declared.ruled.Ruled.{Ruled}
use Rattle.pj_rule_sets.specs.Rules.{EffectiveRules}
use Rattle.pj_workers.specs.Chosen.{chosen}
use Rattle.pj_workers.specs.Cold.{World}
use Rattle.pj_workers.specs.FileMeaning.{rule_meaning}
use Rattle.pj_workers.specs.JavaReplies.{java_replies}
use Rattle.pj_workers.specs.Results.{RestsOn}
use Rattle.pj_workers.specs.Rules.{Rule}

-- ---- members by their numbers, seen through a function

one_seen : {A B : Type 0} (f : A → B) (list : List A) (number : ℕ) → slice_get (map f list) number ≡ option_map f (slice_get list number)
one_seen f [] number = refl
one_seen f (x ∷ xs) zero = refl
one_seen f (x ∷ xs) (suc number) = one_seen f xs number

put_seen : {A B : Type 0} (f : A → B) (o : Option A) (list : List A) → cons_option (option_map f o) (map f list) ≡ map f (cons_option o list)
put_seen f None list = refl
put_seen f (Some x) list = refl

pub chosen_seen : {A B : Type 0} (f : A → B) (numbers : List ℕ) (list : List A) → chosen numbers (map f list) ≡ map f (chosen numbers list)
chosen_seen f [] list = refl
chosen_seen f (number ∷ numbers) list = (λ i. cons_option (one_seen f list number i) (chosen_seen f numbers list i)) ∙ put_seen f (slice_get list number) (chosen numbers list)

-- ---- new results

module _ {K : Type 0} (told : Told K) (files : Files WrittenRule) (are : AreFiles java_replies files) (world : World) (path bytes : Bytes) (is_told : IsTrue told.is_told) (one : AreOne told.world world) where
  one_new : (w : WrittenRule) (run : RuleRun) → RestsOn told (rule_meaning java_replies path bytes w.rule) run.rows run.names → IsNew (rules_at files path bytes) world (files.key w) (new_result (files.key w) run)
  one_new w run rests = record {
    rule = w;
    key_is = refl;
    rows = run.rows;
    group_is = refl;
    comes = subst (λ (m : Asking Ruled). Means (whole world) m (Gives run.rows (name_set run.names))) (sym (are.meaning path bytes w))
        (held-means told.world world (rule_meaning java_replies path bytes w.rule) run.rows (name_set run.names) one (rests.held is_told));
  }

  pub each_new : (held : List WrittenRule) (runs : List RuleRun) → AllZip (λ rule run. RestsOn told (rule_meaning java_replies path bytes rule) run.rows run.names) (map (λ (w : WrittenRule). w.rule) held) runs
      → AllZip (IsNew (rules_at files path bytes) world) (map files.key held) (new_results (map files.key held) runs)
  each_new [] [] h = tt
  each_new [] (run ∷ runs) h = absurd h
  each_new (w ∷ held) [] h = absurd h
  each_new (w ∷ held) (run ∷ runs) h = (one_new w run h.0, each_new held runs h.1)
