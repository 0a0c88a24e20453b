-- What is gathered of rules and files, one after the other.
use Rattle.std.proofs.Common.{◌≡◌, ℕ, List, [], ◌∷◌, map, Option, None, Some, ap, sym, subst, refl}
use Rattle.std.specs.Prelude.{IfOk, IfSome, IsTrue, Result, Ok, Err}
use Rattle.std.specs.List.{AllZip}
use Rattle.pj_names.proofs.MeaningLaws.{held-means}
use Rattle.pj_names.specs.Asking.{Asking}
use Rattle.pj_names.specs.ClassName.{NameSet, name_set}
use Rattle.pj_names.specs.Held.{AreOne}
use Rattle.pj_names.specs.Told.{Asks, Told, seen}
use Rattle.pj_names.specs.declared.oracle.AskFault.{AskFault}
use Rattle.pj_names.specs.declared.oracle.AskFault.TheVariants.{Failed, Memory}
use Rattle.pj_outside.specs.Files.{Bytes, Files}
use Rattle.pj_reports.specs.declared.rows.FileRows.{FileRows}
use Rattle.pj_rule_sets.specs.Rules.{EffectiveRule, EffectiveRules}
use Rattle.pj_rule_texts.specs.Values.{Text}
use Rattle.pj_table.specs.ClassWorld.{folders_world}
use Rattle.pj_table.specs.Telling.{tells_of}
use Rattle.pj_workers.specs.Cold.{AreRowsOf, World}
use Rattle.pj_workers.specs.FileMeaning.{file_meaning}
use Rattle.pj_workers.specs.JavaReplies.{java_replies}
use Rattle.pj_workers.specs.Results.{IsResultAt}
use Rattle.pj_workers.specs.Rules.{AreRulesOf, IsRuleOf, Rule}
use Rattle.pj_workers.specs.declared.result.FileResult.{FileResult}
use Rattle.pj_cold.specs.Steps.{AreRows, CountsDoorFaults}

-- ---- rules

-- rules of a set have its rows
pub rows_are : (marker : Text) (kept : List EffectiveRule) (all : List Rule) → AllZip (IsRuleOf marker) kept all → map (λ (rule : EffectiveRule). rule.row) kept ≡ map (λ (rule : Rule). rule.source.texts.row) all
rows_are marker [] [] h = refl
rows_are marker [] (r ∷ rs) h = absurd h
rows_are marker (k ∷ ks) [] h = absurd h
rows_are marker (k ∷ ks) (r ∷ rs) h =
    let first : k.row ≡ r.source.texts.row = sym (ap (λ s. s.texts.row) h.0.source) in
    let rest = rows_are marker ks rs h.1 in
    λ i. first i ∷ rest i

-- ---- files

-- the rows of what was found, with their paths
abbrev pub rows_found : List (Bytes × FileResult) → List (Bytes × FileRows)
rows_found found = map (λ (of_file : Bytes × FileResult). (of_file.0, of_file.1.rows)) found

-- what came of files over an oracle are their rows in its world
rows_over : {K : Type 0} (t : Told K) (world : World) (all : List Rule) (files : Files) (found : List (Bytes × FileResult)) → IsTrue t.is_told → AreOne t.world world → AllZip (IsResultAt t java_replies all) files found
    → AllZip (AreRowsOf java_replies world all) files (rows_found found)
rows_over t world all [] [] told one h = tt
rows_over t world all [] (x ∷ xs) told one h = absurd h
rows_over t world all (f ∷ fs) [] told one h = absurd h
rows_over t world all (f ∷ fs) (x ∷ xs) told one h = (
  record {
    path = h.0.path;
    names = name_set x.1.names;
    comes = held-means t.world world (file_meaning java_replies f.0 f.1 all) x.1.rows (name_set x.1.names) one (h.0.result.rows.held told);
  },
  rows_over t world all fs xs told one h.1,
)

-- over a door that tells its folders they are the rows in the world of these
pub rows_over_door : {K : Type 0} (folders : Option (List Files)) (kept : K) (asked : NameSet) (faults : ℕ) (t : Told K) (set : EffectiveRules) (files : Files) (r : Result (List (Bytes × FileResult)) AskFault)
    → t ≡ tells_of kept folders asked faults → IfOk r (λ found. (all : List Rule) → AreRulesOf set all → AllZip (IsResultAt t java_replies all) files found)
    → IfSome folders (λ held. IfOk r (λ found. AreRows (folders_world held).answer set files (rows_found found)))
rows_over_door None kept asked faults t set files r tells is = tt
rows_over_door (Some held) kept asked faults t set files (Ok found) tells is =
    λ all are. rows_over t (folders_world held).answer all files found (λ i. (tells i).is_told) (λ depth far. (λ i. ((tells i).world depth).answer)) (is all are)
rows_over_door (Some held) kept asked faults t set files (Err fault) tells is = tt

-- rows that were copied are the same
pub rows_same : (folders : Option (List Files)) (set : EffectiveRules) (files : Files) (found : List (Bytes × FileResult)) (rows : List (Bytes × FileRows)) → rows ≡ rows_found found
    → IfSome folders (λ held. AreRows (folders_world held).answer set files (rows_found found)) → IfSome folders (λ held. AreRows (folders_world held).answer set files rows)
rows_same folders set files found rows same are = subst (λ (made : List (Bytes × FileRows)). IfSome folders (λ held. AreRows (folders_world held).answer set files made)) (sym same) are

-- the faults of an oracle rise exactly with `Failed`
pub asked_faults : {K A B : Type 0} (view : A → B) (m : Asking B) (t u : Told K) (r : Result A AskFault) → Asks m t u (seen view r) → CountsDoorFaults t.faults u.faults r
asked_faults view m t u (Ok a) h = h.faults_stay
asked_faults view m t u (Err Failed) h = record { never_falls = h.faults_grow; rose = h.failed refl }
asked_faults view m t u (Err Memory) h = h.faults_stay
