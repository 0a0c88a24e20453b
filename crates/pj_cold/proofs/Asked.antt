-- The classes for which what rules mean at files asks, together.
use Rattle.std.proofs.Common.{◌≡◌, ◌∙◌, ◌++◌, ℕ, ◌||◌, List, [], ◌∷◌, map, Option, None, Some, ap, append-nil, arith, sym}
use Rattle.std.specs.Prelude.{◌≤◌, IfOk, IfSome, IsTrue, OnOk, Result, Ok, Err}
use Rattle.std.specs.Cmp.Lexicographic.{nat_list_cmp_total, slice_cmp}
use Rattle.std.specs.FinSet as name_sets
use Rattle.std.specs.FinSet.{contains-empty, contains-from_list, contains-union}
use Rattle.std.specs.List.{AllZip}
use Rattle.std.specs.Ordering.{nat_cmp}
use Rattle.pj_names.proofs.Held.{asked-held}
use Rattle.pj_names.proofs.MeaningLaws.{held-means, names_of-bind}
use Rattle.pj_names.proofs.NameLists.{is_in-append, same_names}
use Rattle.pj_names.specs.Asking.{Asking, Return, bind, each, names_of, value_of}
use Rattle.pj_names.specs.ClassName.{Name, NameSet, name_set}
use Rattle.pj_names.specs.Held.{AreOne}
use Rattle.pj_names.specs.Told.{Asks, Told, longest, seen}
use Rattle.pj_names.specs.declared.answer.Answer.{Answer}
use Rattle.pj_names.specs.declared.oracle.AskFault.{AskFault}
use Rattle.pj_outside.specs.Doors.{count_and}
use Rattle.pj_outside.specs.Files.{Bytes, Files}
use Rattle.pj_reports.specs.declared.rows.FileRows.{FileRows}
use Rattle.pj_rule_sets.specs.Rules.{EffectiveRules}
use Rattle.pj_table.specs.ClassWorld.{folders_world}
use Rattle.pj_table.specs.Telling.{tells_of}
use Rattle.pj_workers.specs.Cold.{World}
use Rattle.pj_workers.specs.FileMeaning.{file_meaning}
use Rattle.pj_workers.specs.JavaReplies.{java_replies}
use Rattle.pj_workers.specs.Results.{IsResultAt}
use Rattle.pj_workers.specs.Rules.{AreRulesOf, Rule}
use Rattle.pj_workers.specs.declared.result.FileResult.{FileResult}
use Rattle.pj_cold.specs.Finds.{AskAt, CountsAsked, CountsNames, all_of}

-- ---- sets of names

none_named : name_set [] ≡ name_sets.empty
none_named = same_names (name_set []) name_sets.empty (λ q. contains-from_list nat_list_cmp_total [] q ∙ sym (contains-empty (slice_cmp nat_cmp) q))

-- names one after the other
both_named : (ns ms : List Name) → name_set (ns ++ ms) ≡ name_sets.union (name_set ns) (name_set ms)
both_named ns ms = same_names (name_set (ns ++ ms)) (name_sets.union (name_set ns) (name_set ms)) (λ q.
    contains-from_list nat_list_cmp_total (ns ++ ms) q
    ∙ is_in-append ns ms q
    ∙ (λ i. sym (contains-from_list nat_list_cmp_total ns q) i || sym (contains-from_list nat_list_cmp_total ms q) i)
    ∙ sym (contains-union nat_list_cmp_total (name_set ns) (name_set ms) q))

-- ---- counts

-- the finds of a door, which an oracle that keeps what they were tells
pub counts_of : (begun now kept : ℕ) (names : NameSet) → kept ≡ begun → now ≡ count_and kept (name_sets.len names) → CountsNames begun now names
counts_of begun now kept names is counts = counts ∙ ap (λ n. count_and n (name_sets.len names)) is

-- ---- meanings one after the other

module _ {A B : Type 0} (depth : ℕ) (world : Name → Answer) (meaning : A → Asking B) where
  -- the names of the first, and those of the others
  pub names_of_more : (x : A) (xs : List A) → name_set (names_of depth world (each meaning (x ∷ xs))) ≡ name_sets.union (name_set (names_of depth world (meaning x))) (name_set (names_of depth world (each meaning xs)))
  names_of_more x xs =
      let value = value_of depth world (meaning x) in
      ap name_set (names_of-bind depth world (meaning x) (λ (v : B). bind (each meaning xs) (λ (vs : List B). Return (v ∷ vs))))
      ∙ both_named (names_of depth world (meaning x)) (names_of depth world (bind (each meaning xs) (λ (vs : List B). Return (value ∷ vs))))
      ∙ ap (λ (names : List Name). name_sets.union (name_set (names_of depth world (meaning x))) (name_set names))
      (names_of-bind depth world (each meaning xs) (λ (vs : List B). Return (value ∷ vs)) ∙ append-nil (names_of depth world (each meaning xs)))

-- ---- files

-- the sets of the names on which what came of files rests
abbrev names_found : List (Bytes × FileResult) → List NameSet
names_found found = map (λ (of_file : Bytes × FileResult). name_set of_file.1.names) found

abbrev of_file : List Rule → Bytes × Bytes → Asking FileRows
of_file rules file = file_meaning java_replies file.0 file.1 rules

module _ {K : Type 0} (t : Told K) (rules : List Rule) (is_told : IsTrue t.is_told) where
  far : longest ≤ longest
  far = omega arith

  -- those are asked for
  together : (files : Files) (found : List (Bytes × FileResult)) → AllZip (IsResultAt t java_replies rules) files found
      → name_set (names_of longest (t.world longest).answer (each (of_file rules) files)) ≡ all_of (names_found found)
  together [] [] h = none_named
  together [] (x ∷ xs) h = absurd h
  together (f ∷ fs) [] h = absurd h
  together (f ∷ fs) (x ∷ xs) h =
      names_of_more longest (t.world longest).answer (of_file rules) f fs
      ∙ (λ i. name_sets.union ((h.0.result.rows.held is_told).names_are longest far i) (together fs xs h.1 i))

  each_asks : (world : World) → AreOne t.world world → (files : Files) (found : List (Bytes × FileResult)) → AllZip (IsResultAt t java_replies rules) files found → AllZip (AskAt world rules) files (names_found found)
  each_asks world one [] [] h = tt
  each_asks world one [] (x ∷ xs) h = absurd h
  each_asks world one (f ∷ fs) [] h = absurd h
  each_asks world one (f ∷ fs) (x ∷ xs) h = (
    record { rows = x.1.rows; comes = held-means t.world world (of_file rules f) x.1.rows (name_set x.1.names) one (h.0.result.rows.held is_told) },
    each_asks world one fs xs h.1,
  )

-- the rows of what came of files
abbrev rows_alone : List (Bytes × FileResult) → List FileRows
rows_alone found = map (λ (of_file : Bytes × FileResult). of_file.1.rows) found

-- Over a door that tells its folders the finds rise by the names that are asked there.
pub counts_over_door : {K : Type 0} (folders : Option (List Files)) (kept : K) (faults : ℕ) (t u : Told K) (set : EffectiveRules) (files : Files) (r : Result (List (Bytes × FileResult)) AskFault) (old new : ℕ) (rules : List Rule) → AreRulesOf set rules
    → t ≡ tells_of kept folders name_sets.empty faults → Asks (each (of_file rules) files) t u (seen rows_alone r) → IfOk r (λ found. (all : List Rule) → AreRulesOf set all → AllZip (IsResultAt t java_replies all) files found)
    → CountsNames old new u.asked → IfSome folders (λ held. OnOk r (CountsAsked (folders_world held).answer files set old new))
counts_over_door None kept faults t u set files r old new rules are tells asks is counts = tt
counts_over_door (Some held) kept faults t u set files (Err fault) old new rules are tells asks is counts = tt
counts_over_door {K} (Some held) kept faults t u set files (Ok found) old new rules are tells asks is counts =
    let is_told : IsTrue t.is_told = λ i. (tells i).is_told in
    let one : AreOne t.world (folders_world held).answer = λ depth far. (λ i. ((tells i).world depth).answer) in
    let held_together = asked-held (each (of_file rules) files) t u (rows_alone found) is_told (λ depth far name. (λ i. ((tells i).world depth).needs name)) (λ i. (tells i).asked) asks in
    record {
      names = u.asked;
      asked = record {
        rules = rules;
        are_rules = are;
        of_files = names_found found;
        each = each_asks t rules is_told (folders_world held).answer one files found (is rules are);
        all = sym (held_together.names_are longest (far t rules is_told)) ∙ together t rules is_told files found (is rules are);
      };
      counts = counts;
    }
