-- Looking files up.
use Rattle.std.proofs.Common.{◌≡◌, ◌∙◌, ℕ, ◌==◌, true, false, List, [], ◌∷◌, ◌++◌, length, Option, Some, None, Err, is_some, refl, sym, ap, subst, arith}
use Rattle.std.proofs.lemmas.Bool.{eqb-true}
use Rattle.std.specs.Borrow.{Bor}
use Rattle.std.specs.Option.{option_copied}
use Rattle.pj_outside.specs.Files.{Files}
use Rattle.pj_rule_texts.specs.Files as files
use Rattle.pj_rule_texts.specs.Files.{IsRead, IsUnreadable, is_there}
use Rattle.pj_rule_texts.specs.declared.file_fault.FileRefused.{FileRefused}
use Rattle.pj_rule_texts.specs.declared.file_fault.FileRefused.TheVariants as file_refused
use Rattle.pj_rule_sets.specs.Lists.{Taken, is_among}
use Rattle.pj_rule_texts.specs.References.{beside}
use Rattle.pj_rule_texts.specs.Values.{Text, is_empty}
use Rattle.pj_rule_texts.specs.declared.written.WrittenRuleset.{WrittenRuleset}
use Rattle.pj_rules.specs.Effective.{FileFaults}
use Rattle.pj_rules.specs.Finding.{IsBefore, IsFaultAt, IsFound, IsFoundAt, IsFoundFault, IsNewFault}
use Rattle.pj_rules.specs.Known.{AreKnown}
use Rattle.pj_rule_sets.specs.ReadFiles.{list_at}
use Rattle.pj_rules.specs.LookUp.{look_up}
use Rattle.pj_rules.specs.Counts.{CountsFaults}
use Rattle.pj_rules.specs.Refusals.{IfFault, refused_file}
use Rattle.pj_rules.specs.declared.fault.RuleFault.{RuleFault}
use Rattle.pj_rule_sets.specs.declared.known.Known.{Known}
use Rattle.pj_rules.specs.declared.looking_up.Found.{Found}
use Rattle.pj_rules.specs.declared.looking_up.Found.TheVariants.{Nowhere, Before, New}
use Rattle.pj_rules.proofs.KnownFiles.{list_found, there_among, there_list, there_read}

-- ---- reading a file

pub refused_counts : (A B : Type 0) (path : Text) (refused : FileRefused) (old new : ℕ) → files.CountsFaults {A = A} old new (Err refused) →
    CountsFaults {A = B} old new (Err (refused_file path refused))
refused_counts A B path (file_refused.Fault fault) old new h = h
refused_counts A B path file_refused.Failed old new h = h
refused_counts A B path file_refused.Memory old new h = h

module _ (fs : Files) where
  pub refused_unreadable : (path : Text) (refused : FileRefused) → files.IfFault (IsUnreadable fs path) refused → IfFault (IsFaultAt fs path) (refused_file path refused)
  refused_unreadable path (file_refused.Fault fault) h = λ is_top open_. FileFaults.unreadable h
  refused_unreadable path file_refused.Failed h = tt
  refused_unreadable path file_refused.Memory h = tt

  -- ---- what is found under a path

  some_list : (known : Known) (path : Text) (found : Option (List Taken)) → list_at known.read path ≡ found → is_some found ≡ true → AreKnown fs known →
      (is_there fs path ≡ true) × IsBefore known path
  some_list known path None e some known_files = absurd (cc)
  some_list known path (Some list) e some known_files =
      (there_list fs path list (list_found fs known.read path list known_files.read e), λ none. absurd (cc))

  is_some_copied : (found : Option (Bor (List Taken))) → is_some (option_copied found) ≡ is_some found
  is_some_copied None = refl
  is_some_copied (Some list) = refl

  pub found_read : (known : Known) (path : Text) (found : Option (Bor (List Taken))) → option_copied found ≡ list_at known.read path → is_some found ≡ true → AreKnown fs known →
      IsFoundAt fs known path (Before path)
  found_read known path found e some known_files =
      let both = some_list known path (option_copied found) (sym e) (is_some_copied found ∙ some) known_files in (refl, both.0, both.1)

  pub found_open : (known : Known) (path : Text) → is_among path known.open_paths ≡ true → AreKnown fs known → IsFoundAt fs known path (Before path)
  found_open known path among known_files = (refl, there_among fs known.open_paths path known_files.there among, λ none. among)

  pub fault_new : (known : Known) (path : Text) (fault : RuleFault) → is_among path known.open_paths ≡ false → IsFaultAt fs path fault → IsNewFault fs known path fault
  fault_new known path fault fresh h = record { is_new = fresh; faults = h false (known.open_paths ++ path ∷ []) }

  -- ---- where a reference is looked up

  pub empty_nowhere : (known : Known) (from file : Text) → (length file == 0) ≡ true → IsFound fs known from file Nowhere
  empty_nowhere known from [] e = refl
  empty_nowhere known from (c ∷ cs) e = let none : length (c ∷ cs) ≡ 0 = eqb-true (length (c ∷ cs)) 0 e in absurd (omega (arith, none))

  pub not_empty : (file : Text) → (length file == 0) ≡ false → is_empty file ≡ false
  not_empty [] e = absurd (cc)
  not_empty (c ∷ cs) e = refl

  as_written : (from file : Text) → is_empty file ≡ false → is_there fs file ≡ true → look_up fs from file ≡ Some file
  as_written from file full there = rw (full, there) refl

  beside_it : (from file : Text) → is_empty file ≡ false → is_there fs file ≡ false → is_there fs (beside from file) ≡ true → look_up fs from file ≡ Some (beside from file)
  beside_it from file full gone there = rw (full, gone, there) refl

  nowhere : (from file : Text) → is_empty file ≡ false → is_there fs file ≡ false → is_there fs (beside from file) ≡ false → look_up fs from file ≡ None
  nowhere from file full gone gone_too = rw (full, gone, gone_too) refl

  pub found_before : (known : Known) (from file path : Text) → is_empty file ≡ false → IsFoundAt fs known file (Before path) → IsFound fs known from file (Before path)
  found_before known from file path full h = (as_written from file full h.1 ∙ ap Some (sym h.0), subst (IsBefore known) (sym h.0) h.2)

  pub found_new : (known : Known) (from file path : Text) (written : WrittenRuleset) → is_empty file ≡ false → IsFoundAt fs known file (New path written) →
      IsFound fs known from file (New path written)
  found_new known from file path written full h = (
    as_written from file full (there_read fs file written h.1) ∙ ap Some (sym h.0),
    subst (λ p. IsRead fs p written) (sym h.0) h.1,
    subst (λ p. is_among p known.open_paths ≡ false) (sym h.0) h.2,
  )

  pub found_beside : (known : Known) (from file : Text) (r : Found) → is_empty file ≡ false → is_there fs file ≡ false → IsFoundAt fs known (beside from file) r →
      IsFound fs known from file r
  found_beside known from file Nowhere full gone h = nowhere from file full gone h
  found_beside known from file (Before path) full gone h = (beside_it from file full gone h.1 ∙ ap Some (sym h.0), subst (IsBefore known) (sym h.0) h.2)
  found_beside known from file (New path written) full gone h = (
    beside_it from file full gone (there_read fs (beside from file) written h.1) ∙ ap Some (sym h.0),
    subst (λ p. IsRead fs p written) (sym h.0) h.1,
    subst (λ p. is_among p known.open_paths ≡ false) (sym h.0) h.2,
  )

  there_fault : (known : Known) (path : Text) (fault : RuleFault) → FileFaults fs false (known.open_paths ++ path ∷ []) path fault → is_there fs path ≡ true
  there_fault known path fault (FileFaults.unreadable (IsUnreadable.too_long held longer)) = ap is_some held
  there_fault known path fault (FileFaults.unreadable (IsUnreadable.of_bytes held fits h)) = ap is_some held
  there_fault known path fault (FileFaults.in_part behind read stands added judged h) = there_read fs path _ read

  pub fault_written : (known : Known) (from file : Text) (fault : RuleFault) → is_empty file ≡ false → IsNewFault fs known file fault → IsFoundFault fs known from file fault
  fault_written known from file fault full h = record { other = file; found = as_written from file full (there_fault known file fault h.faults); faults = h }

  pub fault_beside : (known : Known) (from file : Text) (fault : RuleFault) → is_empty file ≡ false → is_there fs file ≡ false → IsNewFault fs known (beside from file) fault →
      IsFoundFault fs known from file fault
  fault_beside known from file fault full gone h =
      record { other = beside from file; found = beside_it from file full gone (there_fault known (beside from file) fault h.faults); faults = h }
