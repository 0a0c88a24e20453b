-- What a cold report says of the rules at each file.
use Rattle.std.proofs.Common.{◌≡◌, ◌∙◌, ◌≤◌, ℕ, List, [], ◌∷◌, ap, map, refl, subst}
use Rattle.std.specs.List.{AllByRecursion, AllZip}
use Rattle.pj_findings.specs.Merged.{finding_of, found_by}
use Rattle.pj_names.specs.Asking.{Asking, value_of}
use Rattle.pj_outside.specs.Files.{Bytes, Files}
use Rattle.pj_parse.specs.JavaFile.{JavaFile}
use Rattle.pj_reports.specs.declared.rows.FileRows.{FileRows}
use Rattle.pj_reports.specs.declared.ruled.Ruled.{Ruled}
use Rattle.pj_reports.specs.declared.ruled.Ruled.TheVariants.{Message, Spots}
use Rattle.pj_workers.specs.Cold.{AreRowsOf, World}
use Rattle.pj_workers.specs.FileMeaning.{Replies, file_meaning}
use Rattle.pj_workers.specs.Laws.{AreDenoted, ColdFindsWhatIsDenoted, FilesAreTheirRules, FindWhatIsDenoted, FindingsAreDenoted, HasItsReason, IsAnalysed, SpotsHaveReasons}
use Rattle.pj_workers.specs.RuleMeaning.{rule_in_file}
use Rattle.pj_workers.specs.Rules.{Rule}
use Rattle.pj_workers.proofs.EndLaws.{analysed_meaning}
use Rattle.pj_workers.proofs.OrderLaws.{value_given}

module _ (own : FilesAreTheirRules) (denoted : FindingsAreDenoted) (reasons : SpotsHaveReasons) (replies : Replies) (w : World) (rules : List Rule) where
  have_reasons : (d : ℕ) (path : Bytes) (java : JavaFile) (rule : Rule) (r : Ruled) → value_of d w (rule_in_file (replies path java) java rule) ≡ r → AllByRecursion (HasItsReason d w (replies path java) java rule) (found_by r)
  have_reasons d path java rule (Spots spots) is = reasons (replies path java) w d java rule spots is
  have_reasons d path java rule (Message message) is = tt

  rule_denoted : (d : ℕ) (path bytes : Bytes) (number : ℕ) (java : JavaFile) (rule : Rule) → IsAnalysed path bytes rules number java rule
      → AreDenoted replies w d path number java rule (value_of d w (file_meaning replies path bytes rules))
  rule_denoted d path bytes number java rule is =
      let of = own replies w d path bytes rules number rule is.numbered in
      let meaning = ap (λ (m : Asking Ruled). value_of d w m) (analysed_meaning replies path bytes rules number java rule is) in
      record {
        nodes = λ none. denoted replies w d path bytes rules number java rule is none;
        reasons = (
          found_by (value_of d w (rule_in_file (replies path java) java rule)),
          of.findings ∙ ap (λ (r : Ruled). map (finding_of number) (found_by r)) meaning,
          have_reasons d path java rule (value_of d w (rule_in_file (replies path java) java rule)) refl,
        );
      }

  file_denoted : (file : Bytes × Bytes) (rows : Bytes × FileRows) → AreRowsOf replies w rules file rows → FindWhatIsDenoted replies w rules file rows
  file_denoted file rows are =
      let value = value_given w (file_meaning replies file.0 file.1 rules) rows.1 are.names are.comes in
      record {
        least = are.comes.least;
        meant = value;
        denoted = λ d far number java rule is. subst (λ (r : FileRows). AreDenoted replies w d file.0 number java rule r) (value d far) (rule_denoted d file.0 file.1 number java rule is);
      }

  all_denoted : (files : Files) (rows : List (Bytes × FileRows)) → AllZip (AreRowsOf replies w rules) files rows → AllZip (FindWhatIsDenoted replies w rules) files rows
  all_denoted [] [] h = h
  all_denoted [] (r ∷ rs) h = absurd h
  all_denoted (f ∷ fs) [] h = absurd h
  all_denoted (f ∷ fs) (r ∷ rs) h = (file_denoted f r h.0, all_denoted fs rs h.1)

pub cold_denoted : FilesAreTheirRules → FindingsAreDenoted → SpotsHaveReasons → ColdFindsWhatIsDenoted
cold_denoted own denoted reasons replies w files rules unusable report cold = all_denoted own denoted reasons replies w rules files report.files cold.files_are
