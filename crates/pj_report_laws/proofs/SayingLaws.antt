-- What the rows of a file say.
use Rattle.std.proofs.Common.{◌≡◌, ◌⊎◌, ◌∙◌, ◌==◌, ◌&&◌, ◌||◌, ℕ, true, false, cond, List, [], ◌∷◌, ap, filter, inl, inr, map, refl, subst, sym}
use Rattle.std.specs.Prelude.{Some, slice_get}
use Rattle.std.specs.List.{AllByRecursion, AllZip, list_any}
use Rattle.std.specs.List.Sorted.{IsStrictlySortedBy}
use Rattle.std.specs.Ordering.{nat_cmp}
use Rattle.pj_findings.specs.Merged.{error_by, finding_of, found_by}
use Rattle.pj_names.specs.Asking.{Asking, value_of}
use Rattle.pj_outside.specs.Files.{Bytes, Files}
use Rattle.pj_parse.specs.JavaFile.{JavaFile}
use Rattle.pj_reports.specs.declared.rows.FileRows.{FileRows}
use Rattle.pj_reports.specs.declared.rows.Finding.{Finding}
use Rattle.pj_reports.specs.declared.ruled.Ruled.{Ruled}
use Rattle.pj_reports.specs.declared.ruled.Ruled.TheVariants.{Message, Spots}
use Rattle.pj_reports.specs.declared.ruled.Spot.{Spot}
use Rattle.pj_tree.specs.declared.node.Node.{Node}
use Rattle.pj_workers.specs.Cold.{AreRowsOf, World}
use Rattle.pj_workers.specs.FileMeaning.{Replies, file_meaning, rule_meaning}
use Rattle.pj_report_laws.specs.FileSays.{ColdSaysWhatRulesMean, HasOneError, SaysNothing, SaysOfFile, SaysOfNode, SaysOfRule, SaysOfSource, errors_of, findings_of}
use Rattle.pj_workers.specs.Laws.{AreOfRule, ErrorsHaveRules, ErrorsTellCodes, FilesAreInOrder, FilesAreTheirRules, FindingsAreDenoted, FindingsHaveRules, HasItsReason, InactiveIsNothing, IsAnalysed, NoTreeIsOneError, PackagesAreOfTrees, RuleAscends, SpotsAreNodes, SpotsHaveReasons, StandsAtNode, is_finding}
use Rattle.pj_workers.specs.RuleMeaning.{rule_in_file}
use Rattle.pj_workers.specs.Rules.{Rule, is_active}
use Rattle.pj_workers.proofs.EndLaws.{analysed_meaning}
use Rattle.pj_workers.proofs.OrderLaws.{value_given}

-- ---- what a rule came to

any_kept : (number : ℕ) (n : Node) (fs : List Finding) → list_any (is_finding number n) fs ≡ list_any (λ (f : Finding). f.node == n.0) (filter (λ (f : Finding). f.rule == number) fs)
any_kept number n [] = refl
any_kept number n (f ∷ fs) =
    (elim (f.rule == number) as (λ b. ((b && (f.node == n.0)) || list_any (is_finding number n) fs)
    ≡ list_any (λ (g : Finding). g.node == n.0) (cond b (f ∷ filter (λ (g : Finding). g.rule == number) fs) (filter (λ (g : Finding). g.rule == number) fs))) [
      | true ↦ ap (λ rest. (f.node == n.0) || rest) (any_kept number n fs)
      | false ↦ any_kept number n fs
    ])

have_reasons : SpotsHaveReasons → (replies : Replies) (w : World) (d : ℕ) (path : Bytes) (java : JavaFile) (rule : Rule) (r : Ruled) → value_of d w (rule_in_file (replies path java) java rule) ≡ r
    → AllByRecursion (HasItsReason d w (replies path java) java rule) (found_by r)
have_reasons reasons replies w d path java rule (Spots spots) is = reasons (replies path java) w d java rule spots is
have_reasons reasons replies w d path java rule (Message message) is = tt

no_error_or_one : (rows : FileRows) (number : ℕ) (came_to : Ruled) → AreOfRule rows number came_to → (errors_of number rows ≡ []) ⊎ ((findings_of number rows ≡ []) × ((message : Bytes) × HasOneError number message rows))
no_error_or_one rows number (Spots spots) of = inl of.errors
no_error_or_one rows number (Message message) of = inr (of.findings, (message, of.errors))

same_nodes : (number : ℕ) (spots : List Spot) → map (λ (finding : Finding). finding.node) (map (finding_of number) spots) ≡ map (λ (spot : Spot). spot.node) spots
same_nodes number [] = refl
same_nodes number (spot ∷ spots) = ap (λ l. spot.node ∷ l) (same_nodes number spots)

say_of_nodes : (replies : Replies) (w : World) (d : ℕ) (path : Bytes) (java : JavaFile) (rule : Rule) (number : ℕ) (spots : List Spot) → AllByRecursion (StandsAtNode java) spots
    → AllByRecursion (HasItsReason d w (replies path java) java rule) spots → AllByRecursion (SaysOfNode replies w d path java rule) (map (finding_of number) spots)
say_of_nodes replies w d path java rule number [] stand have = tt
say_of_nodes replies w d path java rule number (spot ∷ spots) stand have = (
  record { place = stand.0; reason = have.0.first; reported = have.0.none },
  say_of_nodes replies w d path java rule number spots stand.1 have.1,
)

-- ---- rules at a file

module _ (own : FilesAreTheirRules) (replies : Replies) (w : World) (rules : List Rule) (d : ℕ) (path bytes : Bytes) where
  abbrev rows : FileRows
  rows = value_of d w (file_meaning replies path bytes rules)

  says_nothing : InactiveIsNothing → (number : ℕ) (rule : Rule) → slice_get rules number ≡ Some rule → is_active rule.source path ≡ false → SaysNothing number rows
  says_nothing inactive number rule is off =
      let of = own replies w d path bytes rules number rule is in
      let none = ap (λ (m : Asking Ruled). value_of d w m) (inactive replies path bytes rule off) in
      record {
        findings = of.findings ∙ ap (λ (r : Ruled). map (finding_of number) (found_by r)) none;
        errors = of.errors ∙ ap (λ (r : Ruled). error_by number r) none;
      }

  says_of_rule : RuleAscends → SpotsAreNodes → FindingsAreDenoted → SpotsHaveReasons → ErrorsTellCodes → (number : ℕ) (java : JavaFile) (rule : Rule) → IsAnalysed path bytes rules number java rule
      → SaysOfRule replies w d path java rule number rows
  says_of_rule ascend stand denoted reasons codes number java rule is =
      let of = own replies w d path bytes rules number rule is.numbered in
      let meaning = ap (λ (m : Asking Ruled). value_of d w m) (analysed_meaning replies path bytes rules number java rule is) in
      let came = value_of d w (rule_in_file (replies path java) java rule) in
      let there : findings_of number rows ≡ map (finding_of number) (found_by came) = of.findings ∙ ap (λ (r : Ruled). map (finding_of number) (found_by r)) meaning in
      record {
        nodes = λ none. let by = denoted replies w d path bytes rules number java rule is none in (by.0, by.1, λ n. sym (any_kept number n rows.findings) ∙ by.2 n);
        once = subst (λ (l : List ℕ). IsStrictlySortedBy nat_cmp l)
            (sym (ap (λ (l : List Finding). map (λ (finding : Finding). finding.node) l) of.findings ∙ same_nodes number (found_by (value_of d w (rule_meaning replies path bytes rule)))))
            (ascend replies w d path bytes rule);
        each = subst (λ (l : List Finding). AllByRecursion (SaysOfNode replies w d path java rule) l) (sym there)
            (say_of_nodes replies w d path java rule number (found_by came) (stand (replies path java) w d java rule) (have_reasons reasons replies w d path java rule came refl));
        error = λ message. codes replies w d path bytes rules number java rule message is;
        either = no_error_or_one rows number (value_of d w (rule_meaning replies path bytes rule)) of;
      }

-- ---- cold reports

-- The laws on which what a file says rests.
pub record CitedLaws : Type 0 where
  pub ascend : RuleAscends
  pub stand : SpotsAreNodes
  pub no_tree : NoTreeIsOneError
  pub inactive : InactiveIsNothing
  pub in_order : FilesAreInOrder
  pub own : FilesAreTheirRules
  pub have_rules : FindingsHaveRules
  pub errors_have_rules : ErrorsHaveRules
  pub packages : PackagesAreOfTrees
  pub reasons : SpotsHaveReasons
  pub denoted : FindingsAreDenoted
  pub codes : ErrorsTellCodes

module _ (laws : CitedLaws) (replies : Replies) (w : World) (rules : List Rule) where
  says_of_file : (d : ℕ) (path bytes : Bytes) → SaysOfFile replies w rules d path bytes (value_of d w (file_meaning replies path bytes rules))
  says_of_file d path bytes = record {
    in_order = laws.in_order replies w d path bytes rules;
    of_rules = laws.have_rules replies w d path bytes rules;
    no_tree = λ fault is. ap (λ (m : Asking FileRows). value_of d w m) (laws.no_tree replies path bytes rules fault is);
    package_is = λ java is. laws.packages replies w d path bytes rules java is;
    errors_of_rules = λ java is. laws.errors_have_rules replies w d path bytes rules java is;
    inactive = says_nothing laws.own replies w rules d path bytes laws.inactive;
    active = says_of_rule laws.own replies w rules d path bytes laws.ascend laws.stand laws.denoted laws.reasons laws.codes;
  }

  says_of_source : (file : Bytes × Bytes) (rows : Bytes × FileRows) → AreRowsOf replies w rules file rows → SaysOfSource replies w rules file rows
  says_of_source file rows are =
      let value = value_given w (file_meaning replies file.0 file.1 rules) rows.1 are.names are.comes in
      record {
        path = are.path;
        least = are.comes.least;
        says = λ d far. subst (λ (r : FileRows). SaysOfFile replies w rules d file.0 file.1 r) (value d far) (says_of_file d file.0 file.1);
      }

  say_of_all : (files : Files) (rows : List (Bytes × FileRows)) → AllZip (AreRowsOf replies w rules) files rows → AllZip (SaysOfSource replies w rules) files rows
  say_of_all [] [] h = h
  say_of_all [] (r ∷ rs) h = absurd h
  say_of_all (f ∷ fs) [] h = absurd h
  say_of_all (f ∷ fs) (r ∷ rs) h = (says_of_source f r h.0, say_of_all fs rs h.1)

pub cold_says : CitedLaws → ColdSaysWhatRulesMean
cold_says laws replies w files rules unusable report cold = say_of_all laws replies w rules files report.files cold.files_are
