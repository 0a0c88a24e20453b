-- From the bytes of a file to its rows.
use Rattle.std.proofs.Common.{◌≡◌, ◌↔◌, ◌∙◌, ◌==◌, ◌&&◌, ◌||◌, ℕ, true, false, cond, List, [], ◌∷◌, Some, ap, filter, map, refl, sym}
use Rattle.std.specs.List.{list_any}
use Rattle.pj_findings.specs.Merged.{error_by, finding_of, found_by}
use Rattle.pj_names.specs.Asking.{Asking, value_of}
use Rattle.pj_parse.specs.JavaFile.{JavaFile}
use Rattle.pj_reports.specs.declared.rows.FileError.{FileError}
use Rattle.pj_reports.specs.declared.rows.Finding.{Finding}
use Rattle.pj_reports.specs.declared.ruled.Ruled.{Ruled}
use Rattle.pj_reports.specs.declared.ruled.Ruled.TheVariants.{Spots, Message}
use Rattle.pj_reports.specs.declared.ruled.Spot.{Spot}
use Rattle.pj_tree.specs.declared.node.Node.{Node}
use Rattle.pj_outside.specs.Files.{Bytes}
use Rattle.pj_workers.specs.FileMeaning.{Replies, nothing, rule_at, rule_meaning}
use Rattle.pj_workers.specs.Laws.{ErrorsTellCodes, FilesAreTheirRules, FindingsAreDenoted, FoundAreDenoted, IsAnalysed, MessagesTellCodes, is_finding}
use Rattle.pj_workers.specs.RuleMeaning.{rule_in_file}
use Rattle.pj_workers.specs.Rules.{Rule}

-- what a rule means where it is looked at
pub analysed_meaning : (replies : Replies) (path bytes : Bytes) (rules : List Rule) (number : ℕ) (file : JavaFile) (rule : Rule) → IsAnalysed path bytes rules number file rule
    → rule_meaning replies path bytes rule ≡ rule_in_file (replies path file) file rule
analysed_meaning replies path bytes rules number file rule is =
    ap (λ o. rule_at replies path o rule) is.tree ∙ ap (λ b. cond b (rule_in_file (replies path file) file rule) nothing) is.active

-- ---- rows of one rule

any_kept : (number : ℕ) (n : Node) (fs : List Finding) → list_any (is_finding number n) fs ≡ list_any (λ (f : Finding). f.node == n.0) (filter (λ (f : Finding). f.rule == number) fs)
any_kept number n [] = refl
any_kept number n (f ∷ fs) =
    (elim (f.rule == number) as (λ b. ((b && (f.node == n.0)) || list_any (is_finding number n) fs)
    ≡ list_any (λ (g : Finding). g.node == n.0) (cond b (f ∷ filter (λ (g : Finding). g.rule == number) fs) (filter (λ (g : Finding). g.rule == number) fs))) [
      | true ↦ ap (λ rest. (f.node == n.0) || rest) (any_kept number n fs)
      | false ↦ any_kept number n fs
    ])

any_found : (number : ℕ) (n : Node) (spots : List Spot) → list_any (λ (f : Finding). f.node == n.0) (map (finding_of number) spots) ≡ list_any (λ (s : Spot). s.node == n.0) spots
any_found number n [] = refl
any_found number n (s ∷ spots) = ap (λ rest. (s.node == n.0) || rest) (any_found number n spots)

without_error : (number : ℕ) (came_to : Ruled) → error_by number came_to ≡ [] → (spots : List Spot) × (came_to ≡ Spots spots)
without_error number (Spots spots) none = (spots, refl)
without_error number (Message message) none = absurd (cc)

first_message : List FileError → Bytes
first_message [] = []
first_message (error ∷ errors) = error.message

error_is : (number : ℕ) (came_to : Ruled) (message : Bytes) → (error_by number came_to ≡ record { rule = Some number; message = message } ∷ []) ↔ (came_to ≡ Message message)
unfolding first_message
error_is number (Spots spots) message = (λ h. absurd (cc), λ h. absurd (cc))
error_is number (Message told) message = (
  λ h. ap (λ m. Message m) (ap first_message h),
  λ h. let same : told ≡ message = cc in ap (λ m. record { rule = Some number; message = m } ∷ []) same,
)

-- ---- the laws

pub findings_denoted : FilesAreTheirRules → FoundAreDenoted → FindingsAreDenoted
findings_denoted own denoted replies w d path bytes rules number file rule is none =
    let of = own replies w d path bytes rules number rule is.numbered in
    let meaning = ap (λ (m : Asking Ruled). value_of d w m) (analysed_meaning replies path bytes rules number file rule is) in
    let came_to = without_error number (value_of d w (rule_meaning replies path bytes rule)) (sym of.errors ∙ none) in
    let spots = came_to.0 in
    let by = denoted (replies path file) w d file rule spots (sym meaning ∙ came_to.1) in
    (by.0, by.1, λ n. any_kept number n _ ∙ ap (list_any (λ (f : Finding). f.node == n.0)) (of.findings ∙ ap (λ r. map (finding_of number) (found_by r)) came_to.1) ∙ any_found number n spots ∙ by.2 n)

pub errors_tell : FilesAreTheirRules → MessagesTellCodes → ErrorsTellCodes
errors_tell own tell replies w d path bytes rules number file rule message is =
    let of = own replies w d path bytes rules number rule is.numbered in
    let meaning = ap (λ (m : Asking Ruled). value_of d w m) (analysed_meaning replies path bytes rules number file rule is) in
    let error = error_is number (value_of d w (rule_meaning replies path bytes rule)) message in
    let told = tell (replies path file) w d file rule message in
    (λ h. told.0 (sym meaning ∙ error.0 (sym of.errors ∙ h)), λ h. of.errors ∙ error.1 (meaning ∙ told.1 h))
