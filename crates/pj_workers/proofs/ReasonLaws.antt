-- The reasons of a rule's findings in a file.
use Rattle.std.proofs.Common.{◌≡◌, ◌↔◌, ◌∙◌, ℕ, Bool, true, false, List, [], ◌∷◌, Option, None, Some, Result, Ok, Err, ap, refl, subst, sym}
use Rattle.std.specs.Prelude.{⊤}
use Rattle.std.specs.List.{AllByRecursion}
use Rattle.pj_findings.specs.Denoted.{denoted}
use Rattle.pj_names.specs.Asking.{value_of}
use Rattle.pj_parse.specs.JavaFile.{JavaFile}
use Rattle.pj_reports.specs.declared.rows.Reason.{Reason}
use Rattle.pj_reports.specs.declared.ruled.Ruled.TheVariants.{Spots}
use Rattle.pj_reports.specs.declared.ruled.Spot.{Spot}
use Rattle.pj_tree.specs.declared.node.Node.{Node}
use Rattle.pj_xexpressions.specs.declared.expr.Expr.{Expr}
use Rattle.pj_xsteps.specs.Context.{at}
use Rattle.pj_xsteps.specs.Means.{Means, after, give, judged, ◌>>=◌}
use Rattle.pj_xvalue.specs.Boolean.{effective_boolean}
use Rattle.pj_xvalue.specs.Items.{ItemValue, Element}
use Rattle.pj_xvalue.specs.declared.fault.XCode.{XCode}
use Rattle.pj_workers.specs.Cold.{World}
use Rattle.pj_workers.specs.Laws.{HasItsReason, SpotsHaveReasons}
use Rattle.pj_workers.specs.Reasons.{plain_reason_of, xpath_reason}
use Rattle.pj_workers.specs.RuleFacts.{IsFalseAt, IsUncovered, items_in, reason_in, value_at}
use Rattle.pj_xlaws.specs.Laws.{Reply}
use Rattle.pj_workers.specs.RuleMeaning.{extent_at, found, found_at, found_of, items, reason_after, reason_at, result_of, value_of as denoted_by}
use Rattle.pj_workers.specs.Rules.{Rule}
use Rattle.pj_workers.proofs.RuleLaws.{result_value, then_value}

module _ (d : ℕ) (w : World) (reply : Reply) (file : JavaFile) (rule : Rule) where
  -- ---- where nothing covers a finding

  abbrev false_at : Option Expr → Node → Type 0
  false_at suppression n = IsFalseAt d w reply file rule suppression n

  truth_is : (expr : Expr) (n : Node) (values : List ItemValue) → value_at d w reply file rule expr n ≡ Ok values → false_at (Some expr) n → effective_boolean values ≡ Ok false
  truth_is expr n values given h =
      let other = h.1 in
      let same : h.0 ≡ values = cc in
      subst (λ v. effective_boolean v ≡ Ok false) same h.2

  by_truth : (expr : Expr) (n : Node) (values : List ItemValue) → value_at d w reply file rule expr n ≡ Ok values → (r : Result Bool XCode) → effective_boolean values ≡ r
      → (value_of d w (after (λ truth. give (xpath_reason truth)) r) ≡ Ok None) ↔ false_at (Some expr) n
  by_truth expr n values given (Err c) is = (λ h. absurd (cc), λ h. let other = truth_is expr n values given h in absurd (cc))
  by_truth expr n values given (Ok true) is = (λ h. absurd (cc), λ h. let other = truth_is expr n values given h in absurd (cc))
  by_truth expr n values given (Ok false) is = (λ h. (values, given, is), λ h. refl)

  abbrev covered : List ItemValue → Means (Option Reason)
  covered values = judged (effective_boolean values) >>= λ truth. give (xpath_reason truth)

  by_value : (expr : Expr) (n : Node) (r : Result (List ItemValue) XCode) → value_at d w reply file rule expr n ≡ r → (value_of d w (after covered r) ≡ Ok None) ↔ false_at (Some expr) n
  by_value expr n (Err c) given = (λ h. absurd (cc), λ h. let other = h.1 in absurd (cc))
  by_value expr n (Ok values) given = by_truth expr n values given (effective_boolean values) refl

  by_xpath : (suppression : Option Expr) (n : Node) → (value_of d w (reason_after reply file rule None suppression n) ≡ Ok None) ↔ false_at suppression n
  by_xpath None n = (λ h. tt, λ h. refl)
  by_xpath (Some expr) n =
      let step = by_value expr n (value_at d w reply file rule expr n) refl in
      let value = then_value d w (denoted_by reply file rule expr (at (Element n) 1 1)) covered in
      (λ h. step.0 (sym value ∙ h), λ h. value ∙ step.1 h)

  by_plain : (plain : Option Reason) (suppression : Option Expr) (n : Node) → (value_of d w (reason_after reply file rule plain suppression n) ≡ Ok None) ↔ ((plain ≡ None) × false_at suppression n)
  by_plain (Some why) suppression n = (λ h. absurd (cc), λ h. let is = h.0 in absurd (cc))
  by_plain None suppression n = let by = by_xpath suppression n in (λ h. (refl, by.0 h), λ h. by.1 h.1)

  none_covers : (n : Node) → (reason_in d w reply file rule n ≡ Ok None) ↔ IsUncovered d w reply file rule n
  none_covers n =
      let by = by_plain (plain_reason_of file rule n (extent_at reply file rule n)) rule.suppression n in
      (λ h. let both = by.0 h in record { plain = both.0; xpath = both.1 }, λ h. by.1 (h.plain, h.xpath))

  -- ---- the findings

  abbrev Good : Result (List Spot) XCode → Type 0
  Good (Err code) = ⊤
  Good (Ok fs) = AllByRecursion (HasItsReason d w reply file rule) fs

  has_reason : (n : Node) (why : Option Reason) → reason_in d w reply file rule n ≡ Ok why → HasItsReason d w reply file rule (found_of n (extent_at reply file rule n) why)
  has_reason n why is = record {
    first = is;
    none = (λ h. (none_covers n).0 (is ∙ ap (λ o. Ok o) h), λ h. let other = (none_covers n).1 h in cc);
  }

  abbrev rest_at : Node → List Node → Option Reason → Means (List Spot)
  rest_at n ns why = found_at reply file rule ns >>= λ fs. give (found_of n (extent_at reply file rule n) why ∷ fs)

  after_rest : (n : Node) (why : Option Reason) → reason_in d w reply file rule n ≡ Ok why → (r : Result (List Spot) XCode) → Good r → Good (value_of d w (after (λ fs. give (found_of n (extent_at reply file rule n) why ∷ fs)) r))
  after_rest n why is (Err code) h = tt
  after_rest n why is (Ok fs) h = (has_reason n why is, h)

  after_reason : (n : Node) (ns : List Node) → Good (value_of d w (found_at reply file rule ns)) → (r : Result (Option Reason) XCode) → reason_in d w reply file rule n ≡ r → Good (value_of d w (after (rest_at n ns) r))
  after_reason n ns h (Err code) is = tt
  after_reason n ns h (Ok why) is =
      subst Good (sym (then_value d w (found_at reply file rule ns) (λ fs. give (found_of n (extent_at reply file rule n) why ∷ fs))))
      (after_rest n why is (value_of d w (found_at reply file rule ns)) h)

  at_nodes : (ns : List Node) → Good (value_of d w (found_at reply file rule ns))
  at_nodes [] = tt
  at_nodes (n ∷ ns) =
      subst Good (sym (then_value d w (reason_at reply file rule n) (rest_at n ns)))
      (after_reason n ns (at_nodes ns) (reason_in d w reply file rule n) refl)

  after_nodes : (r : Result (List Node) XCode) → Good (value_of d w (after (λ ns. found_at reply file rule ns) r))
  after_nodes (Err code) = tt
  after_nodes (Ok ns) = at_nodes ns

  after_items : (r : Result (List ItemValue) XCode) → Good (value_of d w (after (λ values. judged (denoted values) >>= λ ns. found_at reply file rule ns) r))
  after_items (Err code) = tt
  after_items (Ok values) = after_nodes (denoted values)

  found_good : Good (value_of d w (found reply file rule))
  found_good =
      subst Good (sym (then_value d w (items reply file rule) (λ values. judged (denoted values) >>= λ ns. found_at reply file rule ns)))
      (after_items (items_in d w reply file rule))

  by_result : (spots : List Spot) (r : Result (List Spot) XCode) → Good r → result_of rule r ≡ Spots spots → AllByRecursion (HasItsReason d w reply file rule) spots
  by_result spots (Err code) h is = absurd (cc)
  by_result spots (Ok fs) h is = let same : fs ≡ spots = cc in subst (λ l. AllByRecursion (HasItsReason d w reply file rule) l) same h

pub spots_have_reasons : SpotsHaveReasons
spots_have_reasons reply w d file rule spots is =
    by_result d w reply file rule spots (value_of d w (found reply file rule)) (found_good d w reply file rule) (sym (result_value d w reply file rule) ∙ is)
