-- The first code of a rule in a file.
use Rattle.std.proofs.Common.{◌≡◌, ◌↔◌, ◌∙◌, ℕ, List, [], ◌∷◌, Option, Result, Ok, Err, ap, inl, inr, refl, subst, sym}
use Rattle.std.specs.Prelude.{IsOk}
use Rattle.pj_findings.specs.Denoted.{denoted}
use Rattle.pj_findings.specs.Messages.{rule_message}
use Rattle.pj_names.specs.Asking.{value_of}
use Rattle.pj_parse.specs.JavaFile.{JavaFile}
use Rattle.pj_reports.specs.declared.rows.Reason.{Reason}
use Rattle.pj_reports.specs.declared.ruled.Ruled.TheVariants.{Message}
use Rattle.pj_reports.specs.declared.ruled.Spot.{Spot}
use Rattle.pj_tree.specs.declared.node.Node.{Node}
use Rattle.pj_xsteps.specs.Means.{Means, after, give, judged, ◌>>=◌}
use Rattle.pj_xvalue.specs.Items.{ItemValue}
use Rattle.pj_xvalue.specs.declared.fault.XCode.{XCode}
use Rattle.pj_workers.specs.Cold.{World}
use Rattle.pj_outside.specs.Files.{Bytes}
use Rattle.pj_workers.specs.Laws.{MessagesTellCodes}
use Rattle.pj_workers.specs.RuleFacts.{IsFirstCode, IsFirstOfReasons, items_in, reason_in}
use Rattle.pj_xlaws.specs.Laws.{Reply}
use Rattle.pj_workers.specs.RuleMeaning.{extent_at, found, found_at, found_of, items, reason_at, result_of}
use Rattle.pj_workers.specs.Rules.{Rule}
use Rattle.pj_workers.proofs.RuleLaws.{result_value, then_value}

-- a code of what is only made into another value
rest_codes : {A B : Type 0} (d : ℕ) (w : World) (f : A → B) (r : Result A XCode) (code : XCode) → (value_of d w (after (λ a. give (f a)) r) ≡ Err code) ↔ (r ≡ Err code)
rest_codes d w f (Ok a) code = (λ h. absurd (cc), λ h. absurd (cc))
rest_codes d w f (Err c) code = (λ h. let same : c ≡ code = cc in ap (λ k. Err k) same, λ h. let same : c ≡ code = cc in ap (λ k. Err k) same)

module _ (d : ℕ) (w : World) (reply : Reply) (file : JavaFile) (rule : Rule) where
  abbrev First : XCode → Type 0
  First code = IsFirstCode d w reply file rule code

  abbrev FirstOf : List Node → XCode → Type 0
  FirstOf ns code = IsFirstOfReasons d w reply file rule ns code

  -- ---- the reasons at nodes

  abbrev rest_at : Node → List Node → Option Reason → Means (List Spot)
  rest_at n ns why = found_at reply file rule ns >>= λ fs. give (found_of n (extent_at reply file rule n) why ∷ fs)

  first_was : (n : Node) (ns : List Node) (c code : XCode) → reason_in d w reply file rule n ≡ Err c → FirstOf (n ∷ ns) code → c ≡ code
  first_was n ns c code is (inl h) = cc
  first_was n ns c code is (inr h) = let ok = subst (λ r. IsOk r) is h.0 in absurd (cc)

  rest_was : (n : Node) (ns : List Node) (why : Option Reason) (code : XCode) → reason_in d w reply file rule n ≡ Ok why → FirstOf (n ∷ ns) code → FirstOf ns code
  rest_was n ns why code is (inl h) = absurd (cc)
  rest_was n ns why code is (inr h) = h.1

  reason_codes : (n : Node) (ns : List Node) (code : XCode) → ((value_of d w (found_at reply file rule ns) ≡ Err code) ↔ FirstOf ns code) → (r : Result (Option Reason) XCode) → reason_in d w reply file rule n ≡ r
      → (value_of d w (after (rest_at n ns) r) ≡ Err code) ↔ FirstOf (n ∷ ns) code
  reason_codes n ns code rest (Err c) is = (
    λ h. let same : c ≡ code = cc in inl (is ∙ ap (λ k. Err k) same),
    λ h. ap (λ k. Err k) (first_was n ns c code is h),
  )
  reason_codes n ns code rest (Ok why) is =
      let make = λ (fs : List Spot). found_of n (extent_at reply file rule n) why ∷ fs in
      let value = then_value d w (found_at reply file rule ns) (λ fs. give (make fs)) in
      let step = rest_codes d w make (value_of d w (found_at reply file rule ns)) code in (
        λ h. inr (subst (λ r. IsOk r) (sym is) refl, rest.0 (step.0 (sym value ∙ h))),
        λ h. value ∙ step.1 (rest.1 (rest_was n ns why code is h)),
      )

  node_codes : (ns : List Node) (code : XCode) → (value_of d w (found_at reply file rule ns) ≡ Err code) ↔ FirstOf ns code
  node_codes [] code = (λ h. absurd (cc), λ h. absurd h)
  node_codes (n ∷ ns) code =
      let step = reason_codes n ns code (node_codes ns code) (reason_in d w reply file rule n) refl in
      let value = then_value d w (reason_at reply file rule n) (rest_at n ns) in
      (λ h. step.0 (sym value ∙ h), λ h. value ∙ step.1 h)

  -- ---- the items of the query

  from_query : (c code : XCode) → items_in d w reply file rule ≡ Err c → First code → c ≡ code
  from_query c code given (inl h) = cc
  from_query c code given (inr (inl h)) = let other = h.1 in absurd (cc)
  from_query c code given (inr (inr h)) = let other = h.2 in absurd (cc)

  from_items : (values : List ItemValue) (c code : XCode) → items_in d w reply file rule ≡ Ok values → denoted values ≡ Err c → First code → c ≡ code
  from_items values c code given is (inl h) = absurd (cc)
  from_items values c code given is (inr (inl h)) =
      let other = h.1 in
      let same : h.0 ≡ values = cc in
      let both : denoted values ≡ Err code = subst (λ v. denoted v ≡ Err code) same h.2 in
      cc
  from_items values c code given is (inr (inr h)) =
      let other = h.2 in
      let same : h.0 ≡ values = cc in
      let both : denoted values ≡ Ok h.1 = subst (λ v. denoted v ≡ Ok h.1) same h.3 in
      absurd (cc)

  from_nodes : (values : List ItemValue) (ns : List Node) (code : XCode) → items_in d w reply file rule ≡ Ok values → denoted values ≡ Ok ns → First code → FirstOf ns code
  from_nodes values ns code given is (inl h) = absurd (cc)
  from_nodes values ns code given is (inr (inl h)) =
      let other = h.1 in
      let same : h.0 ≡ values = cc in
      let both : denoted values ≡ Err code = subst (λ v. denoted v ≡ Err code) same h.2 in
      absurd (cc)
  from_nodes values ns code given is (inr (inr h)) =
      let other = h.2 in
      let same : h.0 ≡ values = cc in
      let both : denoted values ≡ Ok h.1 = subst (λ v. denoted v ≡ Ok h.1) same h.3 in
      let these : h.1 ≡ ns = cc in
      subst (λ l. FirstOf l code) these h.4

  denoted_codes : (values : List ItemValue) (code : XCode) → items_in d w reply file rule ≡ Ok values → (r : Result (List Node) XCode) → denoted values ≡ r
      → (value_of d w (after (λ ns. found_at reply file rule ns) r) ≡ Err code) ↔ First code
  denoted_codes values code given (Err c) is = (
    λ h. let same : c ≡ code = cc in inr (inl (values, given, is ∙ ap (λ k. Err k) same)),
    λ h. ap (λ k. Err k) (from_items values c code given is h),
  )
  denoted_codes values code given (Ok ns) is = (
    λ h. inr (inr (values, ns, given, is, (node_codes ns code).0 h)),
    λ h. (node_codes ns code).1 (from_nodes values ns code given is h),
  )

  abbrev nodes_of : List ItemValue → Means (List Spot)
  nodes_of values = judged (denoted values) >>= λ ns. found_at reply file rule ns

  item_codes : (code : XCode) (r : Result (List ItemValue) XCode) → items_in d w reply file rule ≡ r → (value_of d w (after nodes_of r) ≡ Err code) ↔ First code
  item_codes code (Err c) given = (
    λ h. let same : c ≡ code = cc in inl (given ∙ ap (λ k. Err k) same),
    λ h. ap (λ k. Err k) (from_query c code given h),
  )
  item_codes code (Ok values) given = denoted_codes values code given (denoted values) refl

  found_codes : (code : XCode) → (value_of d w (found reply file rule) ≡ Err code) ↔ First code
  found_codes code =
      let step = item_codes code (items_in d w reply file rule) refl in
      let value = then_value d w (items reply file rule) nodes_of in
      (λ h. step.0 (sym value ∙ h), λ h. value ∙ step.1 h)

-- ---- the message

abbrev message_of : Rule → XCode → Bytes
message_of rule code = rule_message rule.source.texts.row.name code

message_by : (rule : Rule) (r : Result (List Spot) XCode) (message : Bytes) → (result_of rule r ≡ Message message) ↔ ((code : XCode) × (r ≡ Err code) × (message ≡ message_of rule code))
message_by rule (Ok fs) message = (λ h. absurd (cc), λ h. let is = h.1 in absurd (cc))
message_by rule (Err c) message = (
  λ h. let told : message ≡ message_of rule c = cc in (c, refl, told),
  λ h. let is = h.1 in
      let same : c ≡ h.0 = cc in
      ap (λ m. Message m) (ap (λ k. message_of rule k) same ∙ sym h.2),
)

pub messages_tell : MessagesTellCodes
messages_tell reply w d file rule message =
    let value = result_value d w reply file rule in
    let by = message_by rule (value_of d w (found reply file rule)) message in (
      λ h. let told = by.0 (sym value ∙ h) in (told.0, (found_codes d w reply file rule told.0).0 told.1, told.2),
      λ h. value ∙ by.1 (h.0, (found_codes d w reply file rule h.0).1 h.1, h.2),
    )
