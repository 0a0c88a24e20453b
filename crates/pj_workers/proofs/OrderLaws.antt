-- The rows of a file are those of its rules, in order.
use Rattle.std.proofs.Common.{◌≡◌, ◌<◌, ◌≤◌, ◌+◌, ◌==◌, ◌∙◌, ◌++◌, ℕ, zero, suc, List, [], ◌∷◌, Some, Result, Ok, Err, ap, append-nil, arith, flat_map, inl, length, map, refl, subst, sym}
use Rattle.std.specs.Prelude.{◌||◌, slice_get}
use Rattle.std.specs.List.{AllByRecursion, AllZip, list_any}
use Rattle.std.specs.List.Sorted.{IsStrictlySortedBy}
use Rattle.pj_findings.specs.Denoted.{denoted}
use Rattle.pj_findings.specs.Laws.{ErrorsAreKept, ErrorsAscend, FindingsAreKept, FindingsAreOfRules, FindingsAscend, IsAscending, NodesAreItems, NodesAscend, NoneHasBoth}
use Rattle.pj_findings.specs.Merged.{by_node, errors_from, findings_from, merge, only_error}
use Rattle.pj_names.specs.Asking.{Asking, Return, bind, each, names_of, value_of}
use Rattle.pj_names.specs.ClassName.{NameSet}
use Rattle.pj_names.specs.Meaning.{Done, Gives, Means, outcome_of as outcome_in, whole}
use Rattle.pj_names.proofs.MeaningLaws.{names_of-bind, over-whole, value_of-bind}
use Rattle.pj_outside.specs.Files.{Bytes, Files}
use Rattle.pj_parse.specs.FileOutcome.{outcome_of}
use Rattle.pj_parse.specs.JavaFile.{JavaFile}
use Rattle.pj_parse.specs.declared.file_fault.FileFault.{FileFault}
use Rattle.pj_reports.specs.declared.rows.FileError.{FileError}
use Rattle.pj_reports.specs.declared.rows.FileRows.{FileRows}
use Rattle.pj_reports.specs.declared.rows.Finding.{Finding}
use Rattle.pj_reports.specs.declared.ruled.Ruled.{Ruled}
use Rattle.pj_reports.specs.declared.ruled.Ruled.TheVariants.{Message, Spots}
use Rattle.pj_reports.specs.declared.ruled.Spot.{Spot}
use Rattle.pj_tree.specs.declared.node.Node.{Node}
use Rattle.pj_xaxes.specs.Order.{has_item}
use Rattle.pj_xsteps.specs.Means.{after, judged, ◌>>=◌}
use Rattle.pj_xvalue.specs.Items.{ItemValue, Element}
use Rattle.pj_xvalue.specs.declared.fault.XCode.{XCode}
use Rattle.pj_workers.specs.Cold.{AreRowsOf, World}
use Rattle.pj_parse.specs.Messages.{fault_message}
use Rattle.pj_workers.specs.FileMeaning.{Replies, file_at, file_meaning, head_of, rule_at, rule_meaning}
use Rattle.pj_workers.specs.Laws.{AreInOrder, AreOfRule, ColdIsInOrder, ErrorsHaveRules, FilesAreInOrder, FilesAreTheirRules, FindingsHaveRules, FoundAreDenoted, IsOfOne, NamesAreTheirRules, PackagesAreOfTrees}
use Rattle.pj_xlaws.specs.Laws.{Reply}
use Rattle.pj_workers.specs.RuleMeaning.{found_at, items, result_of}
use Rattle.pj_workers.specs.Rules.{Rule}
use Rattle.pj_workers.proofs.RuleLaws.{AreAt, at_nodes, at_outcome, result_value, then_value}

-- ---- the rules of a file, one after the other

module _ (d : ℕ) (w : World) where
  values_each : {A B : Type 0} (f : A → Asking B) (xs : List A) → value_of d w (each f xs) ≡ map (λ x. value_of d w (f x)) xs
  values_each f [] = refl
  values_each f (x ∷ xs) =
      value_of-bind d w (f x) (λ value. bind (each f xs) (λ values. Return (value ∷ values)))
      ∙ value_of-bind d w (each f xs) (λ values. Return (value_of d w (f x) ∷ values))
      ∙ ap (λ l. value_of d w (f x) ∷ l) (values_each f xs)

  names_each : {A B : Type 0} (f : A → Asking B) (xs : List A) → names_of d w (each f xs) ≡ flat_map (λ x. names_of d w (f x)) xs
  names_each f [] = refl
  names_each f (x ∷ xs) =
      names_of-bind d w (f x) (λ value. bind (each f xs) (λ values. Return (value ∷ values)))
      ∙ ap (λ l. names_of d w (f x) ++ l) (names_of-bind d w (each f xs) (λ values. Return (value_of d w (f x) ∷ values)) ∙ append-nil (names_of d w (each f xs)) ∙ names_each f xs)

  -- what they came to
  abbrev came : Replies → Bytes → Result JavaFile FileFault → List Rule → List Ruled
  came replies path o rules = map (λ (rule : Rule). value_of d w (rule_at replies path o rule)) rules

  file_value : (replies : Replies) (path : Bytes) (o : Result JavaFile FileFault) (rules : List Rule) → value_of d w (file_at replies path o rules) ≡ merge (head_of o) (came replies path o rules)
  file_value replies path o rules =
      value_of-bind d w (each (rule_at replies path o) rules) (λ results. Return (merge (head_of o) results)) ∙ ap (λ results. merge (head_of o) results) (values_each (rule_at replies path o) rules)

  all_ascend : NodesAscend → (replies : Replies) (path : Bytes) (o : Result JavaFile FileFault) (rules : List Rule) → AllByRecursion IsAscending (came replies path o rules)
  all_ascend ascend replies path o [] = tt
  all_ascend ascend replies path o (rule ∷ rules) = (at_outcome ascend replies w d path rule o, all_ascend ascend replies path o rules)

  came_at : (replies : Replies) (path : Bytes) (o : Result JavaFile FileFault) (rules : List Rule) (number : ℕ) (rule : Rule) → slice_get rules number ≡ Some rule
      → slice_get (came replies path o rules) number ≡ Some (value_of d w (rule_at replies path o rule))
  came_at replies path o [] number rule is = absurd (cc)
  came_at replies path o (r ∷ rules) zero rule is = let same : r ≡ rule = cc in ap (λ (x : Rule). Some (value_of d w (rule_at replies path o x))) same
  came_at replies path o (r ∷ rules) (suc number) rule is = came_at replies path o rules number rule is

came_long : (d : ℕ) (w : World) (replies : Replies) (path : Bytes) (o : Result JavaFile FileFault) (rules : List Rule) → length (came d w replies path o rules) ≡ length rules
came_long d w replies path o [] = refl
came_long d w replies path o (rule ∷ rules) = ap suc (came_long d w replies path o rules)

-- ---- names

pub names_own : NamesAreTheirRules
names_own replies w d path bytes rules =
    let meaning = rule_at replies path (outcome_of bytes) in
    names_of-bind d w (each meaning rules) (λ results. Return (merge (head_of (outcome_of bytes)) results)) ∙ append-nil (names_of d w (each meaning rules)) ∙ names_each d w meaning rules

-- ---- order

one_error_in_order : (message : Bytes) → AreInOrder (only_error message)
unfolding IsStrictlySortedBy
one_error_in_order message = record { findings = tt; errors = (tt, tt) }

in_order_at : NodesAscend → FindingsAscend → ErrorsAscend → (replies : Replies) (w : World) (d : ℕ) (path : Bytes) (rules : List Rule) (o : Result JavaFile FileFault) → AreInOrder (merge (head_of o) (came d w replies path o rules))
in_order_at ascend findings errors replies w d path rules (Ok file) = record {
  findings = findings (came d w replies path (Ok file) rules) (all_ascend d w ascend replies path (Ok file) rules);
  errors = errors (came d w replies path (Ok file) rules);
}
in_order_at ascend findings errors replies w d path rules (Err fault) = one_error_in_order (fault_message fault)

pub in_order : NodesAscend → FindingsAscend → ErrorsAscend → FilesAreInOrder
in_order ascend findings errors replies w d path bytes rules =
    subst AreInOrder (sym (file_value d w replies path (outcome_of bytes) rules)) (in_order_at ascend findings errors replies w d path rules (outcome_of bytes))

-- ---- each rule's own

of_rule_at : NodesAscend → FindingsAreKept → ErrorsAreKept → NoneHasBoth → (replies : Replies) (w : World) (d : ℕ) (path : Bytes) (rules : List Rule) (number : ℕ) (rule : Rule) (o : Result JavaFile FileFault)
    → slice_get rules number ≡ Some rule → AreOfRule (merge (head_of o) (came d w replies path o rules)) number (value_of d w (rule_at replies path o rule))
of_rule_at ascend findings errors either replies w d path rules number rule (Ok file) is =
    let there = came_at d w replies path (Ok file) rules number rule is in record {
      findings = findings (came d w replies path (Ok file) rules) number (value_of d w (rule_at replies path (Ok file) rule)) (all_ascend d w ascend replies path (Ok file) rules) there;
      errors = errors (came d w replies path (Ok file) rules) number (value_of d w (rule_at replies path (Ok file) rule)) there;
      either = either number (value_of d w (rule_at replies path (Ok file) rule));
    }
of_rule_at ascend findings errors either replies w d path rules number rule (Err fault) is = record { findings = refl; errors = refl; either = inl refl }

pub of_rule : NodesAscend → FindingsAreKept → ErrorsAreKept → NoneHasBoth → FilesAreTheirRules
of_rule ascend findings errors either replies w d path bytes rules number rule is =
    subst (λ (rows : FileRows). AreOfRule rows number (value_of d w (rule_meaning replies path bytes rule))) (sym (file_value d w replies path (outcome_of bytes) rules))
    (of_rule_at ascend findings errors either replies w d path rules number rule (outcome_of bytes) is)

have_rules_at : FindingsAreOfRules → (replies : Replies) (w : World) (d : ℕ) (path : Bytes) (rules : List Rule) (o : Result JavaFile FileFault)
    → AllByRecursion (λ (finding : Finding). finding.rule < length rules) (merge (head_of o) (came d w replies path o rules)).findings
have_rules_at of replies w d path rules (Ok file) =
    subst (λ n. AllByRecursion (λ (finding : Finding). finding.rule < n) (by_node (findings_from 0 (came d w replies path (Ok file) rules)))) (came_long d w replies path (Ok file) rules) (of (came d w replies path (Ok file) rules))
have_rules_at of replies w d path rules (Err fault) = tt

pub have_rules : FindingsAreOfRules → FindingsHaveRules
have_rules of replies w d path bytes rules =
    subst (λ (rows : FileRows). AllByRecursion (λ (finding : Finding). finding.rule < length rules) rows.findings) (sym (file_value d w replies path (outcome_of bytes) rules)) (have_rules_at of replies w d path rules (outcome_of bytes))

errors_of : (number count : ℕ) (results : List Ruled) → number + length results ≤ count → AllByRecursion (λ (error : FileError). IsOfOne count error.rule) (errors_from number results)
errors_of number count [] few = tt
errors_of number count (Spots spots ∷ results) few = errors_of (number + 1) count results (omega (arith, few))
errors_of number count (Message message ∷ results) few = (omega (arith, few), errors_of (number + 1) count results (omega (arith, few)))

pub errors_have_rules : ErrorsHaveRules
errors_have_rules replies w d path bytes rules file tree =
    let is = ap (λ (o : Result JavaFile FileFault). value_of d w (file_at replies path o rules)) tree ∙ file_value d w replies path (Ok file) rules in
    subst (λ (rows : FileRows). AllByRecursion (λ (error : FileError). IsOfOne (length rules) error.rule) rows.errors) (sym is)
    (errors_of 0 (length rules) (came d w replies path (Ok file) rules) (omega (arith, came_long d w replies path (Ok file) rules)))

pub have_packages : PackagesAreOfTrees
have_packages replies w d path bytes rules file tree =
    ap (λ (o : Result JavaFile FileFault). (value_of d w (file_at replies path o rules)).«package») tree ∙ ap (λ (rows : FileRows). rows.«package») (file_value d w replies path (Ok file) rules)

-- ---- what a query denotes

same_any : (ns : List Node) (spots : List Spot) (n : Node) → map (λ (s : Spot). s.node) spots ≡ map (λ (m : Node). m.0) ns → list_any (λ (s : Spot). s.node == n.0) spots ≡ list_any (λ (m : Node). m.0 == n.0) ns
same_any [] [] n is = refl
same_any [] (s ∷ spots) n is = absurd (cc)
same_any (m ∷ ns) [] n is = absurd (cc)
same_any (m ∷ ns) (s ∷ spots) n is =
    let first : s.node ≡ m.0 = cc in
    let rest : map (λ (s : Spot). s.node) spots ≡ map (λ (m : Node). m.0) ns = cc in
    λ i. (first i == n.0) || same_any ns spots n rest i

module _ (kept : NodesAreItems) (reply : Reply) (w : World) (d : ℕ) (file : JavaFile) (rule : Rule) (spots : List Spot) where
  abbrev Denoted : Type 0
  Denoted = (values : List ItemValue) × (value_of d w (items reply file rule) ≡ Ok values) × ((n : Node) → list_any (λ (spot : Spot). spot.node == n.0) spots ≡ has_item values (Element n))

  by_found : (ns : List Node) (r : Result (List Spot) XCode) → AreAt file ns r → result_of rule r ≡ Spots spots → map (λ (s : Spot). s.node) spots ≡ map (λ (n : Node). n.0) ns
  by_found ns (Err code) at is = absurd (cc)
  by_found ns (Ok fs) at is = let same : fs ≡ spots = cc in subst (λ (l : List Spot). map (λ (s : Spot). s.node) l ≡ map (λ (n : Node). n.0) ns) same at.0

  by_nodes : (values : List ItemValue) → value_of d w (items reply file rule) ≡ Ok values → (r : Result (List Node) XCode) → denoted values ≡ r
      → result_of rule (value_of d w (after (λ ns. found_at reply file rule ns) r)) ≡ Spots spots → Denoted
  by_nodes values given (Err code) e is = absurd (cc)
  by_nodes values given (Ok ns) e is =
      (values, given, λ n. same_any ns spots n (by_found ns (value_of d w (found_at reply file rule ns)) (at_nodes d w reply file rule ns) is) ∙ kept values ns n e)

  by_items : (r : Result (List ItemValue) XCode) → value_of d w (items reply file rule) ≡ r
      → result_of rule (value_of d w (after (λ values. judged (denoted values) >>= λ ns. found_at reply file rule ns) r)) ≡ Spots spots → Denoted
  by_items (Err code) given is = absurd (cc)
  by_items (Ok values) given is = by_nodes values given (denoted values) refl is

pub found_denoted : NodesAreItems → FoundAreDenoted
found_denoted kept reply w d file rule spots is =
    by_items kept reply w d file rule spots (value_of d w (items reply file rule)) refl
    (ap (λ r. result_of rule r) (sym (then_value d w (items reply file rule) (λ values. judged (denoted values) >>= λ ns. found_at reply file rule ns))) ∙ sym (result_value d w reply file rule) ∙ is)

-- ---- cold reports

-- a meaning has its value from its least depth on
pub value_given : {A : Type 0} (w : World) (m : Asking A) (v : A) (names : NameSet) (means : Means (whole w) m (Gives v names)) (d : ℕ) → means.least ≤ d → value_of d w m ≡ v
value_given w m v names means d far =
    let at : outcome_in (Done (value_of d w m) _) ≡ Gives v names = ap (λ r. outcome_in r) (sym (over-whole d w m)) ∙ means.is d far in
    cc

cold_rows : FilesAreInOrder → (replies : Replies) (w : World) (rules : List Rule) (files : Files) (rows : List (Bytes × FileRows)) → AllZip (AreRowsOf replies w rules) files rows
    → (map (λ (of_file : Bytes × FileRows). of_file.0) rows ≡ map (λ (file : Bytes × Bytes). file.0) files) × AllByRecursion (λ (of_file : Bytes × FileRows). AreInOrder of_file.1) rows
cold_rows up replies w rules [] [] h = (refl, tt)
cold_rows up replies w rules [] (r ∷ rs) h = absurd h
cold_rows up replies w rules (f ∷ fs) [] h = absurd h
cold_rows up replies w rules (f ∷ fs) (r ∷ rs) h =
    let rest = cold_rows up replies w rules fs rs h.1 in
    let one = value_given w (file_meaning replies f.0 f.1 rules) r.1 h.0.names h.0.comes h.0.comes.least (omega arith) in
    (λ i. h.0.path i ∷ rest.0 i, (subst AreInOrder one (up replies w h.0.comes.least f.0 f.1 rules), rest.1))

pub cold_in_order : FilesAreInOrder → ColdIsInOrder
cold_in_order up replies w files rules unusable report cold = cold_rows up replies w rules files report.files cold.files_are
