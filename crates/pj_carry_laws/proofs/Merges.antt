-- Rows that are merged tell what each rule came to.
use Rattle.std.proofs.Common.{◌≡◌, ℕ, ◌+◌, ◌==◌, Bool, true, false, cond, ◌&&◌, List, [], ◌∷◌, length, map, Option, Some, None, refl, ap, ◌∙◌}
use Rattle.std.specs.Prelude.{filter, slice_get}
use Rattle.std.specs.List.{All, AllByRecursion}
use Rattle.std.specs.Option.{option_map_or}
use Rattle.std.specs.List.Sorted.{IsStrictlySortedBy}
use Rattle.std.specs.Ordering.{nat_cmp}
use Rattle.std.proofs.lemmas.List.Elements.{recursion_from_All}
use Rattle.pj_reports.specs.declared.rows.FileError.{FileError}
use Rattle.pj_reports.specs.declared.ruled.Ruled.{Ruled}
use Rattle.pj_reports.specs.declared.ruled.Ruled.TheVariants as ruled
use Rattle.pj_reports.specs.declared.ruled.Spot.{Spot}
use Rattle.pj_cache_format.specs.Ordered.{AreRowsInOrder}
use Rattle.pj_findings.specs.Laws.{IsAscending, is_of}
use Rattle.pj_findings.specs.Merged.{by_node, error_by, errors_from, finding_of, findings_from, found_by, merge, merged}
use Rattle.pj_findings.proofs.ErrorLaws.{errors_kept}
use Rattle.pj_findings.proofs.FindingLaws.{kept as findings_kept}
use Rattle.pj_fitting.proofs.Lists.{all_map}
use Rattle.pj_carry.specs.Form.{lone_message, message_of}
use Rattle.pj_carry.specs.Rows.{rows_of, said_by, spot_of, spots_of}
use Rattle.pj_carry.specs.Rows as carry
use Rattle.pj_carry.specs.RightOld.{IsMerge}
use Rattle.pj_carry_laws.proofs.Ascending.{nodes_sorted}

-- ---- what is told of a rule

-- the message of the first error, or else the nodes
abbrev said_first : List Spot → List FileError → Ruled
said_first spots [] = ruled.Spots spots
said_first spots (e ∷ es) = ruled.Message e.message

same_test : (rule : ℕ) (o : Option ℕ) → carry.is_of rule o ≡ option_map_or (λ number. number == rule) o false
same_test rule None = refl
same_test rule (Some number) = refl

said_is : (rule : ℕ) (spots : List Spot) (es : List FileError) → said_by rule spots es ≡ said_first spots (filter (is_of rule) es)
said_is rule spots [] = refl
said_is rule spots (e ∷ es) = ap (λ (b : Bool). cond b (ruled.Message e.message) (said_by rule spots es)) (same_test rule e.rule) ∙ by_test (is_of rule e) (said_is rule spots es) where
  by_test : (b : Bool) → said_by rule spots es ≡ said_first spots (filter (is_of rule) es) → cond b (ruled.Message e.message) (said_by rule spots es) ≡ said_first spots (cond b (e ∷ filter (is_of rule) es) (filter (is_of rule) es))
  by_test true rest = refl
  by_test false rest = rest

spots_again : (rule : ℕ) (found : List Spot) → map spot_of (map (finding_of rule) found) ≡ found
spots_again rule [] = refl
spots_again rule (s ∷ ss) = ap (λ (l : List Spot). s ∷ l) (spots_again rule ss)

none_sorted : IsStrictlySortedBy nat_cmp []
unfolding IsStrictlySortedBy
none_sorted = tt

ascending : (result : Ruled) → AreRowsInOrder result → IsAscending result
ascending (ruled.Spots spots) chain = nodes_sorted spots chain
ascending (ruled.Message message) chain = none_sorted

said_again : (rule : ℕ) (result : Ruled) → said_first (found_by result) (error_by rule result) ≡ result
said_again rule (ruled.Spots spots) = refl
said_again rule (ruled.Message message) = refl

rule_told : (name : List ℕ) (results : List Ruled) (rule : ℕ) (result : Ruled) → All AreRowsInOrder results → slice_get results rule ≡ Some result → rows_of (merged name results) rule ≡ result
rule_told name results rule result all at =
    let ascend : AllByRecursion IsAscending results = all_map AreRowsInOrder IsAscending results ascending (recursion_from_All AreRowsInOrder results all) in
    let spots : spots_of rule (by_node (findings_from 0 results)) ≡ found_by result = ap (map spot_of) (findings_kept results rule result ascend at) ∙ spots_again rule (found_by result) in
    said_is rule (spots_of rule (by_node (findings_from 0 results))) (errors_from 0 results)
    ∙ ap (said_first (spots_of rule (by_node (findings_from 0 results)))) (errors_kept results rule result at)
    ∙ ap (λ (l : List Spot). said_first l (error_by rule result)) spots
    ∙ said_again rule result

-- ---- whether there is a tree

not_lone : (rule : ℕ) (message : List ℕ) (es : List FileError) → message_of (record { rule = Some rule; message = message } ∷ es) ≡ None
not_lone rule message [] = refl
not_lone rule message (e ∷ es) = refl

none_lone : (n : ℕ) (results : List Ruled) → message_of (errors_from n results) ≡ None
none_lone n [] = refl
none_lone n (ruled.Spots spots ∷ rs) = none_lone (n + 1) rs
none_lone n (ruled.Message message ∷ rs) = not_lone n message (errors_from (n + 1) rs)

abbrev no_message : Option (List ℕ)
no_message = None

either : (b : Bool) → cond b no_message no_message ≡ no_message
either true = refl
either false = refl

has_tree : (name : List ℕ) (results : List Ruled) → lone_message (merged name results) ≡ None
has_tree name results =
    let test : Bool = (length name == 0) && (length (by_node (findings_from 0 results)) == 0) in
    ap (λ (o : Option (List ℕ)). cond test o no_message) (none_lone 0 results) ∙ either test

pub is_merge : IsMerge merge
is_merge = record {
  alone = λ message results. refl;
  others = has_tree;
  package_is = λ name results. refl;
  kept = rule_told;
}
