-- What a rule finds in a file.
use Rattle.std.proofs.Common.{◌≡◌, ℕ, true, false, cond, List, [], ◌∷◌, Option, Result, Ok, Err, ap, map, refl, subst, sym}
use Rattle.std.specs.List.{AllByRecursion}
use Rattle.std.specs.List.Sorted.{IsStrictlySortedBy}
use Rattle.std.specs.Ordering.{nat_cmp, on}
use Rattle.std.specs.declared.cmp.Ordering.TheVariants.{Less}
use Rattle.pj_findings.specs.Denoted.{denoted}
use Rattle.pj_findings.specs.Laws.{IsAscending, NodesAscend}
use Rattle.pj_findings.specs.Merged.{found_by}
use Rattle.pj_reports.specs.declared.ruled.Spot.{Spot}
use Rattle.pj_names.specs.Asking.{Return, value_of}
use Rattle.pj_names.proofs.MeaningLaws.{value_of-bind}
use Rattle.pj_parse.specs.FileOutcome.{outcome_of}
use Rattle.pj_parse.specs.JavaFile.{JavaFile}
use Rattle.pj_parse.specs.declared.file_fault.FileFault.{FileFault}
use Rattle.pj_reports.specs.declared.rows.Reason.{Reason}
use Rattle.pj_tree.specs.declared.node.Node.{Node}
use Rattle.pj_xsteps.specs.Means.{Means, after, give, judged, ◌>>=◌}
use Rattle.pj_xvalue.specs.Items.{ItemValue}
use Rattle.pj_xvalue.specs.declared.fault.XCode.{XCode}
use Rattle.pj_workers.specs.Cold.{World}
use Rattle.pj_outside.specs.Files.{Bytes}
use Rattle.pj_workers.specs.FileMeaning.{Replies, nothing, rule_at, rule_meaning}
use Rattle.pj_workers.specs.Laws.{StandsAtNode}
use Rattle.pj_xlaws.specs.Laws.{Reply}
use Rattle.pj_workers.specs.RuleMeaning.{found, found_at, found_of, items, reason_at, result_of, rule_in_file, extent_at}
use Rattle.pj_workers.specs.Rules.{Rule, is_active}

-- what a sequence comes to, by what its first part comes to
pub then_value : {A B : Type 0} (d : ℕ) (w : World) (m : Means A) (next : A → Means B) → value_of d w (m >>= next) ≡ value_of d w (after next (value_of d w m))
then_value d w m next = value_of-bind d w m (after next)

-- a code, or findings at just these nodes, each where its node stands
abbrev pub AreAt : JavaFile → List Node → Result (List Spot) XCode → Type 0
AreAt file ns (Err code) = Unit {0}
AreAt file ns (Ok fs) = (map (λ (f : Spot). f.node) fs ≡ map (λ (n : Node). n.0) ns) × AllByRecursion (StandsAtNode file) fs

-- findings that ascend, each where its node stands
abbrev IsGood : JavaFile → Result (List Spot) XCode → Type 0
IsGood file (Err code) = Unit {0}
IsGood file (Ok fs) = IsStrictlySortedBy nat_cmp (map (λ (f : Spot). f.node) fs) × AllByRecursion (StandsAtNode file) fs

numbers_sorted : (ns : List Node) → IsStrictlySortedBy (on (λ (n : Node). n.0) nat_cmp) ns → IsStrictlySortedBy nat_cmp (map (λ (n : Node). n.0) ns)
unfolding IsStrictlySortedBy
numbers_sorted [] h = tt
numbers_sorted (n ∷ ns) h = (behind ns h.0, numbers_sorted ns h.1)
  where
    behind : (ms : List Node) → AllByRecursion (λ (m : Node). nat_cmp n.0 m.0 ≡ Less) ms → AllByRecursion (λ k. nat_cmp n.0 k ≡ Less) (map (λ (m : Node). m.0) ms)
    behind [] r = tt
    behind (m ∷ ms) r = (r.0, behind ms r.1)

good_at : (file : JavaFile) (ns : List Node) (r : Result (List Spot) XCode) → IsStrictlySortedBy (on (λ (n : Node). n.0) nat_cmp) ns → AreAt file ns r → IsGood file r
good_at file ns (Err code) up h = tt
good_at file ns (Ok fs) up h = (subst (λ l. IsStrictlySortedBy nat_cmp l) (sym h.0) (numbers_sorted ns up), h.1)

module _ (d : ℕ) (w : World) (reply : Reply) (file : JavaFile) (rule : Rule) where
  after_rest : (n : Node) (ns : List Node) (why : Option Reason) (r : Result (List Spot) XCode) → AreAt file ns r → AreAt file (n ∷ ns) (value_of d w (after (λ fs. give (found_of n (extent_at reply file rule n) why ∷ fs)) r))
  after_rest n ns why (Err code) h = tt
  after_rest n ns why (Ok fs) h = (ap (λ l. n.0 ∷ l) h.0, (refl, h.1))

  after_reason : (n : Node) (ns : List Node) (r : Result (Option Reason) XCode) → AreAt file ns (value_of d w (found_at reply file rule ns))
      → AreAt file (n ∷ ns) (value_of d w (after (λ why. found_at reply file rule ns >>= λ fs. give (found_of n (extent_at reply file rule n) why ∷ fs)) r))
  after_reason n ns (Err code) h = tt
  after_reason n ns (Ok why) h =
      subst (λ r. AreAt file (n ∷ ns) r) (sym (then_value d w (found_at reply file rule ns) (λ fs. give (found_of n (extent_at reply file rule n) why ∷ fs))))
      (after_rest n ns why (value_of d w (found_at reply file rule ns)) h)

  -- the findings at nodes
  pub at_nodes : (ns : List Node) → AreAt file ns (value_of d w (found_at reply file rule ns))
  at_nodes [] = (refl, tt)
  at_nodes (n ∷ ns) =
      subst (λ r. AreAt file (n ∷ ns) r) (sym (then_value d w (reason_at reply file rule n) (λ why. found_at reply file rule ns >>= λ fs. give (found_of n (extent_at reply file rule n) why ∷ fs))))
      (after_reason n ns (value_of d w (reason_at reply file rule n)) (at_nodes ns))

  after_nodes : NodesAscend → (values : List ItemValue) (r : Result (List Node) XCode) → denoted values ≡ r → IsGood file (value_of d w (after (λ ns. found_at reply file rule ns) r))
  after_nodes ascend values (Err code) e = tt
  after_nodes ascend values (Ok ns) e = good_at file ns (value_of d w (found_at reply file rule ns)) (ascend values ns e) (at_nodes ns)

  after_items : NodesAscend → (r : Result (List ItemValue) XCode) → IsGood file (value_of d w (after (λ values. judged (denoted values) >>= λ ns. found_at reply file rule ns) r))
  after_items ascend (Err code) = tt
  after_items ascend (Ok values) = after_nodes ascend values (denoted values) refl

  found_good : NodesAscend → IsGood file (value_of d w (found reply file rule))
  found_good ascend =
      subst (λ r. IsGood file r) (sym (then_value d w (items reply file rule) (λ values. judged (denoted values) >>= λ ns. found_at reply file rule ns)))
      (after_items ascend (value_of d w (items reply file rule)))

  pub result_value : value_of d w (rule_in_file reply file rule) ≡ result_of rule (value_of d w (found reply file rule))
  result_value = value_of-bind d w (found reply file rule) (λ came_to. Return (result_of rule came_to))

good_ascends : (file : JavaFile) (rule : Rule) (r : Result (List Spot) XCode) → IsGood file r → IsAscending (result_of rule r)
unfolding IsStrictlySortedBy
good_ascends file rule (Err code) h = tt
good_ascends file rule (Ok fs) h = h.0

good_stands : (file : JavaFile) (rule : Rule) (r : Result (List Spot) XCode) → IsGood file r → AllByRecursion (StandsAtNode file) (found_by (result_of rule r))
good_stands file rule (Err code) h = tt
good_stands file rule (Ok fs) h = h.1

pub spots : NodesAscend → (reply : Reply) (w : World) (d : ℕ) (file : JavaFile) (rule : Rule) → AllByRecursion (StandsAtNode file) (found_by (value_of d w (rule_in_file reply file rule)))
spots ascend reply w d file rule =
    subst (λ r. AllByRecursion (StandsAtNode file) (found_by r)) (sym (result_value d w reply file rule)) (good_stands file rule (value_of d w (found reply file rule)) (found_good d w reply file rule ascend))

in_file : NodesAscend → (reply : Reply) (w : World) (d : ℕ) (file : JavaFile) (rule : Rule) → IsAscending (value_of d w (rule_in_file reply file rule))
in_file ascend reply w d file rule =
    subst (λ r. IsAscending r) (sym (result_value d w reply file rule)) (good_ascends file rule (value_of d w (found reply file rule)) (found_good d w reply file rule ascend))

nothing_ascends : (w : World) (d : ℕ) → IsAscending (value_of d w nothing)
unfolding IsStrictlySortedBy
nothing_ascends w d = tt

pub at_outcome : NodesAscend → (replies : Replies) (w : World) (d : ℕ) (path : Bytes) (rule : Rule) (o : Result JavaFile FileFault) → IsAscending (value_of d w (rule_at replies path o rule))
at_outcome ascend replies w d path rule (Err fault) = nothing_ascends w d
at_outcome ascend replies w d path rule (Ok file) = elim (is_active rule.source path) as (λ b. IsAscending (value_of d w (cond b (rule_in_file (replies path file) file rule) nothing))) [
  | true ↦ in_file ascend (replies path file) w d file rule
  | false ↦ nothing_ascends w d
]

pub ascends : NodesAscend → (replies : Replies) (w : World) (d : ℕ) (path bytes : Bytes) (rule : Rule) → IsAscending (value_of d w (rule_meaning replies path bytes rule))
ascends ascend replies w d path bytes rule = at_outcome ascend replies w d path rule (outcome_of bytes)
