use Rattle.std.proofs.Common.{◌∙◌, ◌≤◌, List, [], length, map, refl, sym, ap, subst, arith}
use Rattle.std.proofs.lemmas.List.{take_all}
use Rattle.pj_rule_texts.specs.Values.{Text}
use Rattle.pj_rules.specs.Known.{AreRead}
use Rattle.pj_rule_sets.specs.ReadFiles.{Read}
use Rattle.pj_rules.specs.Load.{AreTops, IsFirstFault, IsTopFault}
use Rattle.pj_rules.specs.Refusals.{IfFault}
use Rattle.pj_rules.specs.States.{top_rules}
use Rattle.pj_rule_sets.specs.declared.known.Known.{Known}
use Rattle.pj_rules.specs.declared.top.Top.{Top}
use Rattle.pj_rules.proofs.Refusing.{fault_weaker, leaves}
use Rattle.pj_rules.proofs.TopFacts.{first_fault, next_top}
use Rattle.pj_rules.proofs.top.read_tops.Goals as goal

pub returns-in_err-top-clause-fault : goal.returns-in_err-top-clause-fault
returns-in_err-top-clause-fault g c = λ files told.
    let paths = c.as_slice-path-items.result.now in
    let path = c.path-item.result in
    let kept = c.loop-path.invariant in
    let refused = c.in_err-top.field-0.0 in
    leaves (IfFault (IsFirstFault files c.args.paths.now)) c.from_residual-in_err-top.result refused c.from_residual-in_err-top.ensures.1
    (fault_weaker refused (IsTopFault files path) (IsFirstFault files c.args.paths.now)
    (λ fault h. subst (λ (all : List Text). IsFirstFault files all fault) c.as_slice-path-items.ensures
    (first_fault files paths c.loop-path.path-index path c.loop-path-test.true c.path-item.is c.loop-path.tops (kept.tops files told) fault h))
    (c.in_err-top.ensures.fault files (kept.same_files ∙ told) (kept.read files told)))

pub loop-path-preserved : goal.loop-path-preserved
loop-path-preserved g c =
    let paths = c.as_slice-path-items.result.now in
    let path = c.path-item.result in
    let kept = c.loop-path.invariant in
    record {
      same_files = c.in_ok-top.ensures.same_files ∙ kept.same_files;
      same_faults = c.in_ok-top.ensures.counts_faults ∙ kept.same_faults;
      steady = λ s. (c.in_ok-top.ensures.steady (kept.steady s)).0;
      read = λ files told. (c.in_ok-top.ensures.top files (kept.same_files ∙ told) (kept.read files told)).0;
      tops = λ files told.
          next_top files paths c.loop-path.path-index path c.loop-path-test.true c.path-item.is c.loop-path.tops (kept.tops files told) c.in_ok-top.top _ c.in_ok-push.ensures.ok
          (c.in_ok-top.ensures.top files (kept.same_files ∙ told) (kept.read files told)).1;
    }

pub loop-path-init : goal.loop-path-init
loop-path-init g c = record {
  same_files = refl;
  same_faults = refl;
  steady = λ s. s;
  read = λ files told. subst (λ (read : Read). AreRead files read) (sym (ap (λ (known : Known). known.read) c.new-known.ensures)) tt;
  tops = λ files told. subst (λ (tops : List Top). AreTops files [] (map top_rules tops)) (sym c.new-tops.ensures) AreTops.none;
}

pub returns-clause-tops : goal.returns-clause-tops
returns-clause-tops g c = λ files told.
    let paths = c.as_slice-path-items.result.now in
    let past : length paths ≤ c.loop-path.path-index = omega (arith, c.loop-path-test.false) in
    subst (λ (all : List Text). AreTops files all (map top_rules c.loop-path.tops)) (take_all c.loop-path.path-index paths past ∙ c.as_slice-path-items.ensures)
    (c.loop-path.invariant.tops files told)
