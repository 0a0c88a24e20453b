use Rattle.std.proofs.Common.{List, map, IfErr}
use Rattle.std.specs.Prelude.{⊤}
use Rattle.pj_rules.specs.Load.{IsEffective, effective}
use Rattle.pj_rules.specs.Outcome.{IsRefused}
use Rattle.pj_rules.specs.States.{top_rules}
use Rattle.pj_rules.specs.declared.top.Top.{Top}
use Rattle.pj_rules.proofs.Definitions.{handed_on}
use Rattle.pj_rules.proofs.Loads.{counts_below, counts_many, many_steady, no_rules, refused_below, refused_many}
use Rattle.pj_rules.proofs.Told.{all_told}
use Rattle.pj_rules.proofs.Refusing.{stays_steady}
use Rattle.pj_rules.proofs.loading.load.Goals as goal

pub returns-in_err-tops-clause-counts_faults : goal.returns-in_err-tops-clause-counts_faults
returns-in_err-tops-clause-counts_faults g c =
    counts_below (List Top) c.from_residual.result c.in_err-tops.field-0.0 (g.T.Tree.faults c.args.tree.now) (g.T.Tree.faults c.read_tops.new.tree) c.from_residual.ensures.1 c.in_err-tops.ensures.counts_faults

pub returns-in_err-tops-clause-rules : goal.returns-in_err-tops-clause-rules
returns-in_err-tops-clause-rules g c =
    no_rules (g.T.Tree.holds c.args.tree.now) c.from_residual.result c.in_err-tops.field-0.0 (λ files. IsEffective files c.args.paths.now c.args.minimum c.args.marker.now) c.from_residual.ensures.1

pub returns-in_err-tops-clause-refused : goal.returns-in_err-tops-clause-refused
returns-in_err-tops-clause-refused g c =
    all_told (g.T.Tree.holds c.args.tree.now) (λ files. IfErr c.from_residual.result (IsRefused files c.args.paths.now c.args.minimum c.args.marker.now)) (λ files told.
    handed_on c.from_residual.result c.in_err-tops.field-0.0 (IsRefused files c.args.paths.now c.args.minimum c.args.marker.now) c.from_residual.ensures.1
    (refused_below files c.args.paths.now c.args.minimum c.args.marker.now c.in_err-tops.field-0.0 (c.in_err-tops.ensures.fault files told)))

pub returns-in_err-set-clause-counts_faults : goal.returns-in_err-set-clause-counts_faults
returns-in_err-set-clause-counts_faults g c =
    counts_many (effective c.args.minimum c.args.marker.now (map top_rules c.in_ok-tops.tops)) c.from_residual-in_err-set.result c.in_err-set.field-0.0
    (g.T.Tree.faults c.args.tree.now) (g.T.Tree.faults c.read_tops.new.tree) c.from_residual-in_err-set.ensures.1 c.in_ok-tops.ensures.counts_faults c.in_err-set.ensures.many

pub returns-in_err-set-clause-rules : goal.returns-in_err-set-clause-rules
returns-in_err-set-clause-rules g c =
    no_rules (g.T.Tree.holds c.args.tree.now) c.from_residual-in_err-set.result c.in_err-set.field-0.0 (λ files. IsEffective files c.args.paths.now c.args.minimum c.args.marker.now)
    c.from_residual-in_err-set.ensures.1

pub returns-in_err-set-clause-refused : goal.returns-in_err-set-clause-refused
returns-in_err-set-clause-refused g c =
    let tops = map top_rules c.in_ok-tops.tops in
    all_told (g.T.Tree.holds c.args.tree.now) (λ files. IfErr c.from_residual-in_err-set.result (IsRefused files c.args.paths.now c.args.minimum c.args.marker.now)) (λ files told.
    handed_on c.from_residual-in_err-set.result c.in_err-set.field-0.0 (IsRefused files c.args.paths.now c.args.minimum c.args.marker.now) c.from_residual-in_err-set.ensures.1
    (refused_many files c.args.paths.now c.args.minimum c.args.marker.now tops c.in_err-set.field-0.0 (c.in_ok-tops.ensures.tops files told) c.in_err-set.ensures.many))

pub returns-clause-rules : goal.returns-clause-rules
returns-clause-rules g c =
    all_told (g.T.Tree.holds c.args.tree.now) (λ files. IsEffective files c.args.paths.now c.args.minimum c.args.marker.now c.in_ok-set.set)
    (λ files told. record { tops = map top_rules c.in_ok-tops.tops; are_tops = c.in_ok-tops.ensures.tops files told; is = c.in_ok-set.ensures.set })

pub returns-clause-refused : goal.returns-clause-refused
returns-clause-refused g c = all_told (g.T.Tree.holds c.args.tree.now) (λ files. ⊤) (λ files told. tt)

pub returns-in_err-set-clause-steady : goal.returns-in_err-set-clause-steady
returns-in_err-set-clause-steady g c = λ never.
    let refused = c.in_err-set.field-0.0 in
    ((c.in_ok-tops.ensures.steady never).0, stays_steady c.from_residual-in_err-set.result refused c.from_residual-in_err-set.ensures.1 (many_steady (effective c.args.minimum c.args.marker.now (map top_rules c.in_ok-tops.tops)) refused c.in_err-set.ensures.many))
