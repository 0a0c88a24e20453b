use Rattle.std.proofs.Common.{List, ap, subst, sym, ◌∙◌}
use Rattle.pj_names.specs.Asking.{each}
use Rattle.pj_names.proofs.AskingLaws.{ComesTo, comes-begin}
use Rattle.pj_names.specs.JavaType.{java_type, type_list}
use Rattle.pj_names.proofs.MeaningLaws.{each-gather, gather}
use Rattle.pj_names.specs.declared.ty.Ty.{Ty}
use Rattle.pj_type_names.specs.TypeName.{written_bound}
use Rattle.pj_file_oracle.proofs.Lists.{gather-turn}
use Rattle.pj_file_oracle.proofs.types.resolved_bounds.Goals as goal

pub loop-bound-init : goal.loop-bound-init
loop-bound-init g c =
    let f = written_bound c.args.file.now c.args.busy.now in
    let nodes = c.args.bounds.now in
    let t = g.O.Oracle.tells c.args.oracle.now in
    subst (λ m. ComesTo (each f nodes) t m t) (each-gather f nodes ∙ ap (λ (types : List Ty). gather f (type_list types) nodes) (sym c.new-types.ensures)) comes-begin

pub loop-bound-preserved : goal.loop-bound-preserved
loop-bound-preserved g c =
    gather-turn (written_bound c.args.file.now c.args.busy.now) java_type c.loop-bound.types c.push.new.self c.args.bounds.now c.loop-bound.bound-index _ c.in_ok-ty.ty
    c.loop-bound-test.true c.in_ok-push.ensures.ok c.loop-bound.invariant c.in_ok-ty.ensures
