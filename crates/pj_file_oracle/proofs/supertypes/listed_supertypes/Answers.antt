use Rattle.std.proofs.Common.{List, ap, subst, sym, ◌∙◌}
use Rattle.pj_names.specs.Asking.{each}
use Rattle.pj_names.proofs.AskingLaws.{ComesTo, comes-begin}
use Rattle.pj_names.specs.JavaType.{java_type, type_list}
use Rattle.pj_names.proofs.MeaningLaws.{each-gather, gather}
use Rattle.pj_names.specs.declared.ty.Ty.{Ty}
use Rattle.pj_file_oracle.specs.Supertypes.{supertype}
use Rattle.pj_file_oracle.proofs.Lists.{gather-turn}
use Rattle.pj_file_oracle.proofs.supertypes.listed_supertypes.Goals as goal

pub loop-n-init : goal.loop-n-init
loop-n-init g c =
    let f = supertype c.args.file.now c.args.busy.now in
    let nodes = c.args.nodes.now in
    let t = g.O.Oracle.tells c.args.oracle.now in
    subst (λ m. ComesTo (each f nodes) t m t) (each-gather f nodes ∙ ap (λ (types : List Ty). gather f (type_list types) nodes) (sym c.new-types.ensures)) comes-begin

pub loop-n-preserved : goal.loop-n-preserved
loop-n-preserved g c =
    gather-turn (supertype c.args.file.now c.args.busy.now) java_type c.loop-n.types c.push.new.self c.args.nodes.now c.loop-n.n-index _ c.in_ok-ty.ty
    c.loop-n-test.true c.in_ok-push.ensures.ok c.loop-n.invariant c.in_ok-ty.ensures
