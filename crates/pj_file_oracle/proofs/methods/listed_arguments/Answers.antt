use Rattle.std.proofs.Common.{List, ap, subst, sym, ◌∙◌}
use Rattle.pj_names.specs.Asking.{each}
use Rattle.pj_names.proofs.AskingLaws.{ComesTo, comes-begin}
use Rattle.pj_names.specs.JavaType.{java_type, type_list}
use Rattle.pj_names.proofs.MeaningLaws.{each-gather, gather}
use Rattle.pj_names.specs.declared.ty.Ty.{Ty}
use Rattle.pj_file_oracle.specs.Members.{argument_of}
use Rattle.pj_file_oracle.proofs.Lists.{gather-turn}
use Rattle.pj_file_oracle.proofs.methods.listed_arguments.Goals as goal

pub loop-parameter-init : goal.loop-parameter-init
loop-parameter-init g c =
    let f = argument_of c.args.file.now in
    let nodes = c.args.parameters.now in
    let t = g.O.Oracle.tells c.args.oracle.now in
    subst (λ m. ComesTo (each f nodes) t m t) (each-gather f nodes ∙ ap (λ (types : List Ty). gather f (type_list types) nodes) (sym c.new-types.ensures)) comes-begin

pub loop-parameter-preserved : goal.loop-parameter-preserved
loop-parameter-preserved g c =
    gather-turn (argument_of c.args.file.now) java_type c.loop-parameter.types c.push.new.self c.args.parameters.now c.loop-parameter.parameter-index _ c.in_ok-ty.ty
    c.loop-parameter-test.true c.in_ok-push.ensures.ok c.loop-parameter.invariant c.in_ok-ty.ensures
