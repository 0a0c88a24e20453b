use Rattle.std.proofs.Common.{List, ap, subst, sym, ◌∙◌}
use Rattle.pj_names.specs.Asking.{each}
use Rattle.pj_names.proofs.AskingLaws.{ComesTo, comes-begin}
use Rattle.pj_names.proofs.MeaningLaws.{each-gather, gather}
use Rattle.pj_written.specs.Seen.{all_parameters, parameter_view}
use Rattle.pj_written.specs.declared.spelling.Parameter.{Parameter}
use Rattle.pj_file_oracle.specs.Types.{parameter_of}
use Rattle.pj_file_oracle.proofs.Lists.{gather-turn}
use Rattle.pj_file_oracle.proofs.types.listed_parameters.Goals as goal

pub loop-n-init : goal.loop-n-init
loop-n-init g c =
    let f = parameter_of c.args.file.now c.args.busy.now in
    let nodes = c.args.nodes.now in
    let t = g.O.Oracle.tells c.args.oracle.now in
    subst (λ m. ComesTo (each f nodes) t m t) (each-gather f nodes ∙ ap (λ (parameters : List Parameter). gather f (all_parameters parameters) nodes) (sym c.new-parameters.ensures)) comes-begin

pub loop-n-preserved : goal.loop-n-preserved
loop-n-preserved g c =
    gather-turn (parameter_of c.args.file.now c.args.busy.now) parameter_view c.loop-n.parameters c.push.new.self c.args.nodes.now c.loop-n.n-index _ c.in_ok-parameter.parameter
    c.loop-n-test.true c.in_ok-push.ensures.ok c.loop-n.invariant c.in_ok-parameter.ensures
