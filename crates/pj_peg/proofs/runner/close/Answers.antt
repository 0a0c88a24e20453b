use Rattle.std.proofs.Common.{◌∙◌, ap}
use Rattle.pj_peg.specs.Emit.{set_next}
use Rattle.pj_peg.proofs.Emitting.{set_is}
use Rattle.pj_peg.proofs.runner.close.Goals as goal

pub returns : goal.returns
returns c =
    set_is c.args.steps.now.items c.args.number c.len-next.result c.index_mut-step.result.now c.requires.there c.index_mut-step.ensures.value
    ∙ ap (set_next c.args.steps.now.items c.args.number) (c.len-next.ensures ∙ c.args.steps.now.ok.0)
