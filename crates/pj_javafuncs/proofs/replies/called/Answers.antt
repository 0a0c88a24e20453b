use Rattle.std.proofs.Common.{◌∙◌, ap}
use Rattle.std.specs.Prelude.{Err}
use Rattle.std.proofs.lemmas.Result.{err_from_is_err_and}
use Rattle.pj_names.proofs.AskingLaws.{asks-stop}
use Rattle.pj_xvalue.specs.Items.{values_of}
use Rattle.pj_xvalue.specs.Replies.{outcome}
use Rattle.pj_javafuncs.proofs.replies.called.Goals as goal

pub returns-in_err-pattern-clause-asks : goal.returns-in_err-pattern-clause-asks
returns-in_err-pattern-clause-asks g c =
    let exit = err_from_is_err_and c.from_residual.result c.from_residual.ensures.1 in
    asks-stop (ap (λ r. outcome values_of r) (exit.1 ∙ ap (λ x. Err x) exit.2))
