use Rattle.std.proofs.lemmas.Result.{err_from_is_err_and}
use Rattle.pj_xvalue.specs.Items.{values_of}
use Rattle.pj_javafuncs.proofs.Given.{test-done, test-refused}
use Rattle.pj_javafuncs.proofs.replies.call_tested.Goals as goal

pub returns-in_err-is-clause-asks : goal.returns-in_err-is-clause-asks
returns-in_err-is-clause-asks g c =
    let exit = err_from_is_err_and c.from_residual.result c.from_residual.ensures.1 in
    test-refused values_of c.from_residual.result exit.0 exit.1 exit.2 c.in_err-is.ensures.asks

pub returns-clause-asks : goal.returns-clause-asks
returns-clause-asks g c = test-done c.in_ok-is.ensures.asks c.in_ok-boolean_singleton.ensures
