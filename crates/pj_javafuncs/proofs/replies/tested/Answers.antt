use Rattle.std.proofs.Common.{List, ℕ, ap, sym}
use Rattle.std.proofs.lemmas.Result.{err_from_is_err_and}
use Rattle.pj_type_names.proofs.Turns.{asks-as}
use Rattle.pj_xvalue.specs.Items.{values_of}
use Rattle.pj_javafuncs.specs.Parts.{test_by}
use Rattle.pj_javafuncs.proofs.Given.{test-done, test-refused}
use Rattle.pj_javafuncs.proofs.replies.tested.Goals as goal

pub returns-in_err-is-clause-asks : goal.returns-in_err-is-clause-asks
returns-in_err-is-clause-asks g c =
    let exit = err_from_is_err_and c.from_residual.result c.from_residual.ensures.1 in
    test-refused values_of c.from_residual.result exit.0 exit.1 exit.2 (asks-as (ap (λ (text : List ℕ). test_by c.args.test c.args.oracle.now.file.now c.args.at text) (sym c.as_str.ensures)) c.in_err-is.ensures.asks)

pub returns-clause-asks : goal.returns-clause-asks
returns-clause-asks g c =
    test-done (asks-as (ap (λ (text : List ℕ). test_by c.args.test c.args.oracle.now.file.now c.args.at text) (sym c.as_str.ensures)) c.in_ok-is.ensures.asks) c.in_ok-boolean_singleton.ensures
