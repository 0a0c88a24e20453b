use Rattle.std.proofs.Common.{sym, subst}
use Rattle.std.proofs.lemmas.Result.{err_from_is_err_and}
use Rattle.pj_rule_sets.specs.Faults.{IsFault}
use Rattle.pj_rule_sets.proofs.usable.UsableRule.of.Goals as goal

pub returns-in_err-expressions-clause-fault : goal.returns-in_err-expressions-clause-fault
returns-in_err-expressions-clause-fault c =
    let passed = err_from_is_err_and c.from_residual.result c.from_residual.ensures.1 in
    rw passed.1 (subst (IsFault c.args.texts) (sym passed.2) c.in_err-expressions.ensures.fault)
