use Rattle.pj_rule_sets.specs.Faults.{IsParseFault}
use Rattle.pj_rule_sets.specs.Refusals.{of_syntax}
use Rattle.pj_rule_sets.proofs.Judging.{parse_fault}
use Rattle.pj_rule_sets.proofs.Lists.{handed_on}
use Rattle.pj_rule_sets.proofs.expressions.parsed.Goals as goal

pub returns-in_err-expr-clause-fault : goal.returns-in_err-expr-clause-fault
returns-in_err-expr-clause-fault c =
    let names = c.args.names.now in
    let text = c.args.text.now in
    handed_on c.from_residual.result (of_syntax c.in_err-expr.field-0.0) (IsParseFault names text) c.from_residual.ensures.1
    (parse_fault names text c.in_err-expr.field-0.0 c.in_err-expr.ensures.fault)
