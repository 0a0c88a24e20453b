use Rattle.pj_carrying.proofs.ByRule.{all_from}
use Rattle.pj_carrying.proofs.rows.rows_by_rule.Goals as goal

pub returns : goal.returns
returns c =
    all_from c.args.count c.args.rows.now c.as_slice-findings.result.now c.as_slice-errors.result.now _ _ _ c.as_slice-findings.ensures c.as_slice-errors.ensures c.in_ok-all.ensures c.in_ok-put_findings.ensures c.in_ok-put_errors.ensures
