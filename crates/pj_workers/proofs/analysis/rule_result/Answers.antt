use Rattle.pj_workers.specs.Views.{with_expressions}
use Rattle.pj_workers.proofs.Kept.{kept_patterns, kept_rule}
use Rattle.pj_workers.proofs.analysis.rule_result.Goals as goal

pub result_in-requires-clause-patterns : goal.result_in-requires-clause-patterns
result_in-requires-clause-patterns g c = kept_patterns c.args.rule.now c.expressions-kept.result.now c.expressions-kept.ensures

pub returns-clause-asks : goal.returns-clause-asks
returns-clause-asks g c =
    let marker = c.args.file.now.marker.now in
    let kept = c.expressions-kept.result.now in
    (with_expressions marker c.args.rule.now kept, kept_rule marker c.args.rule.now kept c.expressions-kept.ensures, c.result_in.ensures.asks)
