use Rattle.pj_carrying.proofs.Among.{found, passed}
use Rattle.pj_carrying.proofs.form.has_finding_of.Goals as goal

pub returns-then-has_rule : goal.returns-then-has_rule
returns-then-has_rule c = found c.args.held.now.keys c.args.findings.now c.loop-finding.finding-index _ c.has_rule.result c.loop-finding-test.true c.has_rule.ensures c.if-has_rule.true c.loop-finding.invariant

pub loop-finding-preserved : goal.loop-finding-preserved
loop-finding-preserved c = passed c.args.held.now.keys c.args.findings.now c.loop-finding.finding-index _ c.has_rule.result c.loop-finding-test.true c.has_rule.ensures c.if-has_rule.false c.loop-finding.invariant
