use Rattle.pj_xpatterns.proofs.Lookups.{got}
use Rattle.pj_xpatterns.proofs.patterns.Patterns.get.Goals as goal

pub returns : goal.returns
returns c = got c.self.inside.held.entries c.args.self.now (c.args.pattern.now, c.args.flags) c.in_ok-key.key c.get.result c.self.invariant c.self.view_is c.in_ok-key.ensures c.get.ensures.value
