use Rattle.pj_rules.proofs.Rests.{rest_taken}
use Rattle.pj_rules.proofs.rest.Rest.next.Goals as goal

pub returns : goal.returns
returns c =
    rest_taken c.self.inside.held c.next.new.self c.args.self.now c.next.result c.self.view_is c.self.invariant c.next.ensures.items c.next.ensures.cases
