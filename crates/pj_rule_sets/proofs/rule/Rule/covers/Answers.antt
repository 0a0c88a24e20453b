use Rattle.std.proofs.Common.{ap, ◌∙◌}
use Rattle.pj_rule_sets.specs.Active.{covers}
use Rattle.pj_rule_sets.proofs.Told.{kept_there}
use Rattle.pj_rule_sets.proofs.rule.Rule.covers.Goals as goal

pub returns : goal.returns
returns c = (kept_there c.deref.ensures c.self.invariant.expressions_of).covers ∙ ap covers c.self.view_is
