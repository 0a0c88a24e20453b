use Rattle.std.proofs.Common.{ap, ◌∙◌}
use Rattle.pj_rule_sets.specs.Lists.{with_text}
use Rattle.pj_rule_sets.proofs.known.OpenPaths.put.Goals as goal

pub returns-clause-put : goal.returns-clause-put
returns-clause-put c = c.in_ok-insert.ensures.keys ∙ ap (λ paths. with_text paths c.args.path) c.self.view_is
