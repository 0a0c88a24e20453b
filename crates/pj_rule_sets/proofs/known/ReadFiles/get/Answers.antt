use Rattle.std.proofs.Common.{ap, ◌∙◌}
use Rattle.pj_rule_sets.specs.ReadFiles.{list_at}
use Rattle.pj_rule_sets.proofs.known.ReadFiles.get.Goals as goal

pub returns : goal.returns
returns c = c.get.ensures.value ∙ ap (λ read. list_at read c.args.path.now) c.self.view_is
