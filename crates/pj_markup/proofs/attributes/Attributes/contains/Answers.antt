use Rattle.std.proofs.Common.{ap, ◌∙◌}
use Rattle.pj_markup.specs.Names.{has_name}
use Rattle.pj_markup.proofs.attributes.Attributes.contains.Goals as goal

pub returns : goal.returns
returns c = c.contains.ensures ∙ c.self.invariant c.args.name.now ∙ ap (has_name c.args.name.now) c.self.view_is
