use Rattle.std.proofs.Common.{◌∙◌}
use Rattle.pj_shape.proofs.Names.{has-found}
use Rattle.pj_shape.proofs.declared.is_declared_name.Goals as goal

pub returns : goal.returns
returns c = record { value = c.contains.ensures ∙ has-found (λ s. s.now) c.args.name.now c.args.names.now.keys }
