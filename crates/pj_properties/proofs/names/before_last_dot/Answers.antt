use Rattle.std.proofs.Common.{ap, sym, ◌∙◌}
use Rattle.pj_properties.proofs.Dots.{front_of, before_dot}
use Rattle.pj_properties.proofs.names.before_last_dot.Goals as goal

pub returns-in-Some : goal.returns-in-Some
returns-in-Some c = ap front_of (sym c.in-Some.is) ∙ before_dot c.args.text.now c.rsplit_once.result c.rsplit_once.ensures.cases

pub returns-in-None : goal.returns-in-None
returns-in-None c = ap front_of (sym c.in-None.is) ∙ before_dot c.args.text.now c.rsplit_once.result c.rsplit_once.ensures.cases
