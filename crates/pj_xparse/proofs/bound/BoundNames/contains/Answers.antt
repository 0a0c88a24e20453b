use Rattle.std.proofs.Common.{◌∙◌, ap}
use Rattle.std.specs.Prelude.{nat_lt}
use Rattle.pj_xparse.specs.Bound.{names_in}
use Rattle.pj_xparse.proofs.NameCounts.{found}
use Rattle.pj_xparse.proofs.bound.BoundNames.contains.Goals as goal

pub returns : goal.returns
returns c = ap (nat_lt 0) (c.count.ensures ∙ c.requires c.args.name.now) ∙ found c.args.name.now (names_in c.args.self.now.names.items)
