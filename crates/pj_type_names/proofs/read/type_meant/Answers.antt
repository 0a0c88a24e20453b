use Rattle.std.proofs.Common.{◌<◌, length, subst, sym}
use Rattle.std.specs.Option.{IfSome}
use Rattle.pj_type_names.proofs.Inside.{type_meant_inside}
use Rattle.pj_type_names.proofs.read.type_meant.Goals as goal

pub returns-clause-inside : goal.returns-clause-inside
returns-clause-inside c =
    let t = c.args.file.now in
    let found = rw c.declarations.ensures at c.class_or_type_parameter.ensures in
    subst (λ found. IfSome found (λ d. d.node.0 < length t.nodes)) (sym found) (type_meant_inside t c.args.simple.now c.args.place)
