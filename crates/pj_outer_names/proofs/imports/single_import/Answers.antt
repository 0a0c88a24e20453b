use Rattle.std.proofs.Common.{◌<◌, length, subst, sym}
use Rattle.std.specs.Option.{IfSome}
use Rattle.pj_outer_names.proofs.Inside.{import_inside}
use Rattle.pj_outer_names.proofs.imports.single_import.Goals as goal

pub returns-clause-inside : goal.returns-clause-inside
returns-clause-inside c =
    let t = c.args.file.now in
    let found = rw c.declarations.ensures at c.single_import.ensures in
    subst (λ found. IfSome found (λ n. n.0 < length t.nodes)) (sym found) (import_inside t c.args.sort c.args.simple.now)
