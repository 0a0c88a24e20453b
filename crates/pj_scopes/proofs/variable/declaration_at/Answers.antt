use Rattle.std.proofs.Common.{◌≡◌, ◌∙◌, ◌<◌, ap, length, subst, sym}
use Rattle.std.specs.Option.{IfSome}
use Rattle.pj_declared.specs.Nearest.{variable_meant}
use Rattle.pj_scopes.proofs.Inside.{variable_inside}
use Rattle.pj_scopes.proofs.variable.declaration_at.Goals as goal

pub returns-clause-inside : goal.returns-clause-inside
returns-clause-inside c =
    let t = c.args.file.now in
    let found : c.variable.result ≡ variable_meant t c.args.name.now c.args.place =
    c.variable.ensures ∙ ap (λ tree. variable_meant tree c.args.name.now c.args.place) c.declarations.ensures in
    subst (λ found. IfSome found (λ d. d.node.0 < length t.nodes)) (sym found) (variable_inside t c.args.name.now c.args.place)
