use Rattle.std.proofs.Common.{◌∙◌, ap, sym}
use Rattle.pj_scopes.specs.Searched.{found_or}
use Rattle.pj_scopes.proofs.Levels.{inside-out}
use Rattle.pj_scopes.proofs.Turns.{asks-as}
use Rattle.pj_scopes.proofs.variable.variable_name.Goals as goal

pub returns-clause-asks : goal.returns-clause-asks
returns-clause-asks g c =
    let t = c.args.file.now in
    let name = c.args.name.now in
    let place = c.args.place in
    asks-as (sym (ap (λ found. found_or t name place found) c.declaration_at-found.ensures.value ∙ inside-out t place name)) c.found_or_inherited.ensures.asks
