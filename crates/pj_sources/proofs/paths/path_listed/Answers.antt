use Rattle.std.proofs.Common.{◌&&◌, cond, nat_lt, length, take, ◌-◌, ◌∷◌, [], sym, ap}
use Rattle.pj_sources.proofs.Endings.{ends_not}
use Rattle.pj_sources.proofs.paths.path_listed.Goals as goal

pub returns-in-None : goal.returns-in-None
returns-in-None c =
    let item = c.args.item.now in
    sym (ap (λ b. cond (b && nat_lt 1 (length item)) (take (length item - 1) item) item) (ends_not item (47 ∷ []) c.in-None.ensures.cases))
