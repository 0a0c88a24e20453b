use Rattle.std.proofs.Common.{◌∷◌, [], sym, ◌∙◌}
use Rattle.pj_outside.proofs.Prefixes.{starts_with_rest, starts_with_neither}
use Rattle.pj_outside.proofs.mem_tree.is_path_below.Goals as goal

pub returns-then-starts_with : goal.returns-then-starts_with
returns-then-starts_with c =
    let e = starts_with_rest c.args.path.now c.args.at.now (47 ∷ []) (sym c.starts_with.ensures.value ∙ c.if-starts_with.true) in cc

pub returns-else-starts_with : goal.returns-else-starts_with
returns-else-starts_with c =
    c.if-starts_with.false ∙ sym (starts_with_neither c.args.path.now c.args.at.now (47 ∷ []) (sym c.starts_with.ensures.value ∙ c.if-starts_with.false))
