use Rattle.std.proofs.Common.{ap, sym, ◌∙◌}
use Rattle.pj_operators.specs.Literals.{either, ends_in}
use Rattle.pj_operators.proofs.Endings.{ends_in_last}
use Rattle.pj_operators.proofs.literals.ends_in.Goals as goal

pub returns-in-len1-up : goal.returns-in-len1-up
returns-in-len1-up c =
    let p = either c.args.small c.args.large in
    c.is_either.ensures ∙ sym (ends_in_last p c.as_bytes.result.now c.in-len1-up.len_at_least) ∙ ap (ends_in p) c.as_bytes.ensures.value
