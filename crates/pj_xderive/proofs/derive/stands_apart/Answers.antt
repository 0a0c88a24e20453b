use Rattle.std.proofs.Common.{◌∙◌}
use Rattle.pj_xderive.proofs.Apart.{apart_at, none_apart}
use Rattle.pj_xderive.proofs.derive.stands_apart.Goals as goal

pub returns-in_default : goal.returns-in_default
returns-in_default c =
    let (none, tt_, some, past, found) = c.in_default.ensures.lookup in
    none_apart c.args.tokens.now c.args.place past

pub returns : goal.returns
returns c =
    let (some, it, sure, here, found) = c.in-Some.ensures.lookup in
    c.are_apart.ensures ∙ apart_at c.args.tokens.now c.args.place _ c.in-Some.token.now here.0 it
