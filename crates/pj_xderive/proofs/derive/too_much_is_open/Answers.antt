use Rattle.std.proofs.Common.{◌<◌, length, sym, ◌∙◌, arith}
use Rattle.std.proofs.lemmas.Option.{slice_get_within}
use Rattle.pj_xderive.proofs.Deeper.{deep, not_deep}
use Rattle.pj_xderive.proofs.derive.too_much_is_open.Goals as goal

pub returns-clause-deep : goal.returns-clause-deep
returns-clause-deep c = λ yes.
    let (t, at, it) = c.requires.left_out.left_out in
    let within : c.args.place < length c.args.terminals.now = slice_get_within c.args.terminals.now c.args.place t at in
    deep c.args.terminals.now c.args.place (omega arith) c.requires.left_out.before c.requires.left_out.clear c.in_ok-run.run'.end c.in_ok-run.ensures.ends (sym c.is_too_deep.ensures ∙ yes)

pub returns-clause-not_deep : goal.returns-clause-not_deep
returns-clause-not_deep c = λ no there.
    let (t, at, it) = c.requires.left_out.left_out in
    let within : c.args.place < length c.args.terminals.now = slice_get_within c.args.terminals.now c.args.place t at in
    not_deep c.args.terminals.now c.args.place (omega arith) c.requires.left_out.before c.requires.left_out.clear c.in_ok-run.run'.end c.in_ok-run.ensures.ends (sym c.is_too_deep.ensures ∙ no) there
