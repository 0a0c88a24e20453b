use Rattle.std.proofs.Common.{sym}
use Rattle.pj_file_oracle.specs.FileAnswer.{file_answer}
use Rattle.pj_file_oracle.proofs.Holding.{all-held-stay, held-found}
use Rattle.pj_file_oracle.proofs.answer.held_answer.Goals as goal

pub returns-in-Some-clause-asks : goal.returns-in-Some-clause-asks
returns-in-Some-clause-asks g c =
    let meaning = file_answer c.args.file.now in
    c.give_again.ensures (meaning c.args.name.now) (held-found meaning (g.O.Oracle.tells c.args.oracle.now) c.args.held.now.entries c.args.name.now c.in-Some.found.now c.requires.held (sym c.in-Some.ensures.value))

pub returns-in-Some-clause-held : goal.returns-in-Some-clause-held
returns-in-Some-clause-held g c =
    let meaning = file_answer c.args.file.now in
    let t = g.O.Oracle.tells c.args.oracle.now in
    let asks = c.give_again.ensures (meaning c.args.name.now) (held-found meaning t c.args.held.now.entries c.args.name.now c.in-Some.found.now c.requires.held (sym c.in-Some.ensures.value)) in
    all-held-stay meaning t c.args.held.now.entries asks c.requires.held
