use Rattle.std.proofs.Common.{rules}
use Rattle.pj_names.proofs.Held.{asks-late}
use Rattle.pj_file_oracle.specs.declared.held.HeldAnswer.{HeldAnswer}
use Rattle.pj_file_oracle.specs.FileAnswer.{file_answer}
use Rattle.pj_file_oracle.proofs.Answered.{asks-named}
use Rattle.pj_file_oracle.proofs.Holding.{all-held-stay, held-made, held-put}
use Rattle.pj_file_oracle.proofs.answer.new_answer.Goals as goal

pub returns-in_err-answer-clause-asks : goal.returns-in_err-answer-clause-asks
returns-in_err-answer-clause-asks g c = asks-named c.args.file.now c.args.name.now c.args.class c.requires.named (search rules)

pub returns-in_err-answer-clause-held : goal.returns-in_err-answer-clause-held
returns-in_err-answer-clause-held g c =
    all-held-stay (file_answer c.args.file.now) (g.O.Oracle.tells c.args.oracle.now) c.args.held.now.entries c.answer_noted.ensures.asks c.requires.held

pub returns-in_err-names-clause-asks : goal.returns-in_err-names-clause-asks
returns-in_err-names-clause-asks g c =
    asks-late (asks-named c.args.file.now c.args.name.now c.args.class c.requires.named c.in_ok-answer.ensures.asks) (search rules)

pub returns-in_err-names-clause-held : goal.returns-in_err-names-clause-held
returns-in_err-names-clause-held g c =
    all-held-stay (file_answer c.args.file.now) (g.O.Oracle.tells c.args.oracle.now) c.args.held.now.entries c.answer_noted.ensures.asks c.requires.held

pub returns-in_err-answer_too-clause-asks : goal.returns-in_err-answer_too-clause-asks
returns-in_err-answer_too-clause-asks g c =
    asks-late (asks-named c.args.file.now c.args.name.now c.args.class c.requires.named c.in_ok-answer.ensures.asks) (search rules)

pub returns-in_err-answer_too-clause-held : goal.returns-in_err-answer_too-clause-held
returns-in_err-answer_too-clause-held g c =
    all-held-stay (file_answer c.args.file.now) (g.O.Oracle.tells c.args.oracle.now) c.args.held.now.entries c.answer_noted.ensures.asks c.requires.held

pub returns-in_err-copied-clause-asks : goal.returns-in_err-copied-clause-asks
returns-in_err-copied-clause-asks g c =
    asks-late (asks-named c.args.file.now c.args.name.now c.args.class c.requires.named c.in_ok-answer.ensures.asks) (search rules)

pub returns-in_err-copied-clause-held : goal.returns-in_err-copied-clause-held
returns-in_err-copied-clause-held g c =
    all-held-stay (file_answer c.args.file.now) (g.O.Oracle.tells c.args.oracle.now) c.args.held.now.entries c.answer_noted.ensures.asks c.requires.held

pub returns-in_err-insert-clause-asks : goal.returns-in_err-insert-clause-asks
returns-in_err-insert-clause-asks g c =
    asks-late (asks-named c.args.file.now c.args.name.now c.args.class c.requires.named c.in_ok-answer.ensures.asks) (search rules)

pub returns-in_err-insert-clause-held : goal.returns-in_err-insert-clause-held
returns-in_err-insert-clause-held g c =
    let tree = c.args.file.now in
    let name = c.args.name.now in
    let one : HeldAnswer = record { answer = c.in_ok-answer_too.answer_too; names = c.in_ok-names.names } in
    let stay = all-held-stay (file_answer tree) (g.O.Oracle.tells c.args.oracle.now) c.args.held.now.entries c.answer_noted.ensures.asks c.requires.held in
    let made = held-made tree name c.args.class one c.in_ok-answer.answer.value c.new-noted.result c.answer_noted.new.noted c.requires.named c.new-noted.ensures
    c.in_ok-answer_too.ensures.cases c.in_ok-names.ensures.members c.in_ok-answer.ensures.asks c.in_ok-answer.ensures.notes in
    held-put (file_answer tree) (g.O.Oracle.tells c.answer_noted.new.oracle) c.args.held.now.entries c.insert.new.self.entries name c.in_ok-copied.field-0 one c.insert.result
    c.in_ok-copied.ensures c.insert.ensures.entries c.insert.ensures.err stay made

pub returns-clause-asks : goal.returns-clause-asks
returns-clause-asks g c = asks-named c.args.file.now c.args.name.now c.args.class c.requires.named c.in_ok-answer.ensures.asks

pub returns-clause-held : goal.returns-clause-held
returns-clause-held g c =
    let tree = c.args.file.now in
    let name = c.args.name.now in
    let one : HeldAnswer = record { answer = c.in_ok-answer_too.answer_too; names = c.in_ok-names.names } in
    let stay = all-held-stay (file_answer tree) (g.O.Oracle.tells c.args.oracle.now) c.args.held.now.entries c.answer_noted.ensures.asks c.requires.held in
    let made = held-made tree name c.args.class one c.in_ok-answer.answer.value c.new-noted.result c.answer_noted.new.noted c.requires.named c.new-noted.ensures
    c.in_ok-answer_too.ensures.cases c.in_ok-names.ensures.members c.in_ok-answer.ensures.asks c.in_ok-answer.ensures.notes in
    held-put (file_answer tree) (g.O.Oracle.tells c.answer_noted.new.oracle) c.args.held.now.entries c.insert.new.self.entries name c.in_ok-copied.field-0 one c.insert.result
    c.in_ok-copied.ensures c.insert.ensures.entries c.insert.ensures.err stay made
