use Rattle.std.proofs.Common.{rules, refl, sym, subst}
use Rattle.pj_names.specs.declared.answer.Answer.{Answer}
use Rattle.pj_names.proofs.AskingLaws.{asks-stop}
use Rattle.pj_names.proofs.Held.{asks-late}
use Rattle.pj_file_oracle.specs.Answered.{IsAnswered}
use Rattle.pj_file_oracle.specs.FileAnswer.{file_answer}
use Rattle.pj_file_oracle.proofs.Answered.{all-stay, answered-found, answered-new, answered-put, asks-again}
use Rattle.pj_file_oracle.proofs.answer.answer_again.Goals as goal

pub returns-in_err-clone-clause-asks : goal.returns-in_err-clone-clause-asks
returns-in_err-clone-clause-asks g c = asks-stop (search rules)

pub returns-in-Some-clause-asks : goal.returns-in-Some-clause-asks
returns-in-Some-clause-asks g c =
    let t = g.O.Oracle.tells c.args.oracle.now in
    let meaning = file_answer c.args.file.now in
    let found = answered-found meaning t c.args.answered.now.entries c.args.name.now c.in-Some.answer.now c.requires.answered (sym c.in-Some.ensures.value) in
    asks-again (subst (λ (a : Answer). IsAnswered t (meaning c.args.name.now) a) (sym c.in_ok-clone.ensures.cases) found) refl

pub returns-in_err-answer-clause-answered : goal.returns-in_err-answer-clause-answered
returns-in_err-answer-clause-answered g c =
    all-stay (file_answer c.args.file.now) (g.O.Oracle.tells c.args.oracle.now) c.args.answered.now.entries c.held_answer.ensures.asks c.requires.answered

pub returns-in_err-copied-clause-asks : goal.returns-in_err-copied-clause-asks
returns-in_err-copied-clause-asks g c = asks-late c.in_ok-answer.ensures.asks (search rules)

pub returns-in_err-copied-clause-answered : goal.returns-in_err-copied-clause-answered
returns-in_err-copied-clause-answered g c =
    all-stay (file_answer c.args.file.now) (g.O.Oracle.tells c.args.oracle.now) c.args.answered.now.entries c.held_answer.ensures.asks c.requires.answered

pub returns-in_err-clone-2-clause-asks : goal.returns-in_err-clone-2-clause-asks
returns-in_err-clone-2-clause-asks g c = asks-late c.in_ok-answer.ensures.asks (search rules)

pub returns-in_err-clone-2-clause-answered : goal.returns-in_err-clone-2-clause-answered
returns-in_err-clone-2-clause-answered g c =
    all-stay (file_answer c.args.file.now) (g.O.Oracle.tells c.args.oracle.now) c.args.answered.now.entries c.held_answer.ensures.asks c.requires.answered

pub returns-in_err-insert-clause-asks : goal.returns-in_err-insert-clause-asks
returns-in_err-insert-clause-asks g c = asks-late c.in_ok-answer.ensures.asks (search rules)

pub returns-in_err-insert-clause-answered : goal.returns-in_err-insert-clause-answered
returns-in_err-insert-clause-answered g c =
    let stay = all-stay (file_answer c.args.file.now) (g.O.Oracle.tells c.args.oracle.now) c.args.answered.now.entries c.held_answer.ensures.asks c.requires.answered in
    answered-put (file_answer c.args.file.now) (g.O.Oracle.tells c.held_answer.new.oracle) c.args.answered.now.entries c.insert.new.self.entries c.args.name.now c.in_ok-copied.field-0
    c.in_ok-answer.answer.value c.in_ok-clone-2.field-0 c.insert.result c.in_ok-copied.ensures c.in_ok-clone-2.ensures.cases c.insert.ensures.entries c.insert.ensures.err stay (answered-new c.in_ok-answer.ensures.asks)

pub returns-clause-answered : goal.returns-clause-answered
returns-clause-answered g c =
    let stay = all-stay (file_answer c.args.file.now) (g.O.Oracle.tells c.args.oracle.now) c.args.answered.now.entries c.held_answer.ensures.asks c.requires.answered in
    answered-put (file_answer c.args.file.now) (g.O.Oracle.tells c.held_answer.new.oracle) c.args.answered.now.entries c.insert.new.self.entries c.args.name.now c.in_ok-copied.field-0
    c.in_ok-answer.answer.value c.in_ok-clone-2.field-0 c.insert.result c.in_ok-copied.ensures c.in_ok-clone-2.ensures.cases c.insert.ensures.entries c.insert.ensures.err stay (answered-new c.in_ok-answer.ensures.asks)
