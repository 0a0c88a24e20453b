use Rattle.std.proofs.Common.{◌≡◌, rules, ap, subst, sym}
use Rattle.pj_names.specs.Told.{Asks, seen, shared_answer}
use Rattle.pj_names.proofs.NotingLaws.{asks-noted, notes-noted}
use Rattle.pj_file_oracle.specs.FileAnswer.{class_answer}
use Rattle.pj_file_oracle.proofs.answer.answer_noted.Goals as goal

pub returns-clause-asks : goal.returns-clause-asks
returns-clause-asks g c =
    let held = sym (ap (λ k. k.reference) c.class_answer.ensures.same_kept) in
    let over = asks-noted _ _ _ _ _ _ (class_answer c.args.file.now c.args.name.now c.args.class) _ _ c.class_answer.ensures in
    let same : c.class_answer.new.oracle.inner.now ≡ c.oracle-1.given.0 = search rules in
    subst (λ v. Asks (class_answer c.args.file.now c.args.name.now c.args.class) (g.O.Oracle.tells c.args.oracle.now) (g.O.Oracle.tells v) (seen shared_answer c.class_answer.result)) same over

pub returns-clause-notes : goal.returns-clause-notes
returns-clause-notes g c =
    let held = sym (ap (λ k. k.own) c.class_answer.ensures.same_kept) in
    let over = notes-noted _ _ _ _ _ _ (class_answer c.args.file.now c.args.name.now c.args.class) _ _ c.class_answer.ensures in
    search rules
