use Rattle.std.proofs.Common.{rules, ap, ◌∙◌}
use Rattle.std.specs.Prelude.{Ok}
use Rattle.pj_names.proofs.AskingLaws.{asks-refused, asks-return, asks-stop, asks-then}
use Rattle.pj_tree.specs.Tree.{Tree}
use Rattle.pj_file_oracle.specs.FileAnswer.{class_answer, found_with}
use Rattle.pj_file_oracle.proofs.answer.class_answer.Goals as goal

pub returns-in_err-signature : goal.returns-in_err-signature
unfolding class_answer
returns-in_err-signature g c = asks-refused _ c.in_err-signature.ensures (search rules)

pub returns-in_err-members : goal.returns-in_err-members
unfolding class_answer
returns-in_err-members g c = asks-then _ c.in_ok-signature.ensures (asks-refused _ c.in_err-members.ensures (search rules))

pub returns-in_err-answer : goal.returns-in_err-answer
unfolding class_answer
returns-in_err-answer g c = asks-then _ c.in_ok-signature.ensures (asks-then _ c.in_ok-members.ensures (asks-stop (search rules)))

pub returns : goal.returns
unfolding class_answer
returns g c =
    let made = c.in_ok-answer.ensures ∙ ap (λ (t : Tree). found_with t c.args.name.now c.args.class c.in_ok-signature.signature c.in_ok-members.members) c.tree.ensures in
    asks-then _ c.in_ok-signature.ensures (asks-then _ c.in_ok-members.ensures (asks-return (ap (λ answer. Ok answer) made)))
