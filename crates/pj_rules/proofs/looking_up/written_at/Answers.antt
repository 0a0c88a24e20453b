use Rattle.std.proofs.Common.{ap, sym, subst, ◌∙◌}
use Rattle.pj_rule_texts.specs.Files as file
use Rattle.pj_rule_texts.specs.Files.{IsUnreadable}
use Rattle.pj_rules.specs.Finding.{IsFaultAt}
use Rattle.pj_rules.specs.Refusals.{IfFault, refused_file}
use Rattle.pj_rules.proofs.Finding.{refused_unreadable}
use Rattle.pj_rules.proofs.Told.{told_at}
use Rattle.pj_rules.proofs.looking_up.written_at.Goals as goal

pub returns-in-Err-clause-fault : goal.returns-in-Err-clause-fault
returns-in-Err-clause-fault g c = λ files told.
    let refused = c.in-Err.refused in
    let read_at = c.as_str.result.now in
    let unread = told_at (g.T.Tree.holds c.args.tree.now) (λ files. file.IfFault (IsUnreadable files read_at) refused) c.in-Err.ensures.fault files told in
    subst (IfFault (IsFaultAt files c.args.path.now)) (sym (c.refused_file.ensures ∙ ap (λ p. refused_file p refused) c.in_ok-path_of_fault.ensures))
    (subst (λ p. IfFault (IsFaultAt files p) (refused_file p refused)) c.as_str.ensures (refused_unreadable files read_at refused unread))
