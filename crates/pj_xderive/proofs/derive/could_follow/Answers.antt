use Rattle.std.proofs.Common.{◌≡◌, sym, subst, ◌∙◌}
use Rattle.pj_ll.specs.Outcome as ll
use Rattle.pj_xtokens.specs.Answer.{lexed_of}
use Rattle.pj_xgrammar.specs.XPath.{xpath_grammar}
use Rattle.pj_xderive.specs.Following.{terminals_with_last}
use Rattle.pj_xderive.proofs.Tried.{past, not_past}
use Rattle.pj_xderive.proofs.derive.could_follow.Goals as goal

pub returns-clause-could : goal.returns-clause-could
returns-clause-could c =
    let x = lexed_of c.args.token.now in
    let is : c.as_slice.result.now ≡ terminals_with_last c.args.terminals.now c.args.place x = c.as_slice.ensures.value ∙ c.in_ok-tried.ensures in
    λ yes. past c.args.terminals.now c.args.place x c.requires.stops c.requires.read c.in_ok-run.run'.end
    (subst (λ l. ll.IsEnd xpath_grammar l 200 c.in_ok-run.run'.end) is c.in_ok-run.ensures.ends) (sym c.is_past.ensures ∙ yes)

pub returns-clause-could_not : goal.returns-clause-could_not
returns-clause-could_not c =
    let x = lexed_of c.args.token.now in
    let is : c.as_slice.result.now ≡ terminals_with_last c.args.terminals.now c.args.place x = c.as_slice.ensures.value ∙ c.in_ok-tried.ensures in
    λ no go. not_past c.args.terminals.now c.args.place x c.requires.stops c.requires.read c.in_ok-run.run'.end
    (subst (λ l. ll.IsEnd xpath_grammar l 200 c.in_ok-run.run'.end) is c.in_ok-run.ensures.ends) (sym c.is_past.ensures ∙ no) go
