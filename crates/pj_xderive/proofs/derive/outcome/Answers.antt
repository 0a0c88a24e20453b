use Rattle.std.proofs.Common.{map, sym, subst}
use Rattle.pj_ll.specs.Outcome as ll
use Rattle.pj_xtokens.specs.Answer.{lexed_of}
use Rattle.pj_xgrammar.specs.XPath.{xpath_grammar}
use Rattle.pj_xgrammar.specs.Terminals.{numbers}
use Rattle.pj_xderive.specs.Following.{HasOutcome}
use Rattle.pj_xderive.proofs.Outcomes.{of_whole}
use Rattle.pj_xderive.proofs.derive.outcome.Goals as goal

pub returns-in-Whole : goal.returns-in-Whole
returns-in-Whole c =
    let tokens = map lexed_of c.args.tokens.now in
    subst (λ o. HasOutcome tokens o o) (sym c.in-Whole.is) (of_whole tokens (subst (ll.IsEnd xpath_grammar (numbers tokens) 200) c.in-Whole.is c.requires.ends))
