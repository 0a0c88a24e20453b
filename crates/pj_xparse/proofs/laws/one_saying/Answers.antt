use Rattle.std.proofs.Common.{◌≡◌, subst}
use Rattle.pj_xgrammar.specs.Terminals.{numbers}
use Rattle.pj_xgrammar.specs.XPath.{greatest_nesting, xpath_grammar}
use Rattle.pj_xmeaning.specs.SoFar.{SayUpTo}
use Rattle.pj_xparse.proofs.laws.one_saying.Goals as goal

pub returns : goal.returns
returns c = λ tokens a b first second.
    let (end, ends, reads) = c.sayings_end_with_runs.ensures.led tokens a first in
    let (other, others, also) = c.sayings_end_with_runs.ensures.led tokens b second in
    let same : end ≡ other = c.one_end.ensures.at_most xpath_grammar (numbers tokens) greatest_nesting end other ends others in
    c.one_saying.ensures other tokens a b c.grammar_is_predictive.ensures others (subst (λ e. SayUpTo e tokens a) same reads) also
