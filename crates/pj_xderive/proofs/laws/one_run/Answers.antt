use Rattle.std.proofs.Common.{◌≡◌}
use Rattle.pj_ll.specs.Leads.{Behind, Derives}
use Rattle.pj_ll.specs.Outcome.{IsEnd}
use Rattle.pj_ll.specs.declared.parser.End.{End}
use Rattle.pj_xgrammar.specs.Predictive.{of_xpath}
use Rattle.pj_xgrammar.specs.XPath.{xpath_grammar}
use Rattle.pj_xderive.proofs.OneRun as lemma
use Rattle.pj_xderive.proofs.SomeRun.{some_run}
use Rattle.pj_xderive.proofs.laws.one_run.Goals as goal

pub returns-clause-some : goal.returns-clause-some
returns-clause-some c =
    some_run
    (λ terminals. of_xpath c.grammar_is_predictive.ensures (λ g. (end : End) × IsEnd g terminals 200 end)
    (λ facts entries ok. c.one_end.ensures.some facts entries terminals 200 ok))

pub returns-clause-at_most : goal.returns-clause-at_most
returns-clause-at_most c =
    let predictive = c.grammar_is_predictive.ensures in
    let one = c.one_derivation.ensures in
    lemma.one_run
    (λ terminals ps qs. of_xpath predictive (λ g. Derives g terminals ps → Derives g terminals qs → ps ≡ qs)
    (λ facts entries ok. one.whole facts entries terminals ps qs ok))
    (λ before ps qs ss rs. of_xpath predictive (λ g. Behind g before ps ss → Behind g before qs rs → ps ≡ qs)
    (λ facts entries ok d e. (one.beginning facts entries before ps qs ss rs ok d e).0))
    (λ terminals a b. c.one_end.ensures.at_most xpath_grammar terminals 200 a b)
