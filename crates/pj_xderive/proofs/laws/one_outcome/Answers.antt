use Rattle.pj_ll.specs.Outcome.{IsEnd}
use Rattle.pj_ll.specs.declared.parser.End.{End}
use Rattle.pj_xgrammar.specs.Predictive.{of_xpath}
use Rattle.pj_xderive.proofs.OneOutcome as lemma
use Rattle.pj_xderive.proofs.laws.one_outcome.Goals as goal

pub returns : goal.returns
returns c = record {
  at_most = lemma.one_outcome;
  some = lemma.some_outcome
      (λ terminals. of_xpath c.grammar_is_predictive.ensures (λ g. (end : End) × IsEnd g terminals 200 end)
      (λ facts entries ok. c.one_end.ensures.some facts entries terminals 200 ok));
}
