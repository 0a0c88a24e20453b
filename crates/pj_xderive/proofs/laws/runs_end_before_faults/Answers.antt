use Rattle.pj_ll.specs.Outcome.{IsEnd}
use Rattle.pj_ll.specs.declared.parser.End.{End}
use Rattle.pj_xgrammar.specs.Predictive.{of_xpath}
use Rattle.pj_xderive.proofs.RunsFirst.{run_first}
use Rattle.pj_xderive.proofs.laws.runs_end_before_faults.Goals as goal

pub returns : goal.returns
returns c = λ tokens fault end is_fault is_end.
    run_first
    (λ terminals. of_xpath c.grammar_is_predictive.ensures (λ g. (end : End) × IsEnd g terminals 200 end)
    (λ facts entries ok. c.one_end.ensures.some facts entries terminals 200 ok))
    tokens fault is_fault end is_end
