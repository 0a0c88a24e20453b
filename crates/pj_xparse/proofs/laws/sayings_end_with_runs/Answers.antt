use Rattle.pj_ll.specs.Leads.{Derives}
use Rattle.pj_ll.specs.Outcome.{IsEnd, IsLeftOutAt}
use Rattle.pj_ll.specs.declared.parser.End.{End}
use Rattle.pj_ll.specs.declared.parser.End.TheVariants.{Whole}
use Rattle.pj_xgrammar.specs.Predictive.{of_xpath}
use Rattle.pj_xgrammar.specs.XPath.{greatest_nesting, xpath_grammar}
use Rattle.pj_xparse.proofs.SoFar as lemma
use Rattle.pj_xparse.proofs.laws.sayings_end_with_runs.Goals as goal

pub returns-clause-led : goal.returns-clause-led
returns-clause-led c = λ tokens a.
    let predictive = c.grammar_is_predictive.ensures in
    lemma.said_by_run c.beginnings_lead.ensures.terminals_led c.beginnings_lead.ensures.terminals_begun c.beginnings_are_read.ensures.read c.beginnings_are_read.ensures.led
    c.depths_are_read.ensures.read c.depths_are_read.ensures.led
    (λ ts ps i. of_xpath predictive (λ g. Derives g ts ps → IsLeftOutAt g ts i → ⊥) (λ facts entries ok. c.derived_is_not_left_out.ensures facts entries ts ps i ok))
    (λ ts b. c.readings_are_whole.ensures ts b predictive)
    (λ ts it. c.runs_say.ensures Whole ts it.sentence.0 it it.sentence.1)
    (λ ts. c.one_end.ensures.at_most xpath_grammar ts greatest_nesting) tokens
    (λ ts. of_xpath predictive (λ g. (end : End) × IsEnd g ts greatest_nesting end) (λ facts entries ok. c.one_end.ensures.some facts entries ts greatest_nesting ok)) a

pub returns-clause-say : goal.returns-clause-say
returns-clause-say c = λ tokens.
    let predictive = c.grammar_is_predictive.ensures in
    lemma.run_says c.beginnings_lead.ensures.terminals_led c.beginnings_lead.ensures.terminals_begun c.beginnings_are_read.ensures.read c.beginnings_are_read.ensures.led
    c.depths_are_read.ensures.read c.depths_are_read.ensures.led
    (λ ts ps i. of_xpath predictive (λ g. Derives g ts ps → IsLeftOutAt g ts i → ⊥) (λ facts entries ok. c.derived_is_not_left_out.ensures facts entries ts ps i ok))
    (λ ts b. c.readings_are_whole.ensures ts b predictive)
    (λ ts it. c.runs_say.ensures Whole ts it.sentence.0 it it.sentence.1)
    (λ ts. c.one_end.ensures.at_most xpath_grammar ts greatest_nesting) tokens
