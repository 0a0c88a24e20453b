use Rattle.pj_xparse.proofs.OneAnswer as lemma
use Rattle.pj_xparse.proofs.laws.one_answer.Goals as goal

pub returns-clause-spelled : goal.returns-clause-spelled
returns-clause-spelled c =
    lemma.not_both c.tokens_are_one.ensures.one
    (λ tokens a b x y. c.one_outcome.ensures.at_most tokens a b (c.outcomes_are_read.ensures.led tokens a x) (c.outcomes_are_read.ensures.led tokens b y)) c.one_saying.ensures

pub returns-clause-one_fault : goal.returns-clause-one_fault
returns-clause-one_fault c =
    lemma.one_fault c.tokens_are_one.ensures.one
    (λ tokens a b x y. c.one_outcome.ensures.at_most tokens a b (c.outcomes_are_read.ensures.led tokens a x) (c.outcomes_are_read.ensures.led tokens b y)) c.one_saying.ensures
