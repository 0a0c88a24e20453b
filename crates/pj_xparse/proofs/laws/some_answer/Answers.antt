use Rattle.pj_xparse.proofs.SomeAnswer as lemma
use Rattle.pj_xparse.proofs.laws.some_answer.Goals as goal

pub returns : goal.returns
returns c =
    lemma.some_answer
    (λ tokens. let (productions, run) = c.one_run.ensures.some tokens in c.runs_say.ensures tokens productions run)
    c.each_text_has_tokens.ensures
    (λ tokens. let (end, is) = c.one_outcome.ensures.some tokens in (end, c.outcomes_are_read.ensures.read tokens end is))
