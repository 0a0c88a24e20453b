use Rattle.pj_xparse.proofs.OneAnswer as lemma
use Rattle.pj_xparse.proofs.laws.one_expression.Goals as goal

pub returns : goal.returns
returns c = lemma.one_expression c.tokens_are_one.ensures.one c.one_reading.ensures
