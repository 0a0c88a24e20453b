use Rattle.pj_xparse.proofs.Runs.{whole_derivation}
use Rattle.pj_xparse.proofs.laws.readings_are_derivations.Goals as goal

pub returns : goal.returns
returns c = λ tokens a read. whole_derivation tokens (c.readings_are_whole.ensures tokens a c.grammar_is_predictive.ensures read)
