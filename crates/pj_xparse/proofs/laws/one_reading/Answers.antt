use Rattle.pj_ll.specs.declared.parser.End.TheVariants.{Whole}
use Rattle.pj_xparse.proofs.laws.one_reading.Goals as goal

pub returns : goal.returns
returns c = λ tokens a b first second.
    let predictive = c.grammar_is_predictive.ensures in
    c.one_saying.ensures Whole tokens a b predictive (c.readings_are_whole.ensures tokens a predictive first) first second
