use Rattle.pj_xparse.proofs.Outcomes as lemma
use Rattle.pj_xparse.proofs.laws.outcomes_are_read.Goals as goal

pub returns-clause-read : goal.returns-clause-read
returns-clause-read c =
    lemma.outcome_read c.beginnings_are_read.ensures.read c.beginnings_are_read.ensures.begun c.depths_are_read.ensures.read c.depths_are_read.ensures.led
    c.what_is_left_out_is_read.ensures.read c.what_is_left_out_is_read.ensures.led c.derivations_are_readings.ensures c.readings_are_derivations.ensures

pub returns-clause-led : goal.returns-clause-led
returns-clause-led c =
    lemma.outcome_derived c.beginnings_are_read.ensures.read c.beginnings_are_read.ensures.begun c.depths_are_read.ensures.read c.depths_are_read.ensures.led
    c.what_is_left_out_is_read.ensures.read c.what_is_left_out_is_read.ensures.led c.derivations_are_readings.ensures c.readings_are_derivations.ensures
