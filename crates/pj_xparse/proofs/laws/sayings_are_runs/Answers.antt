use Rattle.pj_xparse.proofs.laws.sayings_are_runs.Goals as goal

pub returns : goal.returns
returns c = λ tokens a say.
    let (end, ends, reads) = c.sayings_end_with_runs.ensures.led tokens a say in
    let (productions, leads) = c.sayings_are_runs.ensures end tokens a ends reads in
    (productions, record { end = end; ends = ends; leads = leads })
