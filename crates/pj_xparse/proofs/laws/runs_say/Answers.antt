use Rattle.pj_xparse.proofs.laws.runs_say.Goals as goal

pub returns : goal.returns
returns c = λ tokens productions run.
    let (a, reads) = c.runs_say.ensures run.end tokens productions run.ends run.leads in
    (a, c.sayings_end_with_runs.ensures.say tokens run.end a run.ends reads)
