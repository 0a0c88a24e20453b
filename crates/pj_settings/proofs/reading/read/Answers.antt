use Rattle.std.proofs.Common.{◌≡◌, rules, true}
use Rattle.pj_settings.specs.Job.{is_check}
use Rattle.pj_settings.proofs.JobFacts.{job-refused}
use Rattle.pj_settings.proofs.reading.read.Goals as goal

pub returns-in-Err : goal.returns-in-Err
returns-in-Err c =
    let check : is_check c.args.words.now ≡ true = search rules in
    job-refused c.args.words.now c.in-Err.refused check c.in-Err.ensures.line
