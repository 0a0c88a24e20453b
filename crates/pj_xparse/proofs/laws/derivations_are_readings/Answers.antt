use Rattle.pj_ll.specs.declared.parser.End.TheVariants.{Whole}
use Rattle.pj_xparse.proofs.Runs.{whole_run}
use Rattle.pj_xparse.proofs.laws.derivations_are_readings.Goals as goal

pub returns : goal.returns
returns c = λ tokens productions derived clear. c.runs_say.ensures Whole tokens productions (whole_run tokens productions derived clear) derived
