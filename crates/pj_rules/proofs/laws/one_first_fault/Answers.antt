use Rattle.pj_rules.proofs.OneFault.{one_first_fault}
use Rattle.pj_rules.proofs.laws.one_first_fault.Goals as goal

pub returns : goal.returns
returns c = λ files. one_first_fault files c.one_reading.ensures c.one_fault.ensures c.sound_or_fault.ensures
