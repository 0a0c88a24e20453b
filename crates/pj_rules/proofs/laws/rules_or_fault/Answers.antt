use Rattle.pj_rules.proofs.Apart.{tops_apart}
use Rattle.pj_rules.proofs.laws.rules_or_fault.Goals as goal

pub returns : goal.returns
returns c = λ files paths minimum marker rules fault h first.
    tops_apart files c.one_reading.ensures c.sound_or_fault.ensures h.are_tops first.before first.behind first.path fault first.stands first.is_fault
