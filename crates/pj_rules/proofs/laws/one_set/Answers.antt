use Rattle.std.proofs.Common.{refl}
use Rattle.pj_rules.proofs.OneList.{one_list}
use Rattle.pj_rules.proofs.OneSet.{same_sets}
use Rattle.pj_rules.proofs.laws.one_set.Goals as goal

pub returns : goal.returns
returns c = record {
  list = λ files path a b h k. (one_list files c.one_reading.ensures path path a b h k refl).0;
  set = λ files paths minimum marker a b h k. same_sets files c.one_reading.ensures paths minimum marker a b h k;
}
