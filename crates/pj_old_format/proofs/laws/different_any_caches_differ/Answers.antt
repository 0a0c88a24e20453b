use Rattle.pj_old_format.proofs.Split.{any_from}
use Rattle.pj_old_format.proofs.AnyLaws.{one_text_any}
use Rattle.pj_old_format.proofs.laws.different_any_caches_differ.Goals as goal

pub returns : goal.returns
returns c first second writable other same = one_text_any first second (any_from first writable) (any_from second other) same
