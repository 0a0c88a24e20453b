use Rattle.pj_old_format.proofs.Split.{any_from}
use Rattle.pj_old_format.proofs.AnyLaws.{text_any}
use Rattle.pj_old_format.proofs.laws.text_spells_any_cache.Goals as goal

pub returns : goal.returns
returns c stored writable = text_any stored (any_from stored writable)
