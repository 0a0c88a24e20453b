use Rattle.pj_types.proofs.SubstitutionLaws.{erased-again, substituted-none}
use Rattle.pj_types.proofs.laws.erasure_is_done_once.Goals as goal

pub returns : goal.returns
returns c = record { erasure = λ ty. erased-again ty; nothing_bound = λ ty. substituted-none ty }
