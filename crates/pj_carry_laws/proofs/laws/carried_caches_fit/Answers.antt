use Rattle.std.proofs.Common.{map}
use Rattle.pj_carry.proofs.Entries.{carried_right}
use Rattle.pj_carry.specs.Carried.{carried}
use Rattle.pj_fitting.proofs.Fits.{right_fits}
use Rattle.pj_carry_laws.proofs.InOrder.{carried_in_order}
use Rattle.pj_carry_laws.proofs.laws.carried_caches_fit.Goals as goal

pub returns : goal.returns
returns g c =
    λ files lists merging old list is_merge ascend order right fits.
    right_fits files (carried old (lists.key list) (map files.key (lists.rules list))) (carried_in_order old (lists.key list) (map files.key (lists.rules list)) order) fits
    (carried_right files lists merging old list is_merge ascend right)
