use Rattle.std.proofs.Common.{◌≡◌}
use Rattle.pj_cache.specs.declared.cache.Stored.{Stored}
use Rattle.pj_cache.specs.declared.cache.Stored.TheVariants as formats
use Rattle.pj_old_format.proofs.Split.{old_whole_from}
use Rattle.pj_old_format.proofs.AnyLaws.{one_text_any}
use Rattle.pj_old_format.proofs.laws.different_old_caches_differ.Goals as goal

pub returns : goal.returns
returns c first second order fits other_order other_fits same =
    let one : Stored = formats.One first in
    let other : Stored = formats.One second in
    let both : one ≡ other = one_text_any one other (old_whole_from first order fits) (old_whole_from second other_order other_fits) same in cc
