use Rattle.std.proofs.Common.{◌≡◌, ℤ, pos, Result, arith, subst}
use Rattle.std.proofs.lemmas.Grind.{common_steps}
use Rattle.pj_xvalue.specs.declared.fault.XCode.{XCode}
use Rattle.pj_xfuncs.proofs.Gathering.{sum-behind}
use Rattle.pj_xfuncs.proofs.numbers.sum_from.Goals as goal

pub returns : goal.returns
returns c = subst (λ (r : Result ℤ XCode). c.loop-z.total ≡ r) (sum-behind (pos 0) c.args.numbers.now) (grind (arith, common_steps))
