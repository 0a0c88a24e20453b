use Rattle.std.proofs.Common.{rules, ◌<◌, length, arith}
use Rattle.pj_types.proofs.Steps.{after_last-class}
use Rattle.pj_types.proofs.walk.after_last.Goals as goal

pub returns : goal.returns
returns g c =
    let h : 0 < length c.args.given.now = grind arith in
    let last = after_last-class c.args.given.now c.index-given-given.result h (search rules) in
    rw last c.direct_supertypes.ensures
