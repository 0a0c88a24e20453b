use Rattle.std.proofs.Common.{arith, ◌<◌, ◌+◌, sym}
use Rattle.pj_type_names.proofs.Turns.{fits-not}
use Rattle.pj_type_names.proofs.read.fits_behind.Goals as goal

pub returns-then-behind-gt-MOST_SIGNS : goal.returns-then-behind-gt-MOST_SIGNS
returns-then-behind-gt-MOST_SIGNS c =
    let many : 255 < c.args.around + c.args.behind = omega (arith, c.if-behind-gt-MOST_SIGNS.true) in
    sym (fits-not c.args.tree.now (c.args.around + c.args.behind) c.args.n many)
