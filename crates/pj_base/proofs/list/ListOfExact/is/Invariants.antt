use Rattle.std.proofs.Common.{◌≡◌, take}
use Rattle.pj_base.proofs.list.ListOfExact.is.Given as goal

abbrev pub invariant-loop-i : goal.invariant-loop-i
invariant-loop-i g l = take l.i l.self ≡ take l.i l.other
