use Rattle.std.proofs.Common.{◌≡◌, take}
use Rattle.pj_base.proofs.list.ListOfCopied.copied.Given as goal

abbrev pub invariant-loop-member : goal.invariant-loop-member
invariant-loop-member g l = l.copy.items ≡ take l.member-index l.self
