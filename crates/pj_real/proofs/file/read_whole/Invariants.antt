use Rattle.std.proofs.Common.{◌≤◌, length}
use Rattle.pj_real.proofs.file.read_whole.Given as goal

abbrev pub invariant-pieces : goal.invariant-pieces
invariant-pieces g l = length l.bytes.items ≤ l.most
