use Rattle.std.proofs.Common.{refl}
use Rattle.pj_xderive.proofs.grammar.pieces.Goals as goal

pub returns : goal.returns
returns c = record { table = refl }
