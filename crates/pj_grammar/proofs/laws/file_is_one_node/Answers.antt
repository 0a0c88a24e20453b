use Rattle.std.proofs.Common.{refl}
use Rattle.pj_grammar.proofs.Numbers.{file_makes_node}
use Rattle.pj_grammar.proofs.laws.file_is_one_node.Goals as goal

pub returns : goal.returns
returns c = record { file = refl; node = file_makes_node }
