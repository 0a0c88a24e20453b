use Rattle.pj_xgrammar.proofs.Numbers.{terminals_differ, terminals_end}
use Rattle.pj_xgrammar.proofs.laws.terminals_have_their_numbers.Goals as goal

pub returns : goal.returns
returns c = record { one = terminals_differ; most = terminals_end }
