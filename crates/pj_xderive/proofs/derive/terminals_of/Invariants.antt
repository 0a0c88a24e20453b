use Rattle.std.proofs.Common.{◌≡◌, ◌++◌, map, length}
use Rattle.pj_xtokens.specs.Answer.{lexed_of}
use Rattle.pj_xgrammar.specs.Terminals.{numbers}
use Rattle.pj_xderive.proofs.derive.terminals_of.Given as goal

abbrev pub invariant-loop-rest : goal.invariant-loop-rest
invariant-loop-rest l = l.found.items ++ numbers (map lexed_of l.rest) ≡ numbers (map lexed_of l.fn.tokens)

abbrev pub decreases-loop-rest : goal.decreases-loop-rest
decreases-loop-rest l = length l.rest
