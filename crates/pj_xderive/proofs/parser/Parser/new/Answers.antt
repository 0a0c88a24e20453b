use Rattle.std.proofs.Common.{ap, ◌∙◌}
use Rattle.pj_ll.specs.Grammar.{entries_of}
use Rattle.pj_xderive.proofs.parser.Parser.new.Goals as goal

pub invariant_of-result : goal.invariant_of-result
invariant_of-result c = c.in_ok-table.ensures.productions ∙ ap entries_of c.pieces.ensures.table
