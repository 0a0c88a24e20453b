use Rattle.std.proofs.Common.{ap, ◌∙◌}
use Rattle.pj_ll.specs.Grammar.{entries_of, grammar_of}
use Rattle.pj_xderive.proofs.SameTable.{table_is}
use Rattle.pj_xderive.proofs.grammar.productions.Goals as goal

pub returns : goal.returns
returns c = record { grammar = ap (λ l. grammar_of (entries_of l)) c.pieces.ensures.table ∙ table_is }
