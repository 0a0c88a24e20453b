use Rattle.pj_ll.specs.Grammar.{entries_of}
use Rattle.pj_xderive.specs.declared.table.TheConstants.{PIECES}
use Rattle.pj_xderive.proofs.RuleFacts.{xpath_facts}
use Rattle.pj_xderive.proofs.SameTable.{test_is, table_is}
use Rattle.pj_xderive.proofs.laws.grammar_is_predictive.Goals as goal

pub returns : goal.returns
returns c = (xpath_facts, (entries_of PIECES, table_is, c.tested_tables_are_predictive.ensures xpath_facts (entries_of PIECES) test_is))
