-- The table of the code is the grammar, and passes the test of predictive tables.
use Rattle.std.proofs.Common.{◌≡◌, ◌≤◌, ◌^◌, true, length, refl, arith}
use Rattle.pj_ll.specs.Grammar.{entries_of, grammar_of}
use Rattle.pj_ll.specs.Test.{predictive_by}
use Rattle.pj_xderive.specs.declared.table.TheConstants.{PIECES}
use Rattle.pj_xgrammar.specs.XPath.{xpath, rules, xpath_grammar}
use Rattle.pj_xderive.proofs.RuleFacts.{xpath_facts}

pub table_is : grammar_of (entries_of PIECES) ≡ xpath_grammar
unfolding xpath rules xpath_grammar
table_is = refl

count : length (entries_of PIECES) ≡ 159
count = refl

pub few_entries : length (entries_of PIECES) ≤ 2 ^ 16
few_entries = let n = count in omega arith

pub test_is : predictive_by xpath_facts (entries_of PIECES) ≡ true
unfolding xpath_facts
test_is = refl
