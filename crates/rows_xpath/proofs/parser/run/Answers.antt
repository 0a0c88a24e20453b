use Rattle.std.proofs.Common.{refl, sym, subst}
use Rattle.pj_ll.specs.Grammar.{entries_of}
use Rattle.pj_ll.specs.Predictive.{IsPredictive}
use Rattle.rows_xpath.specs.declared.parser.TheConstants.{SUMS}
use Rattle.rows_xpath.proofs.parser.run.Invariants.{sums_facts}
use Rattle.rows_xpath.proofs.parser.run.Goals as goal

pub parse-requires : goal.parse-requires
parse-requires c = (
  subst (IsPredictive sums_facts) (sym c.in_ok-grammar.ensures.productions) (c.tested_tables_are_predictive.ensures sums_facts (entries_of SUMS) refl),
  c.requires,
)
