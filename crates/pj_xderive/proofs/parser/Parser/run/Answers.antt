use Rattle.std.proofs.Common.{sym, ap, subst, ◌∙◌, IfOk}
use Rattle.pj_ll.specs.Grammar.{entries_of, grammar_of}
use Rattle.pj_ll.specs.Predictive.{IsPredictive}
use Rattle.pj_ll.specs.Outcome as ll
use Rattle.pj_ll.specs.Steps.{ArePlaced, productions_in}
use Rattle.pj_xderive.specs.declared.table.TheConstants.{PIECES}
use Rattle.pj_xderive.proofs.RuleFacts.{xpath_facts}
use Rattle.pj_xderive.proofs.SameTable.{test_is, table_is}
use Rattle.pj_xderive.proofs.parser.Parser.run.Goals as goal

pub parse-requires : goal.parse-requires
parse-requires c =
    let is_predictive = c.tested_tables_are_predictive.ensures xpath_facts (entries_of PIECES) test_is in
    (subst (IsPredictive xpath_facts) (sym c.self.invariant) is_predictive, c.requires.few)

pub returns-clause-ends : goal.returns-clause-ends
returns-clause-ends c =
    subst (λ g. IfOk c.parse.result (λ run. ll.IsEnd g c.args.terminals.now 200 run.end)) (ap grammar_of c.self.invariant ∙ table_is) c.parse.ensures.ends

pub returns-clause-leads : goal.returns-clause-leads
returns-clause-leads c =
    subst (λ g. IfOk c.parse.result (λ run. ll.LeadTo g c.args.terminals.now (productions_in run.steps.items) run.end)) (ap grammar_of c.self.invariant ∙ table_is)
    c.parse.ensures.leads

pub returns-clause-places : goal.returns-clause-places
returns-clause-places c =
    subst (λ g. IfOk c.parse.result (λ run. ArePlaced g c.args.terminals.now run.steps.items)) (ap grammar_of c.self.invariant ∙ table_is) c.parse.ensures.places
