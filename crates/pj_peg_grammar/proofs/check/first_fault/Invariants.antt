use Rattle.pj_peg_grammar.specs.Form.{forms_of}
use Rattle.pj_peg_grammar.specs.WellFormed.{HaveNoFaultBelow}
use Rattle.pj_peg_grammar.proofs.check.first_fault.Given as goal

abbrev pub invariant-loop-rule : goal.invariant-loop-rule
invariant-loop-rule l = HaveNoFaultBelow (forms_of l.rules) l.rule
