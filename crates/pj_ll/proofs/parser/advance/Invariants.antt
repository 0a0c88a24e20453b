use Rattle.pj_ll.proofs.parser.advance.Given as goal

abbrev pub ghost-expand : goal.ghost-expand
ghost-expand g a = g.facts
