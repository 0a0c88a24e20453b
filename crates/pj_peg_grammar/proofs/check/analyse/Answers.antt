use Rattle.std.proofs.Common.{◌∙◌, ap, length}
use Rattle.std.proofs.lemmas.List.{length-map}
use Rattle.pj_peg_grammar.specs.Analysis.{facts_by, is_set}
use Rattle.pj_peg_grammar.specs.Program.{forms_in}
use Rattle.pj_peg_grammar.proofs.Nodes.{length-forms_in}
use Rattle.pj_peg_grammar.proofs.check.analyse.Goals as goal

pub calls-requires-clause-facts : goal.calls-requires-clause-facts
calls-requires-clause-facts c =
    ap length (c.deref-2.ensures.value ∙ c.in_ok-facts.ensures)
    ∙ length-map (forms_in c.in_ok-program.program.nodes.items) (facts_by (is_set c.deref.result.now) (length c.deref.result.now))
    ∙ length-forms_in c.in_ok-program.program.nodes.items
