use Rattle.std.proofs.Common.{◌∙◌, sym}
use Rattle.pj_peg_grammar.proofs.Marking.{get_in}
use Rattle.pj_peg_grammar.proofs.graph.are_placed.Goals as goal

pub returns-then-not-has : goal.returns-then-not-has
returns-then-not-has c = (
  λ t. absurd (let z = t in cc),
  λ all. sym c.if-not-has.true ∙ c.has.ensures ∙ all _ (get_in c.args.calls.now c.loop-rule.rule-index c.loop-rule-test.true),
)
