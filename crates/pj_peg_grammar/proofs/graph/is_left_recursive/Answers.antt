use Rattle.std.proofs.Common.{sym, ◌∙◌}
use Rattle.pj_peg_grammar.proofs.Orders.{placed_moves}
use Rattle.pj_peg_grammar.proofs.graph.is_left_recursive.Goals as goal

pub returns-then-has : goal.returns-then-has
returns-then-has c = (
  λ t. absurd (let z = t in cc),
  λ x. absurd (placed_moves c.args.graph.now c.requires.placing.0 c.args.placed.now c.args.rule c.requires.placing.1 (sym c.has.ensures ∙ c.if-has.true) x),
)
