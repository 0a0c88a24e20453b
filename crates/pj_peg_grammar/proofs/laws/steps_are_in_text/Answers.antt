use Rattle.std.proofs.Common.{◌≤◌, length, sym, subst, arith}
use Rattle.std.specs.Prelude.{All}
use Rattle.pj_peg_grammar.specs.declared.derivation.Step.{Step}
use Rattle.pj_peg_grammar.proofs.Placed.{placed, placed_steps}
use Rattle.pj_peg_grammar.proofs.laws.steps_are_in_text.Goals as goal

pub returns : goal.returns
returns c = record {
  steps_are_in_text = λ rules kinds steps (j, d, x, is).
      subst (All (λ (s : Step). (s.from ≤ s.to) × (s.to ≤ length kinds))) (sym is) (placed_steps (length kinds) 0 d (placed rules kinds x (omega arith)));
}
