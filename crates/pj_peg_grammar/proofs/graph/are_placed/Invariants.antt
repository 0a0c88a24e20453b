use Rattle.std.proofs.Common.{◌≡◌, ℕ, ◌⊎◌, drop, true}
use Rattle.pj_peg_grammar.specs.Analysis.{is_set}
use Rattle.pj_peg_grammar.specs.Graph.{IsIn}
use Rattle.pj_peg_grammar.proofs.graph.are_placed.Given as goal

abbrev pub invariant-loop-rule : goal.invariant-loop-rule
invariant-loop-rule l = (s : ℕ) → IsIn l.calls s → IsIn (drop l.rule-index l.calls) s ⊎ (is_set l.placed s ≡ true)
