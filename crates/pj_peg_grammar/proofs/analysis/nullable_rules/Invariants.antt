use Rattle.std.proofs.Common.{◌≡◌, ℕ, length, true}
use Rattle.pj_peg_grammar.specs.Form.{rule}
use Rattle.pj_peg_grammar.specs.WellFormed.{IsNullable}
use Rattle.pj_peg_grammar.specs.Program.{rules_of}
use Rattle.pj_peg_grammar.specs.Analysis.{is_set, unset}
use Rattle.pj_peg_grammar.proofs.analysis.nullable_rules.Given as goal

abbrev pub invariant-loop-empty : goal.invariant-loop-empty
invariant-loop-empty l = record {
  count : length l.empty.items ≡ length l.program.roots.items;
  sound : (r : ℕ) → is_set l.empty.items r ≡ true → IsNullable (rules_of l.program) (rule r);
}

abbrev pub decreases-loop-empty : goal.decreases-loop-empty
decreases-loop-empty l = unset l.empty.items
