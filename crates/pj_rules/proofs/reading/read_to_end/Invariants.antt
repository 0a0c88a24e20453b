use Rattle.std.proofs.Common.{◌≡◌, Some, List, ℕ}
use Rattle.pj_outside.specs.Files.{Files}
use Rattle.pj_rules.specs.States.{IsStack}
use Rattle.pj_rules.proofs.reading.read_to_end.Given as goal

abbrev pub invariant-loop : goal.invariant-loop
invariant-loop g l = record {
  same_files : g.T.Tree.holds l.tree ≡ g.T.Tree.holds l.fn.tree;
  same_faults : g.T.Tree.faults l.tree ≡ g.T.Tree.faults l.fn.tree;
  steady : g.T.Tree.never_fails l.fn.tree → g.T.Tree.never_fails l.tree;
  stands : (files : Files) (top : List ℕ) → g.T.Tree.holds l.fn.tree ≡ Some files → IsStack files top l.fn.known l.fn.stack → IsStack files top l.known l.stack;
}
