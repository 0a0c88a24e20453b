use Rattle.std.proofs.Common.{◌≡◌, Some, map, take}
use Rattle.pj_outside.specs.Files.{Files}
use Rattle.pj_rules.specs.Known.{AreRead}
use Rattle.pj_rules.specs.Load.{AreTops}
use Rattle.pj_rules.specs.States.{top_rules}
use Rattle.pj_rules.proofs.top.read_tops.Given as goal

abbrev pub invariant-loop-path : goal.invariant-loop-path
invariant-loop-path g l = record {
  same_files : g.T.Tree.holds l.tree ≡ g.T.Tree.holds l.fn.tree;
  same_faults : g.T.Tree.faults l.tree ≡ g.T.Tree.faults l.fn.tree;
  steady : g.T.Tree.never_fails l.fn.tree → g.T.Tree.never_fails l.tree;
  read : (files : Files) → g.T.Tree.holds l.fn.tree ≡ Some files → AreRead files l.known.read;
  tops : (files : Files) → g.T.Tree.holds l.fn.tree ≡ Some files → AreTops files (take l.path-index l.path-items) (map top_rules l.tops);
}
