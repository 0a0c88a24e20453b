use Rattle.pj_real.specs.Below.{AreBelow, FoldersAreBelow}
use Rattle.pj_real.proofs.tree.list_at.Given as goal

abbrev pub invariant-loop : goal.invariant-loop
invariant-loop g l = record {
  paths : AreBelow l.at l.paths;
  folders : FoldersAreBelow l.at l.folders.items;
}
