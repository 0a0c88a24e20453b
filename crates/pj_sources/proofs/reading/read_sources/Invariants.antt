use Rattle.std.proofs.Common.{◌≡◌, take, All, IfSome, Some}
use Rattle.pj_outside.specs.Files.{bytes_at}
use Rattle.pj_sources.specs.Reading.{AreWithin, bytes_together}
use Rattle.pj_sources.proofs.reading.read_sources.Given as goal

abbrev pub invariant-loop-path : goal.invariant-loop-path
invariant-loop-path g l = record {
  same_files : g.T.Tree.holds l.tree ≡ g.T.Tree.holds l.fn.tree;
  same_faults : g.T.Tree.faults l.tree ≡ g.T.Tree.faults l.fn.tree;
  steady : g.T.Tree.never_fails l.fn.tree → g.T.Tree.never_fails l.tree;
  within : AreWithin (take l.path-index l.path-items) l.read;
  counted : l.together ≡ bytes_together l.read;
  held : IfSome (g.T.Tree.holds l.fn.tree) (λ files. All (λ file. bytes_at files file.0 ≡ Some file.1) l.read);
}
