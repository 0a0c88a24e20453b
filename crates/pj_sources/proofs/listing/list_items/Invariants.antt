use Rattle.std.proofs.Common.{◌≡◌, take, IfSome}
use Rattle.pj_sources.specs.Listing.{AreSourcesOf, IsUnordered}
use Rattle.pj_sources.proofs.listing.list_items.Given as goal

abbrev pub invariant-loop-item : goal.invariant-loop-item
invariant-loop-item g l = record {
  same_files : g.T.Tree.holds l.tree ≡ g.T.Tree.holds l.fn.tree;
  same_faults : g.T.Tree.faults l.tree ≡ g.T.Tree.faults l.fn.tree;
  steady : g.T.Tree.never_fails l.fn.tree → g.T.Tree.never_fails l.tree;
  listed : IfSome (g.T.Tree.holds l.fn.tree) (λ files. IsUnordered files (take l.item-index l.item-items) l.sources);
  paths : AreSourcesOf l.items l.sources.paths;
}
