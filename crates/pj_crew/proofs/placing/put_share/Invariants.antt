use Rattle.std.proofs.Common.{◌≡◌, length}
use Rattle.pj_crew.specs.Placing.{AreBelow, put_all}
use Rattle.pj_crew.proofs.placing.put_share.Given as goal

abbrev pub invariant-loop-file : goal.invariant-loop-file
invariant-loop-file g l = record {
  value : put_all l.places l.file-iterator.rest.items ≡ put_all l.initial.places l.fn.share.results.items;
  below : AreBelow (length l.places) l.file-iterator.rest.items;
}
