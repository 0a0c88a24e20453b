use Rattle.std.proofs.Common.{◌≡◌, None, length, replicate}
use Rattle.pj_crew.specs.Placing.{AreBelow, all_results, put_all}
use Rattle.pj_crew.proofs.placing.by_number.Given as goal

abbrev pub invariant-loop-share : goal.invariant-loop-share
invariant-loop-share g l = record {
  value : put_all l.places.items (all_results l.share-iterator.rest.items) ≡ put_all (replicate l.files None) (all_results l.fn.shares.items);
  below : AreBelow (length l.places.items) (all_results l.share-iterator.rest.items);
}
