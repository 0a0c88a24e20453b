use Rattle.pj_sources.specs.Listing.{IsSourceOf}
use Rattle.pj_sources.proofs.Ordered.{all_in_order}
use Rattle.pj_sources.proofs.listing.list_sources.Goals as goal

pub returns-clause-paths : goal.returns-clause-paths
returns-clause-paths g c = all_in_order (IsSourceOf c.args.items.now) c.in_ok-paths.field-0.paths c.in_order.result c.in_order.ensures c.in_ok-paths.ensures.paths
