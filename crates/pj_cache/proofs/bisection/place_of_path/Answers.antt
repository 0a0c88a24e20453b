use Rattle.std.proofs.Common.{rules, of_calls}
use Rattle.std.proofs.lemmas.Fn.{always_returns_same}
use Rattle.pj_cache.specs.declared.cache.Entry.{Entry}
use Rattle.pj_cache.proofs.Places.{is_under, parted, point_place}
use Rattle.pj_cache.proofs.bisection.place_of_path.Goals as goal

pub returns : goal.returns
returns c =
    let list = c.args.entries.now in
    let sought = c.args.path.now in
    let point = c.partition_point.ensures.partitioned (is_under (λ (e : Entry). e.path) sought) (always_returns_same _ _ _ (λ a r f k. search (rules, of_calls))) (parted (λ (e : Entry). e.path) list sought c.requires) in
    point_place (λ (e : Entry). e.path) list sought c.partition_point.result c.requires c.partition_point.ensures.bound point
