use Rattle.std.proofs.Common.{rules, of_calls}
use Rattle.std.proofs.lemmas.Fn.{always_returns_same}
use Rattle.pj_cache.proofs.Places.{is_under, parted, point_place}
use Rattle.pj_cache.proofs.bisection.place_of_name.Goals as goal

pub returns : goal.returns
returns c =
    let list = c.args.answers.now in
    let sought = c.args.name.now in
    let point = c.partition_point.ensures.partitioned (is_under (λ a. a.0) sought) (always_returns_same _ _ _ (λ a r f k. search (rules, of_calls))) (parted (λ a. a.0) list sought c.requires) in
    point_place (λ a. a.0) list sought c.partition_point.result c.requires c.partition_point.ensures.bound point
