use Rattle.std.proofs.Common.{rules, of_calls, List, ℕ, sym, ap, subst, ◌∙◌}
use Rattle.std.specs.List.Sorted.{IsStrictlySortedBy}
use Rattle.std.proofs.lemmas.Fn.{always_returns_same}
use Rattle.pj_cache.specs.Places.{byte_order, place_in}
use Rattle.pj_cache.proofs.Places.{is_under, named_alone, parted, point_place}
use Rattle.pj_cache.proofs.bisection.place_of_key.Goals as goal

pub returns : goal.returns
returns c =
    let list = c.args.keys.now in
    let sought = c.args.key.now in
    let name : List ℕ → List ℕ = λ k. k in
    let sorted = subst (λ (l : List (List ℕ)). IsStrictlySortedBy byte_order l) (sym (named_alone list)) c.requires in
    let point = c.partition_point.ensures.partitioned (is_under name sought) (always_returns_same _ _ _ (λ a r f k. search (rules, of_calls))) (parted name list sought sorted) in
    point_place name list sought c.partition_point.result sorted c.partition_point.ensures.bound point ∙ ap (λ (l : List (List ℕ)). place_in l sought) (named_alone list)
