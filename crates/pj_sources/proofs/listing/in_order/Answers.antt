use Rattle.std.proofs.Common.{◌∙◌, subst, nat_eq}
use Rattle.std.specs.Cmp.Lexicographic.{pointwise}
use Rattle.std.specs.Prelude.{List}
use Rattle.std.proofs.lemmas.List.Filters.{dedup_is}
use Rattle.pj_outside.specs.Files.{Bytes}
use Rattle.pj_sources.specs.Listing.{IsInOrder}
use Rattle.pj_sources.proofs.Ordered.{in_order}
use Rattle.pj_sources.proofs.listing.in_order.Goals as goal

pub returns : goal.returns
returns c =
    subst (λ (paths : List Bytes). IsInOrder paths c.from_vec.result) c.into_vec-held.ensures
    (in_order c.into_vec-held.result.items c.sort_unstable.new.self.items c.from_vec.result c.sort_unstable.ensures.permutation c.sort_unstable.ensures.sorted
    (c.from_vec.ensures ∙ dedup_is (pointwise nat_eq) c.sort_unstable.new.self.items c.dedup.new.self.items c.dedup.ensures.filtered))
