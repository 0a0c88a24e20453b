use Rattle.std.proofs.Common.{rules, List, map, sym, subst}
use Rattle.std.specs.List.{IsDistinct}
use Rattle.std.specs.List.Sorted.{IsPermutation, IsStrictlySortedBy}
use Rattle.std.specs.Cmp.Lexicographic.{nat_list_cmp_total}
use Rattle.std.proofs.lemmas.Fn.{always_returns_same}
use Rattle.std.proofs.lemmas.List.Sorted.{ranks_by}
use Rattle.pj_cache.specs.Places.{byte_order}
use Rattle.pj_cache.specs.declared.cache.CachedResult.{CachedResult}
use Rattle.pj_left_cache.specs.Bytes.{first_key}
use Rattle.pj_left_cache.specs.Missing.{is_same_key}
use Rattle.pj_left_cache.proofs.OrderLaws.{ascending, is_before}
use Rattle.pj_left_cache.proofs.ordering.by_first_key.Goals as goal

pub returns-clause-members : goal.returns-clause-members
returns-clause-members c =
    subst (λ (l : List CachedResult). IsPermutation c.args.results l) (sym c.from_vec.ensures)
    (subst (λ (l : List CachedResult). IsPermutation l c.sort_unstable_by.new.self.items) c.into_vec-held.ensures c.sort_unstable_by.ensures.permutation)

pub returns-clause-ascending : goal.returns-clause-ascending
returns-clause-ascending c = λ once.
    let up = c.sort_unstable_by.ensures.sorted (is_before first_key) (ranks_by nat_list_cmp_total first_key) (always_returns_same _ _ _ (λ a r q k. search rules)) in
    let here = subst (λ (l : List CachedResult). IsDistinct is_same_key (map first_key l)) (sym c.into_vec-held.ensures) once in
    subst (λ (l : List CachedResult). IsStrictlySortedBy byte_order (map first_key l)) (sym c.from_vec.ensures)
    (ascending first_key c.into_vec-held.result.items c.sort_unstable_by.new.self.items c.sort_unstable_by.ensures.permutation up here)
