use Rattle.std.proofs.Common.{◌≡◌, List, [], map, subst, sym}
use Rattle.std.specs.List.Sorted.{IsStrictlySortedBy}
use Rattle.pj_names.specs.ClassName.{Name}
use Rattle.pj_names.specs.declared.answer.Answer.{Answer}
use Rattle.pj_cache.specs.Places.{byte_order}
use Rattle.rows_cache.proofs.caches.is_text.Goals as goal

-- no answers stand in order
none_in_order : (answers : List (Name × Answer)) → answers ≡ [] → IsStrictlySortedBy byte_order (map (λ (a : Name × Answer). a.0) answers)
unfolding IsStrictlySortedBy
none_in_order answers none = subst (λ (some : List (Name × Answer)). IsStrictlySortedBy byte_order (map (λ (a : Name × Answer). a.0) some)) (sym none) tt

pub encode-requires : goal.encode-requires
encode-requires c = none_in_order c.args.cache.now.answers c.requires
