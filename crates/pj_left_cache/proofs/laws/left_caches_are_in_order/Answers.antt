use Rattle.std.proofs.lemmas.List.Elements.{recursion_from_All}
use Rattle.pj_names.specs.ClassName.{Name}
use Rattle.pj_cache.specs.declared.cache.Entry.{Entry}
use Rattle.pj_cache_format.specs.FormatTwo.{names_of}
use Rattle.pj_cache_format.specs.Ordered.{HasItsName}
use Rattle.pj_left_cache.specs.Bytes.{AreByBytesAt}
use Rattle.pj_left_cache.proofs.ToOrder.{in_order}
use Rattle.pj_left_cache.proofs.laws.left_caches_are_in_order.Goals as goal

pub returns : goal.returns
returns c world entries named paths by =
    in_order world entries (recursion_from_All (λ (n : Name). HasItsName n (world n)) (names_of entries) named) paths (recursion_from_All (λ (e : Entry). AreByBytesAt e.head e.results) entries by)
