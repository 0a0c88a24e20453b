-- The order of the results of an entry by bytes alone, whatever the other entries of a cache are.
use Rattle.std.specs.Prelude.{◌≡◌, ◌<◌, Bool, true, ◌&&◌, List, [], length, map}
use Rattle.std.specs.List.{All, IsDistinct}
use Rattle.std.specs.List.Sorted.{IsStrictlySortedBy}
use Rattle.std.specs.Str.{is_utf8}
use Rattle.pj_names.specs.ClassName.{Name, is_class_name}
use Rattle.pj_reports.specs.declared.ruled.Head.{Head}
use Rattle.pj_reports.specs.declared.ruled.Head.TheVariants as heads
use Rattle.pj_cache.specs.Places.{byte_order, member_at}
use Rattle.pj_cache.specs.declared.cache.KeyRows.{KeyRows}
use Rattle.pj_cache.specs.declared.cache.CachedResult.{CachedResult}
use Rattle.pj_cache_format.specs.Ordered.{AreRowsInOrder}
use Rattle.pj_reuse.specs.Serving.{has_one, keys_of}
use Rattle.pj_fitting.specs.Right.{Key}

-- the first key of a result
abbrev pub first_key : CachedResult → Key
first_key r = member_at (keys_of r) 0

-- A result stands by bytes: it has a key, its keys and its names ascend, the names are those of classes, and the nodes of its rows ascend.
pub record IsByBytes (r : CachedResult) : Type 0 where
  pub some : 0 < length (keys_of r)
  pub keys : IsStrictlySortedBy byte_order (keys_of r)
  pub names : IsStrictlySortedBy byte_order r.names
  pub classes : All (λ (name : Name). (is_utf8 name && is_class_name name) ≡ true) r.names
  pub rows : All (λ (k : KeyRows). AreRowsInOrder k.rows) r.group

-- whether two results have a key that is one
abbrev pub shares_key : CachedResult → CachedResult → Bool
shares_key a b = has_one (keys_of b) a

-- Results stand by bytes: each does, their first keys ascend, and no two of them share a key.
pub record AreByBytes (results : List CachedResult) : Type 0 where
  pub each : All IsByBytes results
  pub first : IsStrictlySortedBy byte_order (map first_key results)
  pub once : IsDistinct shares_key results

-- the results of a file with a head: none where it has no tree
abbrev pub AreByBytesAt : Head → List CachedResult → Type 0
AreByBytesAt (heads.Package name) results = AreByBytes results
AreByBytesAt (heads.Message message) results = results ≡ []
