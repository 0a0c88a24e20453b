-- Paths of source files.
use Rattle.std.specs.Prelude.{◌-◌, Bool, not, ◌&&◌, ◌||◌, [], ◌∷◌, codes, length, take, nat_lt, nat_eq, if◌then◌else◌}
use Rattle.std.specs.List.{ends_with}
use Rattle.std.specs.Cmp.Lexicographic.{slice_cmp}
use Rattle.std.specs.Ordering.{nat_cmp}
use Rattle.std.specs.declared.cmp.Ordering.{Ordering}
use Rattle.pj_outside.specs.Files.{Bytes, is_same}

-- A Java file is told by the end of its name.
abbrev pub is_java : Bytes → Bool
is_java path = ends_with nat_eq path (codes ".java")

-- the path's last part is that of a module's declaration (JLS 7.7)
abbrev pub is_module_info : Bytes → Bool
is_module_info path = is_same path (codes "module-info.java") || ends_with nat_eq path (codes "/module-info.java")

-- what is analysed: Java files but for declarations of modules
abbrev pub is_source : Bytes → Bool
is_source path = is_java path && not (is_module_info path)

-- an item ends in a solidus, `/` or 47, and is longer than that
abbrev pub has_last_solidus : Bytes → Bool
has_last_solidus item = ends_with nat_eq item (47 ∷ []) && nat_lt 1 (length item)

-- the path under which an item is listed: such an item without its last `/`
abbrev pub path_listed : Bytes → Bytes
path_listed item = if has_last_solidus item then take (length item - 1) item else item

-- the order of paths: that of their bytes
abbrev pub byte_order : Bytes → Bytes → Ordering
byte_order = slice_cmp nat_cmp
