-- The same search as the code makes it: what the file declares is known as a whole, so the classes that stand further in than that are looked at first.
use Rattle.std.specs.Prelude.{ℕ, Option, None, Some, List}
use Rattle.pj_tree.specs.Tree.{Tree}
use Rattle.pj_tree.specs.declared.node.Node.{Node}
use Rattle.pj_names.specs.Asking.{Asking, Return, bind, first_hit}
use Rattle.pj_types.specs.Members.{FoundField}
use Rattle.pj_declared.specs.declared.nearest.Declared.{Declared}
use Rattle.pj_outer_names.specs.Around.{searched}
use Rattle.pj_scopes.specs.StaticImports.{static_imports}
use Rattle.pj_scopes.specs.VariableName.{Meant, DeclaredAt, Inherited, field_around, imported_field, inherited}

-- what the file declares, and else what a static import gives
abbrev pub declared_or : Tree → List ℕ → Option Declared → Asking (Option Meant)
declared_or t name None = inherited (first_hit (imported_field t name) (static_imports t name))
declared_or t name (Some found) = Return (Some (DeclaredAt found.node))

abbrev pub inherited_or : Option FoundField → Asking (Option Meant) → Asking (Option Meant)
inherited_or None rest = rest
inherited_or (Some field) rest = Return (Some (Inherited field))

-- what a class around the place inherits that stands further in than what the file declares, and else that
abbrev pub found_or : Tree → List ℕ → Node → Option Declared → Asking (Option Meant)
found_or t name place found = bind (first_hit (field_around t name) (searched t place found)) (λ hit. inherited_or hit (declared_or t name found))
