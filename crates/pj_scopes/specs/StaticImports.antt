-- Static imports (JLS 7.5.3, 7.5.4): the classes whose static members they import, and those that may import a name.
use Rattle.std.specs.Prelude.{ℕ, ◌&&◌, Bool, false, List, [], ◌++◌, Option, codes, filter}
use Rattle.std.specs.Option.{option_map_or}
use Rattle.pj_tree.specs.Tree.{Tree, children_of}
use Rattle.pj_tree.specs.declared.kind.Kind.TheVariants as k
use Rattle.pj_tree.specs.declared.node.Node.{Node}
use Rattle.pj_tree.specs.Kinds.{is_kind}
use Rattle.pj_tree.specs.Words.{words_of, has}
use Rattle.pj_declared.specs.declared.imports.ImportSort.TheVariants.{Static}
use Rattle.pj_declared.specs.Imports.{imported_name, is_single}
use Rattle.pj_written.specs.Names.{around_last_dot}
use Rattle.pj_written.specs.Words.{same_text}
use Rattle.pj_outer_names.specs.Imports.{imported_text, is_import_on_demand}

-- the class whose static members are imported: what stands before the last dot, behind which the name of one of them stands, or `*`
abbrev pub imported_class : Tree → Node → List ℕ
imported_class t import = option_map_or (λ parts. parts.0) (around_last_dot (imported_text t import)) []

abbrev pub is_named : List ℕ → Option (List ℕ) → Bool
is_named name last = option_map_or (λ word. same_text word name) last false

-- whether a node imports the static members of this one name
abbrev pub imports_name : Tree → List ℕ → Node → Bool
imports_name t name n = is_kind t k.ImportDeclaration n && (is_single t Static n && is_named name (imported_name t n))

-- whether a node imports all static members of a class
abbrev pub imports_all : Tree → Node → Bool
imports_all t n = is_import_on_demand t n && has (codes "static") (words_of t n)

-- Those of the name go before those on demand (JLS 6.4.1), each in the order of the text.
abbrev pub static_imports : Tree → List ℕ → List Node
static_imports t name = filter (imports_name t name) (children_of t (record { 0 = 0 })) ++ filter (imports_all t) (children_of t (record { 0 = 0 }))
