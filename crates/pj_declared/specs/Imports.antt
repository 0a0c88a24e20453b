-- Imports of one name (JLS 7.5.1, 7.5.3).
use Rattle.std.specs.Prelude.{ℕ, zero, suc, ◌&&◌, Bool, true, false, not, Option, None, Some, if◌then◌else◌, List, [], ◌∷◌, ◌++◌, length, codes, nat_eq}
use Rattle.std.specs.Option.{option_map, option_map_or}
use Rattle.std.specs.Cmp.Lexicographic.{pointwise}
use Rattle.pj_tree.specs.Tree.{Tree, kind_of, parent_of}
use Rattle.pj_tree.specs.declared.kind.Kind.{Kind}
use Rattle.pj_tree.specs.declared.kind.Kind.TheVariants as k
use Rattle.pj_tree.specs.declared.node.Node.{Node}
use Rattle.pj_tree.specs.Words.{words_of, has}
use Rattle.pj_declared.specs.declared.scope.Scope.{Scope}
use Rattle.pj_declared.specs.declared.named.Named.{Named}
use Rattle.pj_declared.specs.declared.imports.ImportSort.{ImportSort}
use Rattle.pj_declared.specs.declared.imports.ImportSort.TheVariants.{OfType, Static}
use Rattle.pj_declared.specs.Scope.{scope_of_all, one_scope}
use Rattle.pj_declared.specs.Rows.{named}

-- the name that is imported, which stands before the `;`
abbrev pub last_name : Option (List ℕ) → List (List ℕ) → Option (List ℕ)
last_name before [] = before
last_name before (word ∷ words) = last_name (if pointwise nat_eq word (codes ";") then before else Some word) words

abbrev pub imported_name : Tree → Node → Option (List ℕ)
imported_name t n = last_name None (words_of t n)

-- whether an import of words is of the sort
abbrev pub is_of_sort : ImportSort → List (List ℕ) → Bool
is_of_sort OfType words = not (has (codes "static") words)
is_of_sort Static words = has (codes "static") words

-- an import of one name has no `*`
abbrev pub is_single : Tree → ImportSort → Node → Bool
is_single t sort n = not (has (codes "*") (words_of t n)) && is_of_sort sort (words_of t n)

abbrev pub is_import : Kind → Bool
is_import k.ImportDeclaration = true
is_import other = false

abbrev pub imports_one : Tree → ImportSort → Node → Bool
imports_one t sort n = option_map_or is_import (kind_of t n) false && is_single t sort n

-- what is imported is in scope in the whole file (JLS 6.3)
abbrev pub import_scope : Tree → Node → Option Scope
import_scope t n = option_map (scope_of_all n) (parent_of t n)

abbrev pub imports_at : Tree → ImportSort → Node → List Named
imports_at t sort n = if imports_one t sort n then named (imported_name t n) (one_scope (import_scope t n)) else []

abbrev pub imports_below : Tree → ImportSort → ℕ → List Named
imports_below t sort zero = []
imports_below t sort (suc n) = imports_below t sort n ++ imports_at t sort (record { 0 = n })

abbrev pub imports_of : Tree → ImportSort → List Named
imports_of t sort = imports_below t sort (length t.nodes)
