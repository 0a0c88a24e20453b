-- The names that a file declares, with their scopes.
use Rattle.std.specs.Prelude.{ℕ, zero, suc, Bool, true, false, Option, None, Some, if◌then◌else◌, List, [], ◌∷◌, ◌++◌, length}
use Rattle.std.specs.Option.{option_map_or}
use Rattle.pj_tree.specs.Tree.{Tree, kind_of}
use Rattle.pj_tree.specs.declared.kind.Kind.{Kind}
use Rattle.pj_tree.specs.declared.kind.Kind.TheVariants as k
use Rattle.pj_tree.specs.declared.node.Node.{Node}
use Rattle.pj_tree.specs.Words.{words_of}
use Rattle.pj_symbols.specs.Kinds.{declares_class}
use Rattle.pj_symbols.specs.Symbols.{names_variable}
use Rattle.pj_declared.specs.declared.scope.Scope.{Scope}
use Rattle.pj_declared.specs.declared.scope.Scopes.{Scopes}
use Rattle.pj_declared.specs.declared.named.Named.{Named}
use Rattle.pj_declared.specs.VariableScopes.{variable_scopes}
use Rattle.pj_declared.specs.TypeScopes.{type_parameter_scope, declared_scopes, own_scopes}
use Rattle.pj_declared.specs.Scope.{one_scope}

-- ---- names, by the own tokens of a node

abbrev pub first_word : List (List ℕ) → Option (List ℕ)
first_word [] = None
first_word (word ∷ words) = Some word

abbrev pub last_word : Option (List ℕ) → List (List ℕ) → Option (List ℕ)
last_word before [] = before
last_word before (word ∷ words) = last_word (Some word) words

-- the name of a variable or of a type parameter, which stands first
abbrev pub name_first : Tree → Node → Option (List ℕ)
name_first t n = first_word (words_of t n)

-- the name of a class, which stands last; an anonymous class has none
abbrev pub name_last : Tree → Node → Option (List ℕ)
name_last t n = last_word None (words_of t n)

-- ---- what a node declares

abbrev pub in_scope : List ℕ → Option Scope → List Named
in_scope name None = []
in_scope name (Some scope) = record { name = name; scope = scope } ∷ []

abbrev pub in_scopes : Scopes → List ℕ → List Named
in_scopes scopes name = in_scope name scopes.first ++ in_scope name scopes.second

abbrev pub named : Option (List ℕ) → Scopes → List Named
named name scopes = option_map_or (in_scopes scopes) name []

abbrev pub variables_at : Tree → Node → List Named
variables_at t n = if names_variable t n then named (name_first t n) (variable_scopes t n) else []

abbrev pub is_type_parameter : Kind → Bool
is_type_parameter k.TypeParameter = true
is_type_parameter other = false

abbrev pub names_type_parameter : Tree → Node → Bool
names_type_parameter t n = option_map_or is_type_parameter (kind_of t n) false

abbrev pub type_parameters_at : Tree → Node → List Named
type_parameters_at t n = if names_type_parameter t n then named (name_first t n) (one_scope (type_parameter_scope t n)) else []

abbrev pub classes_at : Tree → Node → List Named
classes_at t n = if declares_class t n then named (name_last t n) (own_scopes t n) ++ named (name_last t n) (declared_scopes t n) else []

abbrev pub types_at : Tree → Node → List Named
types_at t n = type_parameters_at t n ++ classes_at t n

-- ---- what the file declares, in the order of the nodes

abbrev pub variables_below : Tree → ℕ → List Named
variables_below t zero = []
variables_below t (suc n) = variables_below t n ++ variables_at t (record { 0 = n })

abbrev pub types_below : Tree → ℕ → List Named
types_below t zero = []
types_below t (suc n) = types_below t n ++ types_at t (record { 0 = n })

abbrev pub variables_of : Tree → List Named
variables_of t = variables_below t (length t.nodes)

abbrev pub types_of : Tree → List Named
types_of t = types_below t (length t.nodes)
