-- The types that a declaration writes, each resolved at its own place.
use Rattle.std.specs.Prelude.{ℕ, Option, None, Some, List, []}
use Rattle.pj_tree.specs.Tree.{Tree}
use Rattle.pj_tree.specs.declared.node.Node.{Node}
use Rattle.pj_tree.specs.Words.{words_of, first_of}
use Rattle.pj_names.specs.JavaType.{JavaType, Unknown}
use Rattle.pj_names.specs.Asking.{Asking, Return, bind, each}
use Rattle.pj_written.specs.Headers.{bounds_of, parameters_of}
use Rattle.pj_written.specs.Spelling.{Parameter}
use Rattle.pj_written.specs.Words.{type_child}
use Rattle.pj_type_names.specs.TypeName.{written_bound, written_type}

-- ---- type parameters (JLS 8.1.2, 8.4.4), where the headers of some classes are being resolved

-- a type parameter by its bounds
abbrev pub parameter_with : Tree → Node → List JavaType → Parameter
parameter_with t n bounds = record { name = first_of (words_of t n); bounds = bounds }

-- a type parameter with each of its bounds
unfoldable pub parameter_of : Tree → List ℕ → Node → Asking Parameter
parameter_of t busy n = bind (each (written_bound t busy) (bounds_of t n)) (λ bounds. Return (parameter_with t n bounds))

-- those of a class, a method or a constructor
abbrev pub type_parameters : Tree → List ℕ → Node → Asking (List Parameter)
type_parameters t busy n = each (parameter_of t busy) (parameters_of t n)

-- ---- the types of members, where no header is being resolved

-- with so many brackets behind the name that it is the type of (JLS 8.3, 8.4, 10.2)
abbrev pub type_or_unknown : Tree → ℕ → Option Node → Asking JavaType
type_or_unknown t behind None = Return Unknown
type_or_unknown t behind (Some n) = written_type t [] behind n

-- the type that the declaration of a field, a method or a parameter writes
unfoldable pub declared_type : Tree → ℕ → Node → Asking JavaType
declared_type t behind n = type_or_unknown t behind (type_child t n)
