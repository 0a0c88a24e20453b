-- The annotations of a declaration (JLS 9.7), and the classes that they name.
use Rattle.std.specs.Prelude.{ℕ, Bool, List, Option, Some, None, is_some, if◌then◌else◌}
use Rattle.pj_tree.specs.Tree.{Tree}
use Rattle.pj_tree.specs.Kinds.{is_kind}
use Rattle.pj_tree.specs.declared.kind.Kind.TheVariants as k
use Rattle.pj_tree.specs.declared.node.Node.{Node}
use Rattle.pj_names.specs.JavaType.{JavaType}
use Rattle.pj_names.specs.Asking.{Asking, Return, bind, first_hit}
use Rattle.pj_written.specs.Words.{below_child}
use Rattle.pj_file_oracle.specs.Types.{declared_type}
use Rattle.pj_type_tests.specs.Names.{is_class_called}

-- The type that an annotation names (JLS 9.7.1), resolved at its own place (JLS 6.5.5). It writes just one, as the declaration of a variable does.
abbrev pub annotation_type : Tree → Node → Asking JavaType
annotation_type t n = declared_type t 0 n

-- the annotation itself, where the text is a name of its class
abbrev pub called : List ℕ → Node → JavaType → Option Node
called text n ty = if is_class_called text ty then Some n else None

-- A part of a ModifierList: it is a hit where it is an annotation whose class has the name. A part that is no annotation asks nothing.
abbrev pub annotation_called : Tree → List ℕ → Node → Asking (Option Node)
annotation_called t text n =
    if is_kind t k.Annotation n then bind (annotation_type t n) (λ ty. Return (called text n ty)) else Return None

-- The first annotation of a declaration whose class has the name; behind it nothing more is asked. A node without a ModifierList has no annotations.
abbrev pub first_annotation : Tree → Node → List ℕ → Asking (Option Node)
first_annotation t n text = first_hit (annotation_called t text) (below_child t n k.ModifierList)

-- whether a declaration has an annotation of the class of the name
abbrev pub has_annotation : Tree → Node → List ℕ → Asking Bool
has_annotation t n text = bind (first_annotation t n text) (λ hit. Return (is_some hit))
