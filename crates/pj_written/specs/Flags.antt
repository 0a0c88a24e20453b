-- The access flags of a class of the file and of its members (JVMS 4.1, 4.5, 4.6), by what is written.
use Rattle.std.specs.Prelude.{ℕ, ◌+◌, ◌||◌, Bool, false, not, if◌then◌else◌, List, [], ◌∷◌, codes, filter}
use Rattle.std.specs.List.{list_any}
use Rattle.std.specs.Option.{option_map_or}
use Rattle.pj_tree.specs.Tree.{Tree}
use Rattle.pj_tree.specs.declared.kind.Kind.TheVariants as k
use Rattle.pj_tree.specs.declared.node.Node.{Node}
use Rattle.pj_tree.specs.Children.{child_of}
use Rattle.pj_tree.specs.Kinds.{is_kind}
use Rattle.pj_tree.specs.Words.{words_of, has}
use Rattle.pj_written.specs.Words.{below_child, is_interface, own_brackets, type_child}

-- whether a modifier stands in the list of a declaration
abbrev pub is_written : Tree → Node → List ℕ → Bool
is_written t n word = option_map_or (λ list. has word (words_of t list)) (child_of t n k.ModifierList) false

-- a flag, where it is set
abbrev pub flag_if : Bool → ℕ → ℕ
flag_if set flag = if set then flag else 0

abbrev pub written_flag : Tree → Node → List ℕ → ℕ → ℕ
written_flag t n word flag = flag_if (is_written t n word) flag

-- Of a class. Each flag is counted once: an interface is abstract by its kind, also where the word is written.
abbrev pub class_flags : Tree → Node → ℕ
class_flags t class =
    written_flag t class (codes "public") 1
    + (written_flag t class (codes "final") 16
    + (flag_if (not (is_interface t class)) 32
    + (flag_if (is_interface t class) 512
    + (flag_if (is_interface t class || is_written t class (codes "abstract")) 1024
    + (flag_if (is_kind t k.AnnotationTypeDeclaration class) 8192
    + flag_if (is_kind t k.EnumDeclaration class) 16384)))))

-- those that fields and methods have alike
abbrev pub member_flags : Tree → Node → ℕ
member_flags t n =
    written_flag t n (codes "public") 1
    + (written_flag t n (codes "private") 2
    + (written_flag t n (codes "protected") 4
    + (written_flag t n (codes "static") 8
    + written_flag t n (codes "final") 16)))

abbrev pub field_flags : Tree → Node → ℕ
field_flags t n = member_flags t n + (written_flag t n (codes "volatile") 64 + written_flag t n (codes "transient") 128)

-- an enum constant has this one alone
abbrev pub constant_flags : ℕ
constant_flags = 16384

-- ---- methods

-- the parameters of a method or a constructor; a receiver parameter is none (JLS 8.4)
abbrev pub formal_parameters : Tree → Node → List Node
formal_parameters t n = filter (is_kind t k.FormalParameter) (below_child t n k.FormalParameters)

abbrev pub is_ellipsis : Tree → Node → Bool
is_ellipsis t brackets = has (codes "...") (words_of t brackets)

-- whether the type of a parameter is written with `...` (JLS 8.4.1)
abbrev pub is_variable_arity : Tree → Node → Bool
is_variable_arity t parameter = option_map_or (λ type. list_any (is_ellipsis t) (own_brackets t type)) (type_child t parameter) false

-- of the last of these nodes that is a parameter, and where none is, what is given
abbrev pub last_parameter : Tree → Bool → List Node → Bool
last_parameter t before [] = before
last_parameter t before (n ∷ ns) = last_parameter t (if is_kind t k.FormalParameter n then is_variable_arity t n else before) ns

-- that of the last parameter counts alone
abbrev pub has_variable_arity : Tree → Node → Bool
has_variable_arity t n = last_parameter t false (below_child t n k.FormalParameters)

abbrev pub method_flags : Tree → Node → ℕ
method_flags t n =
    member_flags t n
    + (written_flag t n (codes "synchronized") 32
    + (flag_if (has_variable_arity t n) 128
    + (written_flag t n (codes "native") 256
    + written_flag t n (codes "abstract") 1024)))
