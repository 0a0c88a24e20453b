-- Types as they are written (JLS 4.3, 4.5, 4.5.1, 6.5.5, 10.1, 10.2), by what a simple name means at a place and what a class has as member classes.
use Rattle.std.specs.Prelude.{ℕ, zero, suc, ◌≡◌, ◌+◌, ◌≤◌, true, Option, Some, if◌then◌else◌, List, [], ◌∷◌, map, codes}
use Rattle.std.specs.Option.{option_map_or}
use Rattle.pj_tree.specs.Tree.{Tree, kind_of}
use Rattle.pj_tree.specs.declared.kind.Kind.{Kind}
use Rattle.pj_tree.specs.declared.kind.Kind.TheVariants as k
use Rattle.pj_tree.specs.declared.node.Node.{Node}
use Rattle.pj_tree.specs.Kinds.{is_kind}
use Rattle.pj_tree.specs.Words.{words_of, has}
use Rattle.pj_names.specs.ClassName.{Name}
use Rattle.pj_names.specs.JavaType.{JavaType, Arguments, Void, Class, Unknown}
use Rattle.pj_names.specs.Asking.{Asking, Return, bind, each}
use Rattle.pj_signatures.specs.Types.{arguments_of}
use Rattle.pj_symbols.specs.declared.class.Class.{Class as DeclaredClass}
use Rattle.pj_written.specs.declared.written.Written.{Written}
use Rattle.pj_written.specs.Words.{below_child, last_child}
use Rattle.pj_written.specs.Names.{with_dots}
use Rattle.pj_written.specs.Types.{arrays, as_argument, object_type, primitive_of}
use Rattle.pj_written.specs.Written.{written_name}
use Rattle.pj_written.specs.Fits.{bare, brackets, fits, most_signs}
use Rattle.pj_outer_names.specs.Candidates.{as_type, dotted_class}

-- the class of a name with a package, by its candidates (JLS 6.5.5.2): its parts are no classes in scope
abbrev pub packaged : List DeclaredClass → List (List ℕ) → Asking JavaType
packaged classes parts = bind (dotted_class classes (with_dots parts)) (λ found. Return (as_type found))

-- the arguments of a list, from left to right
abbrev pub arguments_by : (Node → Asking JavaType) → List Node → Asking Arguments
arguments_by argument list = bind (each argument list) (λ types. Return (arguments_of (map as_argument types)))

-- a class with its arguments: where the class is not known, or is a type variable, they are not resolved
abbrev pub with_arguments : (Node → Asking JavaType) → List Node → JavaType → Asking JavaType
with_arguments argument list (Class name none) = bind (arguments_by argument list) (λ arguments. Return (Class name arguments))
with_arguments argument list other = Return other

-- Resolving, by the meaning of a simple name at a place, the member class of a class, and the classes of the file.
module _ (t : Tree) (classes : List DeclaredClass) (simple : Node → List ℕ → Asking JavaType) (member : Name → List ℕ → Asking JavaType) where
  -- the member class of a type: of an unknown type and of a type variable none is known, and nothing more is asked
  abbrev pub member_of : JavaType → List ℕ → Asking JavaType
  member_of (Class outer arguments) name = member outer name
  member_of other name = Return Unknown

  abbrev pub members_along : JavaType → List (List ℕ) → Asking JavaType
  members_along ty [] = Return ty
  members_along ty (part ∷ more) = bind (member_of ty part) (λ next. members_along next more)

  -- the first part is a simple name, and each further one a member class
  abbrev pub class_along : Node → List (List ℕ) → Asking JavaType
  class_along place [] = Return Unknown
  class_along place (first ∷ more) = bind (simple place first) (λ ty. members_along ty more)

  -- the class of a name, without arguments: with a package it goes by candidates as a whole
  abbrev pub class_of : Written → Asking JavaType
  class_of name = if name.has_package then packaged classes name.parts else class_along name.at name.parts

  abbrev pub class_type : (Node → Asking JavaType) → Node → Asking JavaType
  class_type argument n = bind (class_of (written_name t n)) (λ ty. with_arguments argument (below_child t n k.TypeArguments) ty)

  -- what stands before the brackets, by its kind
  abbrev pub bare_by : (Node → Asking JavaType) → Node → Option Kind → Asking JavaType
  bare_by argument n (Some k.PrimitiveType) = Return (primitive_of (words_of t n))
  bare_by argument n (Some k.VoidType) = Return Void
  bare_by argument n (Some k.ClassType) = class_type argument n
  bare_by argument n other = Return Unknown

  -- a type, by what its type arguments are
  abbrev pub type_by : (Node → Asking JavaType) → Node → Asking JavaType
  type_by argument n = bind (bare_by argument (bare t n) (kind_of t (bare t n))) (λ ty. Return (arrays (brackets t n) ty))

  -- a type argument: `? extends X` is X, and `?` and `? super X` are `java.lang.Object`, where X is not resolved
  abbrev pub argument_by : (Node → Asking JavaType) → Node → Asking JavaType
  argument_by argument n =
      if is_kind t k.WildcardType n
      then (if has (codes "extends") (words_of t n) then option_map_or (type_by argument) (last_child t n) (Return Unknown) else Return object_type)
      else type_by argument n

  -- A type argument with at most so many lists of arguments in one another. This depth is no bound of its own: a type that fits has no more lists.
  abbrev pub argument_within : ℕ → Node → Asking JavaType
  argument_within zero n = Return Unknown
  argument_within (suc deep) n = argument_by (argument_within deep) n

  -- The type that is written in a node, with so many signs of a signature open around it, and so many brackets behind the name that it is the type of (JLS 10.2). A type past the bounds is not known, as a whole.
  abbrev pub type_written : ℕ → ℕ → Node → Asking JavaType
  type_written around behind n =
      if fits t (around + behind) n then bind (type_by (argument_within most_signs) n) (λ ty. Return (arrays behind ty)) else Return Unknown

  -- The number by which lists of arguments in one another are counted is never reached by a type that fits: with a larger one the type is the same, with the same questions.
  abbrev pub ArgumentsEnd : ℕ → Node → Type 0
  ArgumentsEnd around n = fits t around n ≡ true → (more : ℕ) → most_signs ≤ more → type_by (argument_within more) n ≡ type_by (argument_within most_signs) n
