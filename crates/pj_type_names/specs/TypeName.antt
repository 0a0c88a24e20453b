-- What a name of a type means at a place (JLS 6.3, 6.4.1, 6.5.5, 7.3 to 7.5, 8.5): a type, and the classes that are asked. What a class of the file
-- has as supertypes, by its header (JLS 8.1.4, 8.1.5, 9.1.3).
--
-- A simple name is looked for in five steps, and the first step with a hit counts.
--
-- 1. From the inside out: type parameters, local classes that are declared before, and each class around, which has its type
--    parameters, itself, its member classes, and those that it inherits. What the file declares is told by `type_meant` of `pj_declared` as
--    a whole, with the number of the node that opens the scope. What classes inherit that stand further in than that node goes before it.
--    These are the classes around whose numbers are greater: the node that opens the scope begins at the place or before it, and the numbers
--    between a node and one within it are those of nodes within it; so a class around with a number no greater has that node
--    within it, or is it, and one with a greater number does not.
-- 2. Classes of the file. They too are what `type_meant` tells.
-- 3. to 5. Imports of the name, the package, imports on demand with `java.lang`: `outside` of `pj_outer_names`.
--
-- What a class inherits is found by its header, and a header writes types, whose names are looked for in scopes of the same file, with what
-- further classes inherit. So headers lead to one another, and back. A class whose header is being resolved has no supertypes; which
-- ones these are is a set that grows with each header that is entered within another. So the recursion is over headers alone
-- (`direct`), each of which is entered once within one another, and needs no depth of its own: `enough` is one more than there are
-- classes, and with more nothing is different (`HeadersEnd`). All else here is said by what the direct supertypes of a class are.
--
-- Nothing is held here, and a header within a header is taken anew under the set of the search that needs it.
use Rattle.std.specs.Prelude.{◌≡◌, ℕ, zero, suc, ◌+◌, ◌≤◌, ◌==◌, Bool, false, Option, None, Some, if◌then◌else◌, List, [], ◌∷◌, ◌++◌, length}
use Rattle.std.specs.List.{list_any}
use Rattle.pj_tree.specs.Tree.{Tree}
use Rattle.pj_tree.specs.declared.node.Node.{Node}
use Rattle.pj_names.specs.ClassName.{Name, is_class_name, is_object}
use Rattle.pj_names.specs.JavaType.{JavaType, Class, Variable, Unknown, NoMore}
use Rattle.pj_names.specs.declared.answer.Answer.{Answer}
use Rattle.pj_names.specs.Asking.{Asking, Return, ask, bind, each, first_hit}
use Rattle.pj_names.specs.Expand.{expand}
use Rattle.pj_symbols.specs.declared.class.Class.{Class as DeclaredClass}
use Rattle.pj_declared.specs.declared.nearest.Declared.{Declared}
use Rattle.pj_declared.specs.Nearest.{type_meant}
use Rattle.pj_declared.specs.Rows.{names_type_parameter}
use Rattle.pj_written.specs.Headers.{all_bounds, bounds_of, class_text, implied_supertypes, written_supertypes}
use Rattle.pj_written.specs.Types.{class_of_text, object_type}
use Rattle.pj_written.specs.Written.{name_of_text}
use Rattle.pj_outer_names.specs.Candidates.{file_classes, is_known, node_named}
use Rattle.pj_outer_names.specs.Imports.{outside}
use Rattle.pj_outer_names.specs.Around.{searched}
use Rattle.pj_outer_names.specs.Inherited.{class_names, inherited_member, member_along, outside_supertypes}
use Rattle.pj_type_names.specs.Resolved.{class_of, type_written}

-- ---- a simple name

-- a class that was found, and else what follows
abbrev pub hit_or : Option Name → Asking JavaType → Asking JavaType
hit_or None rest = rest
hit_or (Some name) rest = Return (Class name NoMore)

-- the member class of a class: one that is not there is the class `C$S`, absent
abbrev pub member_found : Name → List ℕ → Option Name → JavaType
member_found class simple None = class_of_text (class ++ 36 ∷ simple)
member_found class simple (Some hit) = Class hit NoMore

-- By what the direct supertypes of a class are.
module _ (t : Tree) (classes : List DeclaredClass) (supers : Name → Asking (List Name)) where
  -- the member class that a class declares or inherits
  abbrev pub member : Name → List ℕ → Asking JavaType
  member class simple = bind (member_along classes supers class simple) (λ hit. Return (member_found class simple hit))

  -- the member class that a class of the file inherits
  abbrev pub inherited : List ℕ → Node → Asking (Option Name)
  inherited simple class = if is_class_name (class_text t class) then inherited_member classes supers (class_text t class) simple else Return None

  -- By what a bound of a type parameter is.
  module _ (bound : Node → Asking JavaType) where
    -- a type parameter is a variable with its first bound, resolved at its own place; without one it is `java.lang.Object`
    abbrev pub variable : List ℕ → List Node → Asking JavaType
    variable simple [] = Return (Variable simple object_type)
    variable simple (first ∷ more) = bind (bound first) (λ ty. Return (Variable simple ty))

    -- a class stands without arguments
    abbrev pub declared_type : List ℕ → Node → Asking JavaType
    declared_type simple n = if names_type_parameter t n then variable simple (bounds_of t n) else Return (class_of_text (class_text t n))

    -- what the file declares, and else what stands behind its scopes
    abbrev pub declared_or : List ℕ → Option Declared → Asking JavaType
    declared_or simple None = outside t classes simple
    declared_or simple (Some declared) = declared_type simple declared.node

    -- what classes further in inherit, and else what the file declares, and else what stands behind its scopes
    abbrev pub found_or : Node → List ℕ → Option Declared → Asking JavaType
    found_or place simple found = bind (first_hit (inherited simple) (searched t place found)) (λ hit. hit_or hit (declared_or simple found))

    -- a text that is no name of a class is not known, and asks nothing
    abbrev pub simple_name : Node → List ℕ → Asking JavaType
    simple_name place simple = if is_class_name simple then found_or place simple (type_meant t simple place) else Return Unknown

  -- A bound, where so many bounds may be entered within one another: a variable within a bound has the bound `java.lang.Object`, and asks nothing. One sign of a signature is open around a bound.
  abbrev pub bound_within : ℕ → Node → Asking JavaType
  bound_within zero n = Return object_type
  bound_within (suc more) n = type_written t classes (simple_name (bound_within more)) member 1 0 n

  -- the bound of a type parameter
  abbrev pub bound_type : Node → Asking JavaType
  bound_type n = bound_within 1 n

  -- a simple name
  abbrev pub name_meant : Node → List ℕ → Asking JavaType
  name_meant place simple = simple_name bound_type place simple

  -- the type that is written in a node, with so many brackets behind the name that it is the type of
  abbrev pub type_in : ℕ → Node → Asking JavaType
  type_in behind n = type_written t classes name_meant member 0 behind n

  -- the name that a text is at a place
  abbrev pub text_in : Node → List ℕ → Asking JavaType
  text_in place text = if is_class_name text then class_of t classes name_meant member (name_of_text place text) else Return Unknown

  -- the bounds that a header writes
  abbrev pub header_bounds : Node → Asking (List JavaType)
  header_bounds class = each bound_type (all_bounds t class)

  -- and the supertypes that it writes
  abbrev pub header_types : Node → Asking (List JavaType)
  header_types class = each (type_in 0) (written_supertypes t class)

  -- the classes that it implies, and behind them those that it writes
  abbrev pub header_names : Node → Asking (List Name)
  header_names class = bind (header_types class) (λ types. Return (implied_supertypes t class ++ class_names types))

  -- the direct supertypes that a header gives: all of it is resolved, its bounds and then its supertypes
  abbrev pub header_supertypes : Node → Asking (List Name)
  header_supertypes class = bind (header_bounds class) (λ bounds. header_names class)

-- ---- headers

-- whether the header of a class is being resolved
abbrev pub is_busy : List ℕ → Node → Bool
is_busy busy n = list_any (λ m. m == n.0) busy

-- By what the direct supertypes of a class are where the headers of some classes are being resolved.
module _ (t : Tree) (classes : List DeclaredClass) (deeper : List ℕ → Name → Asking (List Name)) where
  -- a class whose header is being resolved has none; the header of this one is being resolved from here on
  abbrev pub supertypes_of_file : List ℕ → Node → Asking (List Name)
  supertypes_of_file busy class = if is_busy busy class then Return [] else header_supertypes t classes (deeper (busy ++ class.0 ∷ [])) class

  -- of a class outside the file by its signature, and of one of the file by its header
  abbrev pub supertypes_by : List ℕ → Name → Option Node → Asking (List Name)
  supertypes_by busy name None = outside_supertypes name
  supertypes_by busy name (Some class) = supertypes_of_file busy class

  -- of a class of the file by its header alone; `java.lang.Object` has none
  abbrev pub direct_by : List ℕ → Name → Asking (List Name)
  direct_by busy name = if is_object name then Return [] else supertypes_by busy name (node_named classes name)

-- The direct supertypes of a class, where the headers of some classes are being resolved, and so many may still be entered within one another.
unfoldable pub direct : Tree → List DeclaredClass → ℕ → List ℕ → Name → Asking (List Name)
direct t classes zero busy name = Return []
direct t classes (suc left) busy name = direct_by t classes (direct t classes left) busy name

-- ---- the whole

-- A header is entered once within another one: where those of all classes are, only classes outside are asked.
abbrev pub enough : Tree → ℕ
enough t = length (file_classes t) + 1

-- the direct supertypes of a class at a place where the headers of some classes are being resolved
abbrev pub supers_of : Tree → List ℕ → Name → Asking (List Name)
supers_of t busy name = direct t (file_classes t) (enough t) busy name

-- The type that a name means at a place. It is a simple name or one with dots; at a place nothing is being resolved.
abbrev pub type_name : Tree → Node → List ℕ → Asking JavaType
type_name t place text = text_in t (file_classes t) (supers_of t []) place text

-- the type that is written in a node, where the headers of some classes are being resolved, with so many brackets behind the name that it is the type of
abbrev pub written_type : Tree → List ℕ → ℕ → Node → Asking JavaType
written_type t busy behind n = type_in t (file_classes t) (supers_of t busy) behind n

-- a bound of a type parameter
abbrev pub written_bound : Tree → List ℕ → Node → Asking JavaType
written_bound t busy n = bound_type t (file_classes t) (supers_of t busy) n

-- However many headers more may be entered within one another than `enough`, a class has the same direct supertypes, with the same questions.
abbrev pub HeadersEnd : Tree → List ℕ → Name → Type 0
HeadersEnd t busy name = (more : ℕ) → enough t ≤ more → direct t (file_classes t) more busy name ≡ supers_of t busy name

-- No class of the file is asked: where meanings of their own stand in the places of the names of the classes of the file, a meaning is what it was.
abbrev pub AsksOthersAlone : {A : Type 0} → Tree → Asking A → Type 0
AsksOthersAlone t meaning = (answer_of : Name → Asking Answer) → ((name : Name) → is_known (file_classes t) name ≡ false → answer_of name ≡ ask name) → expand answer_of meaning ≡ meaning
