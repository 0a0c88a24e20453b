-- Classes: where each stands, and its name.
use Rattle.std.specs.Prelude.{ℕ, Bool, true, false, Option, None, Some, if◌then◌else◌, List, [], ◌∷◌, ◌++◌, codes}
use Rattle.std.specs.Option.{option_map_or}
use Rattle.std.specs.Fmt.{decimal}
use Rattle.pj_tree.specs.Tree.{Tree, kind_of, ancestors_of}
use Rattle.pj_tree.specs.declared.kind.Kind.{Kind}
use Rattle.pj_tree.specs.declared.kind.Kind.TheVariants as k
use Rattle.pj_tree.specs.declared.node.Node.{Node}
use Rattle.pj_tree.specs.Kinds.{kind_above}
use Rattle.pj_symbols.specs.Kinds.{declares_class}
use Rattle.pj_symbols.specs.Names.{simple_name, package_name, package_prefix}
use Rattle.pj_symbols.specs.declared.class.Nesting.{Nesting}
use Rattle.pj_symbols.specs.declared.class.Nesting.TheVariants.{TopLevel, Nested, Local, Anonymous}

-- ---- where a class is declared

-- a class with a name, by what stands above it: the file (JLS 7.6), a statement of a block (JLS 14.3), or the body of a class (JLS 8.5)
abbrev pub nesting_in : Kind → Nesting
nesting_in k.CompilationUnit = TopLevel
nesting_in k.LocalClassStatement = Local
nesting_in other = Nested

abbrev pub nesting_below : Option Kind → Nesting
nesting_below None = TopLevel
nesting_below (Some kind) = nesting_in kind

abbrev pub is_anonymous : Kind → Bool
is_anonymous k.AnonymousClassDeclaration = true
is_anonymous other = false

-- an anonymous class stands in an expression (JLS 15.9.5) or an enum constant (JLS 8.9.1)
abbrev pub nesting_of : Tree → Node → Nesting
nesting_of t n = if option_map_or is_anonymous (kind_of t n) false then Anonymous else nesting_below (kind_above t n)

-- ---- the class around

-- the first of these nodes that declares a class
abbrev pub first_class : Tree → List Node → Option Node
first_class t [] = None
first_class t (n ∷ ns) = if declares_class t n then Some n else first_class t ns

-- the class directly around a node is the innermost of its ancestors that declares one
abbrev pub class_around : Tree → Node → Option Node
class_around t n = first_class t (ancestors_of t n)

-- ---- binary names (JLS 13.1)

-- A top level class is named by its package and its name. A member class has the binary name of the class around it, `$` and
-- its name; a local or anonymous class that of the class around, `$$` and the number of its node.
abbrev pub name_by : Nesting → List ℕ → List ℕ → ℕ → List ℕ
name_by TopLevel around simple number = around ++ simple
name_by Nested around simple number = around ++ (codes "$" ++ simple)
name_by Local around simple number = around ++ (codes "$$" ++ decimal number)
name_by Anonymous around simple number = around ++ (codes "$$" ++ decimal number)

abbrev pub named_in : Tree → Node → List ℕ → List ℕ
named_in t n around = name_by (nesting_of t n) around (simple_name t n) n.0

-- the binary name of the first of these nodes that declares a class, where they are a node with its ancestors; where none does, the package with a dot
abbrev pub name_along : Tree → List Node → List ℕ
name_along t [] = package_prefix (package_name t)
name_along t (n ∷ above) = if declares_class t n then named_in t n (name_along t above) else name_along t above

-- the binary name of the class that is directly around a node
abbrev pub around_name : Tree → Node → List ℕ
around_name t n = name_along t (ancestors_of t n)

-- the binary name of the class that a node declares
abbrev pub binary_name : Tree → Node → List ℕ
binary_name t n = named_in t n (around_name t n)
