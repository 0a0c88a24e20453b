-- What a simple name of a variable means at a place (JLS 6.3, 6.4.1, 6.5.6.1, 7.5.3, 7.5.4, 8.3), and the classes that are asked.
--
-- All that the name may mean there is a list, from the inside out, and the first hit counts. Where the scopes of the file's own variables begin and
-- end is `variable_scopes` of `pj_declared`: of locals, parameters, resources, pattern variables, parameters of lambdas and of `catch`, variables
-- of `for`, and fields.
--
-- Each class around the place is a level. On it stand the variables whose scopes it opens, which are its fields, and those that stand further in
-- and on no level before, as the locals of its methods; the nearest of them hides the others. Behind it stands what the class inherits. In front of
-- the first level nothing stands, and behind the last one what is in scope outside of all classes, which is nothing in a file that a compiler takes (JLS 9.7.1). Then come static imports.
--
-- Classes are asked of an oracle that answers those of the file too. So a class around is asked where the search goes past its own fields.
use Rattle.std.specs.Prelude.{ℕ, Bool, Option, None, Some, if◌then◌else◌, List, [], ◌∷◌, ◌++◌, map, filter, nat_le, not}
use Rattle.std.specs.Option.{option_map}
use Rattle.pj_tree.specs.Tree.{Tree}
use Rattle.pj_tree.specs.declared.node.Node.{Node}
use Rattle.pj_names.specs.ClassName.{Name, is_class_name}
use Rattle.pj_names.specs.Asking.{Asking, Return, bind, first_hit}
use Rattle.pj_types.specs.Members.{FoundField}
use Rattle.pj_members.specs.Fields.{find_field}
use Rattle.pj_declared.specs.declared.named.Named.{Named}
use Rattle.pj_declared.specs.declared.nearest.Declared.{Declared}
use Rattle.pj_declared.specs.Nearest.{is_meant, nearest}
use Rattle.pj_declared.specs.Rows.{variables_of}
use Rattle.pj_written.specs.Headers.{class_text}
use Rattle.pj_outer_names.specs.Candidates.{dotted_class, file_classes}
use Rattle.pj_outer_names.specs.Around.{classes_around}
use Rattle.pj_scopes.specs.StaticImports.{imported_class, static_imports}

-- ---- what a name may mean

-- A variable: one that the file declares, by the node of its name, or a field along the supertypes of a class.
pub data Meant : Type 0 where
  DeclaredAt : Node → Meant
  Inherited : FoundField → Meant

-- One thing that is looked at: a variable of the name that is in scope, what a class around the place inherits, a static import.
pub data Step : Type 0 where
  Declares : Node → Step
  Inherits : Node → Step
  Imports : Node → Step

-- ---- from the inside out

-- the variables of the name in the file that are in scope at the place
abbrev pub in_scope : Tree → List ℕ → Node → List Named
in_scope t name place = filter (is_meant t name place) (variables_of t)

-- whether a class opens the scope of a variable, or something that stands further in
abbrev pub is_opened_within : Node → Named → Bool
is_opened_within class row = nat_le class.0 row.scope.opened

-- those of which this is so, and those whose scopes are opened further out
abbrev pub within : Node → List Named → List Named
within class rows = filter (is_opened_within class) rows

abbrev pub outside : Node → List Named → List Named
outside class rows = filter (λ row. not (is_opened_within class row)) rows

abbrev pub declares : Option Declared → List Step
declares None = []
declares (Some found) = Declares found.node ∷ []

-- level by level, where these variables are left
abbrev pub levels : List Named → List Node → List Step
levels rows [] = declares (nearest rows)
levels rows (class ∷ further) = declares (nearest (within class rows)) ++ Inherits class ∷ levels (outside class rows) further

abbrev pub from_inside_out : Tree → List ℕ → Node → List Step
from_inside_out t name place = levels (in_scope t name place) (classes_around t place) ++ map (λ import. Imports import) (static_imports t name)

-- ---- what is asked

-- The first field of the name along the supertypes of a class around. The class itself comes first; its own fields are on its level already.
abbrev pub field_around : Tree → List ℕ → Node → Asking (Option FoundField)
field_around t name class = if is_class_name (class_text t class) then find_field (class_text t class) name else Return None

abbrev pub field_of : List ℕ → Option Name → Asking (Option FoundField)
field_of name None = Return None
field_of name (Some class) = find_field class name

-- The field that an import gives: its class goes by candidates (JLS 6.5.2, 13.1), and the field is the first along the supertypes of that class.
abbrev pub imported_field : Tree → List ℕ → Node → Asking (Option FoundField)
imported_field t name import = bind (dotted_class (file_classes t) (imported_class t import)) (λ class. field_of name class)

abbrev pub inherited : Asking (Option FoundField) → Asking (Option Meant)
inherited field = bind field (λ found. Return (option_map Inherited found))

abbrev pub meant_by : Tree → List ℕ → Step → Asking (Option Meant)
meant_by t name (Declares n) = Return (Some (DeclaredAt n))
meant_by t name (Inherits class) = inherited (field_around t name class)
meant_by t name (Imports import) = inherited (imported_field t name import)

-- the variable that a name means at a place, and `None` where it means none
abbrev pub variable_name : Tree → Node → List ℕ → Asking (Option Meant)
variable_name t place name = first_hit (meant_by t name) (from_inside_out t name place)
