-- Classes in a table by their names.
use Rattle.std.specs.Prelude.{◌≡◌, List, Option}
use Rattle.std.specs.Borrow.{Bor}
use Rattle.std.specs.BTreeMap.{BTreeMap, get_by}
use Rattle.std.specs.Cmp.Lexicographic.{slice_cmp}
use Rattle.std.specs.Option.{option_copied}
use Rattle.std.specs.Ordering.{nat_cmp}
use Rattle.pj_names.specs.ClassName.{Name}
use Rattle.pj_symbols.specs.declared.class.Class.{Class as DeclaredClass}
use Rattle.pj_outer_names.specs.Candidates.{class_named}

-- the class that the table has for a name
abbrev pub class_by_name : BTreeMap (Bor Name) (Bor DeclaredClass) → Name → Option DeclaredClass
class_by_name by_name name = option_copied (get_by (λ key. slice_cmp nat_cmp name key.now) by_name)

-- the table has for each name the first class of that name
abbrev pub FindsNames : BTreeMap (Bor Name) (Bor DeclaredClass) → List DeclaredClass → Type 0
FindsNames by_name classes = (name : Name) → class_by_name by_name name ≡ class_named classes name
