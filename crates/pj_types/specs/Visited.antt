-- What a walk keeps of the names of the classes that it gave.
use Rattle.std.specs.Prelude.{◌≡◌, List, map}
use Rattle.std.specs.FinSet as set
use Rattle.pj_names.specs.ClassName.{Name, NameSet}
use Rattle.pj_names.specs.Asking.{has_name}
use Rattle.pj_types.specs.declared.listed.ListedClass.{ListedClass}
use Rattle.pj_types.specs.Supertypes.{name_of}
use Rattle.pj_types.specs.Seen.{all_listed}

-- the visited names are just the names of the classes given
pub record AreVisited (visited : NameSet) (given : List ListedClass) : Type 0 where
  pub each : (name : Name) → set.contains visited name ≡ has_name (map name_of (all_listed given)) name
