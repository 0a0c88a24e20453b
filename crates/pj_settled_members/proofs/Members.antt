-- Fields and methods of a class, with those that it inherits, come to something in a world that finds finitely many classes.
use Rattle.std.specs.Prelude.{ℕ, List, [], ◌∷◌, ◌++◌}
use Rattle.std.specs.FinSet as set
use Rattle.pj_names.specs.Asking.{look_up}
use Rattle.pj_names.specs.ClassName.{Name}
use Rattle.pj_names.specs.JavaType.{JavaType, Primitive, Void, Null, Class, Array, Variable, Unknown}
use Rattle.pj_types.specs.Members.{FoundMethod}
use Rattle.pj_members.specs.Fields.{field_in, find_field}
use Rattle.pj_members.specs.InClass.{arguments_on, field_of_known, methods_of_known}
use Rattle.pj_members.specs.Methods.{found_in, is_constructor, methods_in, methods_named, searched, unhidden}
use Rattle.pj_settling.specs.Settling.{FindsFinitely, Settles, World}
use Rattle.pj_settling.proofs.Searches.{first_along_settles, supertype_list_settles}
use Rattle.pj_settling.proofs.Settled.{after, by_test, given, looked_up, made_by}

module _ {world : World} where
  methods_in_settle : (class : Name) (name : List ℕ) (ty : JavaType) → Settles world (methods_in class name ty)
  methods_in_settle class name (Primitive prim) = given _
  methods_in_settle class name Void = given _
  methods_in_settle class name Null = given _
  methods_in_settle class name (Class owner arguments) = made_by {m = look_up owner} (λ known. methods_of_known owner (arguments_on class owner arguments) name known) (looked_up owner)
  methods_in_settle class name (Array member) = given _
  methods_in_settle class name (Variable variable bound) = given _
  methods_in_settle class name Unknown = given _

  pub found_in_settle : (class : Name) (name : List ℕ) (found : List FoundMethod) (types : List JavaType) → Settles world (found_in class name found types)
  found_in_settle class name found [] = given _
  found_in_settle class name found (ty ∷ types) = after (methods_in_settle class name ty) (λ more. found_in_settle class name (found ++ more) types)

  field_in_settles : (class : Name) (name : List ℕ) (ty : JavaType) → Settles world (field_in class name ty)
  field_in_settles class name (Primitive prim) = given _
  field_in_settles class name Void = given _
  field_in_settles class name Null = given _
  field_in_settles class name (Class owner arguments) = made_by {m = look_up owner} (λ known. field_of_known owner (arguments_on class owner arguments) name known) (looked_up owner)
  field_in_settles class name (Array member) = given _
  field_in_settles class name (Variable variable bound) = given _
  field_in_settles class name Unknown = given _

module _ {world : World} (finite : FindsFinitely world) where
  pub searched_settles : (class : Name) (name : List ℕ) → Settles world (searched class name)
  searched_settles class name = by_test (is_constructor name) (given _) (supertype_list_settles finite class)

  pub methods_named_settle : (class : Name) (name : List ℕ) → Settles world (methods_named class name)
  methods_named_settle class name = after (searched_settles class name) (λ types. made_by (unhidden set.empty) (found_in_settle class name [] types))

  pub find_field_settles : (class : Name) (name : List ℕ) → Settles world (find_field class name)
  find_field_settles class name = first_along_settles finite {test = field_in class name} (field_in_settles class name) class
