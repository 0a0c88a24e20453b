-- What a name behind a dot means, what an enhanced `for` goes through, and what a simple name of a variable means come to something in a world that finds finitely many classes.
use Rattle.std.specs.Prelude.{ℕ, List, [], ◌∷◌, codes, Option, None, Some}
use Rattle.std.specs.Option.{option_map}
use Rattle.pj_names.specs.ClassName.{Name, is_class_name}
use Rattle.pj_names.specs.JavaType.{JavaType, Primitive, Void, Null, Class, Array, Variable, Unknown, Arguments}
use Rattle.pj_tree.specs.Tree.{Tree}
use Rattle.pj_tree.specs.declared.node.Node.{Node}
use Rattle.pj_types.specs.Members.{FoundField}
use Rattle.pj_members.specs.Receivers.{supertype_of_receiver}
use Rattle.pj_written.specs.Headers.{class_text}
use Rattle.pj_written.specs.Words.{same_text}
use Rattle.pj_outer_names.specs.Candidates.{file_classes}
use Rattle.pj_receivers.specs.Elements.{argument_or_unknown, iterated, iterated_along, iterated_by}
use Rattle.pj_receivers.specs.Fields.{field_in, field_of, field_of_class, field_or_member, member_class, member_on_list, member_or_unknown, member_type, none_is_left_out}
use Rattle.pj_receivers.specs.Receivers.{as_receiver}
use Rattle.pj_scopes.specs.StaticImports.{imported_class}
use Rattle.pj_scopes.specs.VariableName as scopes
use Rattle.pj_scopes.specs.VariableName.{Declares, Imports, Inherited, Inherits, Step, field_around, from_inside_out, imported_field, meant_by, variable_name}
use Rattle.pj_settling.specs.Settling.{FindsFinitely, Settles, World}
use Rattle.pj_settling.proofs.Searches.{first_along_settles}
use Rattle.pj_settling.proofs.Settled.{after, by_test, first_of, given, made_by}
use Rattle.pj_settled_members.proofs.Members.{find_field_settles}
use Rattle.pj_settled_members.proofs.Receivers.{field_of_receiver_settles, supertype_of_receiver_settles}
use Rattle.pj_settled_names.proofs.Outside.{dotted_class_settles, member_in_settles}

module _ {world : World} (finite : FindsFinitely world) where
  -- ---- what is iterated

  iterated_along_settles : (class : Name) (arguments : Arguments) → Settles world (iterated_along class arguments)
  unfolding iterated_along
  iterated_along_settles class arguments =
      made_by {m = supertype_of_receiver class arguments (codes "java.lang.Iterable")} argument_or_unknown (supertype_of_receiver_settles finite class arguments (codes "java.lang.Iterable"))

  iterated_by_settles : (ty : JavaType) → Settles world (iterated_by ty)
  iterated_by_settles (Primitive prim) = given _
  iterated_by_settles Void = given _
  iterated_by_settles Null = given _
  iterated_by_settles (Class class arguments) = by_test (same_text class (codes "java.lang.Iterable")) (given _) (iterated_along_settles class arguments)
  iterated_by_settles (Array member) = given _
  iterated_by_settles (Variable name bound) = given _
  iterated_by_settles Unknown = given _

  pub iterated_settles : (ty : JavaType) → Settles world (iterated ty)
  iterated_settles ty = iterated_by_settles (as_receiver ty)

  module _ (t : Tree) where
    -- ---- a name behind a dot

    member_on_list_settles : (name : List ℕ) (ty : JavaType) → Settles world (member_on_list t name ty)
    member_on_list_settles name (Primitive prim) = given _
    member_on_list_settles name Void = given _
    member_on_list_settles name Null = given _
    member_on_list_settles name (Class class arguments) = member_in_settles (file_classes t) none_is_left_out name class
    member_on_list_settles name (Array member) = given _
    member_on_list_settles name (Variable variable bound) = given _
    member_on_list_settles name Unknown = given _

    member_type_settles : (class : Name) (name : List ℕ) → Settles world (member_type t class name)
    unfolding member_type
    member_type_settles class name = made_by {m = member_class t class name} member_or_unknown (first_along_settles finite {test = member_on_list t name} (member_on_list_settles name) class)

    field_or_member_settles : (class : Name) (name : List ℕ) (found : Option FoundField) → Settles world (field_or_member t class name found)
    field_or_member_settles class name None = member_type_settles class name
    field_or_member_settles class name (Some field) = given _

    field_of_class_settles : (class : Name) (arguments : Arguments) (name : List ℕ) → Settles world (field_of_class t class arguments name)
    unfolding field_of_class
    field_of_class_settles class arguments name = after (field_of_receiver_settles finite class arguments name) (field_or_member_settles class name)

    field_in_settles : (name : List ℕ) (ty : JavaType) → Settles world (field_in t name ty)
    field_in_settles name (Primitive prim) = given _
    field_in_settles name Void = given _
    field_in_settles name Null = given _
    field_in_settles name (Class class arguments) = field_of_class_settles class arguments name
    field_in_settles name (Array member) = given _
    field_in_settles name (Variable variable bound) = given _
    field_in_settles name Unknown = given _

    pub field_of_settles : (name : List ℕ) (receiver : JavaType) → Settles world (field_of t name receiver)
    field_of_settles name receiver = field_in_settles name (as_receiver receiver)

    -- ---- a simple name of a variable

    field_around_settles : (name : List ℕ) (class : Node) → Settles world (field_around t name class)
    field_around_settles name class = by_test (is_class_name (class_text t class)) (find_field_settles finite (class_text t class) name) (given _)

    field_named_settles : (name : List ℕ) (class : Option Name) → Settles world (scopes.field_of name class)
    field_named_settles name None = given _
    field_named_settles name (Some class) = find_field_settles finite class name

    imported_field_settles : (name : List ℕ) (import : Node) → Settles world (imported_field t name import)
    imported_field_settles name import = after (dotted_class_settles (file_classes t) (imported_class t import)) (field_named_settles name)

    meant_by_settles : (name : List ℕ) (step : Step) → Settles world (meant_by t name step)
    meant_by_settles name (Declares n) = given _
    meant_by_settles name (Inherits class) = made_by {m = field_around t name class} (option_map Inherited) (field_around_settles name class)
    meant_by_settles name (Imports import) = made_by {m = imported_field t name import} (option_map Inherited) (imported_field_settles name import)

    pub variable_name_settles : (place : Node) (name : List ℕ) → Settles world (variable_name t place name)
    variable_name_settles place name = first_of {m = meant_by t name} (meant_by_settles name) (from_inside_out t name place)
