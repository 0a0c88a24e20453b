-- What a name behind a dot means of the type of a receiver: a field (JLS 15.11.1), the length of an array (JLS 10.7), and else a member class (JLS 6.5.2, 8.5). Classes are asked of
-- an oracle that answers those of the file too.
use Rattle.std.specs.Prelude.{ℕ, Bool, false, Option, None, Some, if◌then◌else◌, List, codes}
use Rattle.pj_tree.specs.Tree.{Tree}
use Rattle.pj_names.specs.declared.ty.PrimitiveType.TheVariants as p
use Rattle.pj_names.specs.ClassName.{Name}
use Rattle.pj_names.specs.JavaType.{JavaType, Primitive, Void, Null, Class, Array, Variable, Unknown, Arguments, NoMore}
use Rattle.pj_names.specs.Asking.{Asking, Return, bind}
use Rattle.pj_types.specs.Along.{first_along}
use Rattle.pj_types.specs.Members.{FoundField}
use Rattle.pj_written.specs.Words.{same_text}
use Rattle.pj_outer_names.specs.Candidates.{file_classes}
use Rattle.pj_outer_names.specs.Inherited.{member_in}
use Rattle.pj_members.specs.Receivers.{field_of_receiver}
use Rattle.pj_receivers.specs.Receivers.{as_receiver}

abbrev pub member_or_unknown : Option Name → JavaType
member_or_unknown None = Unknown
member_or_unknown (Some class) = Class class NoMore

-- no class is left out of the search: what each class of the list declares itself counts
abbrev pub none_is_left_out : Name → Bool
none_is_left_out class = false

-- the member class that a class has of its own, where it is there; of `java.lang.Object` none is looked for
abbrev pub member_of_class : Tree → List ℕ → Name → Asking (Option Name)
member_of_class t name class = member_in (file_classes t) none_is_left_out name class

-- the same of a type on a list of supertypes
abbrev pub member_on_list : Tree → List ℕ → JavaType → Asking (Option Name)
member_on_list t name (Primitive prim) = Return None
member_on_list t name Void = Return None
member_on_list t name Null = Return None
member_on_list t name (Class class arguments) = member_of_class t name class
member_on_list t name (Array member) = Return None
member_on_list t name (Variable variable bound) = Return None
member_on_list t name Unknown = Return None

-- the member class of a class, of its own or inherited (JLS 8.5)
abbrev pub member_class : Tree → Name → List ℕ → Asking (Option Name)
member_class t class name = first_along (member_on_list t name) class

unfoldable pub member_type : Tree → Name → List ℕ → Asking JavaType
member_type t class name = bind (member_class t class name) (λ hit. Return (member_or_unknown hit))

abbrev pub field_or_member : Tree → Name → List ℕ → Option FoundField → Asking JavaType
field_or_member t class name None = member_type t class name
field_or_member t class name (Some field) = Return field.ty

unfoldable pub field_of_class : Tree → Name → Arguments → List ℕ → Asking JavaType
field_of_class t class arguments name = bind (field_of_receiver class arguments name) (λ found. field_or_member t class name found)

-- the one field of an array
abbrev pub field_of_array : List ℕ → JavaType
field_of_array name = if same_text name (codes "length") then Primitive p.Int else Unknown

abbrev pub field_in : Tree → List ℕ → JavaType → Asking JavaType
field_in t name (Primitive prim) = Return Unknown
field_in t name Void = Return Unknown
field_in t name Null = Return Unknown
field_in t name (Class class arguments) = field_of_class t class arguments name
field_in t name (Array member) = Return (field_of_array name)
field_in t name (Variable variable bound) = Return Unknown
field_in t name Unknown = Return Unknown

abbrev pub field_of : Tree → List ℕ → JavaType → Asking JavaType
field_of t name receiver = field_in t name (as_receiver receiver)
