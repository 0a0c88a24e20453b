-- Elements of arrays (JLS 10.4), and what an enhanced `for` goes through (JLS 14.14.2).
use Rattle.std.specs.Prelude.{Option, None, Some, if◌then◌else◌, codes}
use Rattle.pj_names.specs.ClassName.{Name}
use Rattle.pj_names.specs.JavaType.{JavaType, Primitive, Void, Null, Class, Array, Variable, Unknown, Arguments, NoMore, Argument}
use Rattle.pj_names.specs.Asking.{Asking, Return, bind}
use Rattle.pj_written.specs.Types.{object_type}
use Rattle.pj_written.specs.Words.{same_text}
use Rattle.pj_members.specs.Receivers.{supertype_of_receiver}
use Rattle.pj_receivers.specs.Receivers.{as_receiver}

-- an element of an array (JLS 10.4)
abbrev pub element_of : JavaType → JavaType
element_of (Primitive prim) = Unknown
element_of Void = Unknown
element_of Null = Unknown
element_of (Class name arguments) = Unknown
element_of (Array member) = member
element_of (Variable name bound) = Unknown
element_of Unknown = Unknown

-- The one type argument of `java.lang.Iterable`; a wildcard was read as its upper bound. With another number of arguments it is raw (JLS 4.8), and goes through
-- `java.lang.Object`.
abbrev pub argument_or_object : Arguments → JavaType
argument_or_object NoMore = object_type
argument_or_object (Argument first NoMore) = first
argument_or_object (Argument first (Argument second rest)) = object_type

abbrev pub argument_or_unknown : Option Arguments → JavaType
argument_or_unknown None = Unknown
argument_or_unknown (Some arguments) = argument_or_object arguments

-- what is iterated of a class that has `java.lang.Iterable` among its supertypes, as the receiver stands
unfoldable pub iterated_along : Name → Arguments → Asking JavaType
iterated_along class arguments = bind (supertype_of_receiver class arguments (codes "java.lang.Iterable")) (λ found. Return (argument_or_unknown found))

-- where it is the class `java.lang.Iterable` itself, nothing is asked
abbrev pub iterated_of_class : Name → Arguments → Asking JavaType
iterated_of_class class arguments = if same_text class (codes "java.lang.Iterable") then Return (argument_or_object arguments) else iterated_along class arguments

abbrev pub iterated_by : JavaType → Asking JavaType
iterated_by (Primitive prim) = Return Unknown
iterated_by Void = Return Unknown
iterated_by Null = Return Unknown
iterated_by (Class class arguments) = iterated_of_class class arguments
iterated_by (Array member) = Return member
iterated_by (Variable name bound) = Return Unknown
iterated_by Unknown = Return Unknown

-- what an enhanced `for` goes through: the elements of an array, and what is iterated by `java.lang.Iterable`
abbrev pub iterated : JavaType → Asking JavaType
iterated ty = iterated_by (as_receiver ty)
