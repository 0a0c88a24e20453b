-- Types of receivers (JLS 4.4).
use Rattle.pj_names.specs.JavaType.{JavaType, Primitive, Void, Null, Class, Array, Variable, Unknown}

-- a type variable counts as its bound (JLS 4.4), and a bound that is one as its own
abbrev pub as_receiver : JavaType → JavaType
as_receiver (Primitive prim) = Primitive prim
as_receiver Void = Void
as_receiver Null = Null
as_receiver (Class name arguments) = Class name arguments
as_receiver (Array member) = Array member
as_receiver (Variable name bound) = as_receiver bound
as_receiver Unknown = Unknown
