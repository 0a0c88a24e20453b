-- Methods of a class with those that it inherits, JLS 8.4.8 and 9.4.1.
use Rattle.std.specs.Prelude.{ℕ, Bool, List, [], ◌∷◌, ◌++◌, codes, if◌then◌else◌, nat_eq}
use Rattle.std.specs.Cmp.Lexicographic.{pointwise}
use Rattle.std.specs.FinSet as set
use Rattle.pj_names.specs.ClassName.{Name, NameSet}
use Rattle.pj_names.specs.JavaType.{JavaType, Primitive, Void, Null, Class, Array, Variable, Unknown, Arguments, NoMore}
use Rattle.pj_names.specs.Asking.{Asking, Return, bind, look_up}
use Rattle.pj_signatures.specs.Signature.{letter}
use Rattle.pj_types.specs.Members.{FoundMethod}
use Rattle.pj_types.specs.Supertypes.{supertype_list}
use Rattle.pj_members.specs.InClass.{arguments_on, methods_of_known}

-- the methods of a name of a class on the list of a class: it is asked, unless it is `java.lang.Object`
abbrev pub methods_in_class : Name → List ℕ → Name → Arguments → Asking (List FoundMethod)
methods_in_class class name owner arguments = bind (look_up owner) (λ known. Return (methods_of_known owner (arguments_on class owner arguments) name known))

-- those of a type on the list, each of which is a class
abbrev pub methods_in : Name → List ℕ → JavaType → Asking (List FoundMethod)
methods_in class name (Primitive prim) = Return []
methods_in class name Void = Return []
methods_in class name Null = Return []
methods_in class name (Class owner arguments) = methods_in_class class name owner arguments
methods_in class name (Array member) = Return []
methods_in class name (Variable variable bound) = Return []
methods_in class name Unknown = Return []

-- behind those found so far, those of some types, one after the other
abbrev pub found_in : Name → List ℕ → List FoundMethod → List JavaType → Asking (List FoundMethod)
found_in class name found [] = Return found
found_in class name found (ty ∷ types) = bind (methods_in class name ty) (λ more. found_in class name (found ++ more) types)

-- the name of a constructor
abbrev pub is_constructor : List ℕ → Bool
is_constructor name = pointwise nat_eq name (codes "<init>")

-- constructors are looked for in the class alone, JLS 8.8, and other methods along the whole list
abbrev pub searched : Name → List ℕ → Asking (List JavaType)
searched class name = if is_constructor name then Return (Class class NoMore ∷ []) else supertype_list class

-- The erasure of a type, JLS 4.6, as a descriptor spells it, JVMS 4.3.2, with dots in names. `N` is the type of `null` and `?`
-- the type that is not known.
abbrev pub erasure_text : JavaType → List ℕ
erasure_text (Primitive prim) = letter prim ∷ []
erasure_text Void = 86 ∷ []
erasure_text Null = 78 ∷ []
erasure_text (Class name arguments) = 76 ∷ (name ++ 59 ∷ [])
erasure_text (Array member) = 91 ∷ erasure_text member
erasure_text (Variable name bound) = erasure_text bound
erasure_text Unknown = 63 ∷ []

-- erased parameters, JLS 8.4.2, as the descriptor of a method spells them
abbrev pub parameters_text : List JavaType → List ℕ
parameters_text [] = []
parameters_text (ty ∷ types) = erasure_text ty ++ parameters_text types

abbrev pub key_of : FoundMethod → List ℕ
key_of method = parameters_text method.types.arguments

-- A method is hidden by an earlier one with the same erased parameters: overridden, JLS 8.4.8.1, or hidden, JLS 8.4.8.2. The
-- keys are those of the earlier methods.
abbrev pub unhidden : NameSet → List FoundMethod → List FoundMethod
unhidden earlier [] = []
unhidden earlier (method ∷ rest) =
    if set.contains earlier (key_of method) then unhidden earlier rest else method ∷ unhidden (set.insert earlier (key_of method)) rest

-- The methods of a name of a class, in the order of the list, without those that are hidden.
abbrev pub methods_named : Name → List ℕ → Asking (List FoundMethod)
methods_named class name = bind (searched class name) (λ types. bind (found_in class name [] types) (λ found. Return (unhidden set.empty found)))
