-- What a class on a list of supertypes declares, with its type arguments in place of its type parameters.
use Rattle.std.specs.Prelude.{ℕ, Bool, List, [], ◌∷◌, map, Option, Some, None, if◌then◌else◌, nat_eq}
use Rattle.std.specs.List.{list_any}
use Rattle.std.specs.Cmp.Lexicographic.{pointwise}
use Rattle.pj_names.specs.declared.answer.Answer.{Answer}
use Rattle.pj_names.specs.declared.answer.Answer.TheVariants.{Found, Absent, Broken}
use Rattle.pj_names.specs.declared.answer.Member.{Member}
use Rattle.pj_names.specs.ClassName.{Name}
use Rattle.pj_names.specs.JavaType.{JavaType, Arguments}
use Rattle.pj_signatures.specs.Types.{ClassTypes, MethodTypes}
use Rattle.pj_signatures.specs.Reading.{class_signature_of, field_signature_of, method_signature_of}
use Rattle.pj_types.specs.Members.{FoundField, FoundMethod}
use Rattle.pj_types.specs.Substitution.{erased, substituted}
use Rattle.pj_types.specs.Supertypes.{paired}

-- type variables with types, the first pair of a name counts
abbrev pub Bound : Type 0
Bound = List (List ℕ × JavaType)

-- The type arguments that a class on the list of a class stands with. The class itself stands with its own type parameters.
abbrev pub arguments_on : Name → Name → Arguments → Option Arguments
arguments_on class owner arguments = if pointwise nat_eq owner class then None else Some arguments

-- each type parameter with its erased bound, JLS 4.6
abbrev pub erased_bounds : Bound → Bound
erased_bounds parameters = map (λ parameter. (parameter.0, erased parameter.1)) parameters

-- each with its argument; where the class is raw, JLS 4.8, with its erased bound
abbrev pub given_or_erased : Bound → Option Bound → Bound
given_or_erased parameters None = erased_bounds parameters
given_or_erased parameters (Some given) = given

-- what stands in the place of the type parameters of a class in its members, JLS 4.5.2: of the class itself they stay
abbrev pub in_place : Bound → Option Arguments → Bound
in_place parameters None = []
in_place parameters (Some arguments) = given_or_erased parameters (paired parameters arguments)

-- Fields.

abbrev pub field_from : Name → Bound → Option JavaType → Option FoundField
field_from owner bound None = None
field_from owner bound (Some ty) = Some (record { owner = owner; ty = substituted bound ty })

abbrev pub or_next : {A : Type 0} → Option A → Option A → Option A
or_next None next = next
or_next (Some first) next = Some first

-- The first field of a name whose signature is one of JVMS 4.7.9.1: the others are left out.
abbrev pub first_field : Name → Bound → Bound → List ℕ → List Member → Option FoundField
first_field owner parameters bound name [] = None
first_field owner parameters bound name (member ∷ rest) =
    if pointwise nat_eq member.name name
    then or_next (field_from owner bound (field_signature_of parameters member.signature)) (first_field owner parameters bound name rest)
    else first_field owner parameters bound name rest

abbrev pub field_by : Name → Option Arguments → List ℕ → List Member → Option ClassTypes → Option FoundField
field_by owner arguments name members None = None
field_by owner arguments name members (Some types) = first_field owner types.params (in_place types.params arguments) name members

-- The field of a class. One that is absent or broken, or whose signature is none, has none.
abbrev pub field_of_answer : Name → Option Arguments → List ℕ → Answer → Option FoundField
field_of_answer owner arguments name (Found class) = field_by owner arguments name class.fields (class_signature_of class.signature)
field_of_answer owner arguments name Absent = None
field_of_answer owner arguments name (Broken broken) = None

-- nothing is looked for in `java.lang.Object`
abbrev pub field_of_known : Name → Option Arguments → List ℕ → Option Answer → Option FoundField
field_of_known owner arguments name None = None
field_of_known owner arguments name (Some answer) = field_of_answer owner arguments name answer

-- Methods.

abbrev pub is_bound : Bound → List ℕ → Bool
is_bound bound name = list_any (λ pair. pointwise nat_eq pair.0 name) bound

-- those that are not named as a type parameter of a method
abbrev pub without : Bound → Bound → Bound
without own [] = []
without own (pair ∷ rest) = if is_bound own pair.0 then without own rest else pair ∷ without own rest

abbrev pub all_substituted : Bound → List JavaType → List JavaType
all_substituted bound types = map (λ ty. substituted bound ty) types

abbrev pub bounds_substituted : Bound → Bound → Bound
bounds_substituted bound parameters = map (λ parameter. (parameter.0, substituted bound parameter.1)) parameters

-- In a method's types its own type parameters stay, JLS 8.4.4.
abbrev pub in_method : Bound → MethodTypes → MethodTypes
in_method bound types =
    let outside = without types.params bound in
    record {
      params = bounds_substituted outside types.params;
      arguments = all_substituted outside types.arguments;
      returned = substituted outside types.returned;
    }

abbrev pub method_from : Name → Bound → Member → MethodTypes → FoundMethod
method_from owner bound member types = record { owner = owner; flags = member.flags; name = member.name; types = in_method bound types }

abbrev pub with_method : Name → Bound → Member → Option MethodTypes → List FoundMethod → List FoundMethod
with_method owner bound member None methods = methods
with_method owner bound member (Some types) methods = method_from owner bound member types ∷ methods

-- The methods of a name whose signatures are ones of JVMS 4.7.9.1, in their order: the others are left out.
abbrev pub methods_from : Name → Bound → Bound → List ℕ → List Member → List FoundMethod
methods_from owner parameters bound name [] = []
methods_from owner parameters bound name (member ∷ rest) =
    if pointwise nat_eq member.name name
    then with_method owner bound member (method_signature_of parameters member.signature) (methods_from owner parameters bound name rest)
    else methods_from owner parameters bound name rest

abbrev pub methods_by : Name → Option Arguments → List ℕ → List Member → Option ClassTypes → List FoundMethod
methods_by owner arguments name members None = []
methods_by owner arguments name members (Some types) = methods_from owner types.params (in_place types.params arguments) name members

abbrev pub methods_of_answer : Name → Option Arguments → List ℕ → Answer → List FoundMethod
methods_of_answer owner arguments name (Found class) = methods_by owner arguments name class.methods (class_signature_of class.signature)
methods_of_answer owner arguments name Absent = []
methods_of_answer owner arguments name (Broken broken) = []

abbrev pub methods_of_known : Name → Option Arguments → List ℕ → Option Answer → List FoundMethod
methods_of_known owner arguments name None = []
methods_of_known owner arguments name (Some answer) = methods_of_answer owner arguments name answer
