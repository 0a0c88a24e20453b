-- Which texts spell what.
use Rattle.std.specs.Prelude.{◌≡◌, ℕ, List, [], true, Option, Some, None}
use Rattle.pj_names.specs.JavaType.{JavaType}
use Rattle.pj_signatures.specs.Signature.{TypeSignature, ClassSignature, MethodSignature, spelled, spelled_class, spelled_method, fits, class_signature_fits, method_signature_fits}
use Rattle.pj_signatures.specs.Types.{ClassTypes, MethodTypes, type_of, class_types, method_types}
use Rattle.pj_signatures.specs.Descriptor as descriptor

-- The most signs `[` and `<` that are open at one place.
abbrev pub most_open : ℕ
most_open = 255

-- The text is the descriptor of a field, JVMS 4.3.2, and stands for the type.
abbrev pub SpellsField : List ℕ → JavaType → Type 0
SpellsField text ty =
    (field : descriptor.FieldType) × (descriptor.fits most_open field ≡ true) × (descriptor.spelled field [] ≡ text) × (descriptor.type_of field ≡ ty)

-- The text is the descriptor of a method, JVMS 4.3.3, and stands for the types.
abbrev pub SpellsMethodDescriptor : List ℕ → MethodTypes → Type 0
SpellsMethodDescriptor text types =
    (method : descriptor.MethodDescriptor) × (descriptor.method_fits most_open method ≡ true) × (descriptor.spelled_method method ≡ text) × (descriptor.method_types method ≡ types)

-- The text is a type's signature, and stands for the type where some variables are declared.
abbrev pub SpellsType : List (List ℕ × JavaType) → List ℕ → JavaType → Type 0
SpellsType declared text ty =
    (signature : TypeSignature) × (fits most_open signature ≡ true) × (spelled signature [] ≡ text) × (type_of declared signature ≡ ty)

-- The text is a class's signature, and stands for its parameters and supertypes.
abbrev pub SpellsClass : List ℕ → ClassTypes → Type 0
SpellsClass text types =
    (class : ClassSignature) × (class_signature_fits most_open class ≡ true) × (spelled_class class ≡ text) × (class_types class ≡ types)

-- The text is a method's signature, and stands for its parameters and types where some variables are declared around it.
abbrev pub SpellsMethod : List (List ℕ × JavaType) → List ℕ → MethodTypes → Type 0
SpellsMethod around text types =
    (method : MethodSignature) × (method_signature_fits most_open method ≡ true) × (spelled_method method ≡ text) × (method_types around method ≡ types)

-- An answer is the one value that is spelled, or none where none is.
abbrev pub IsSpelled : {V : Type 0} → (V → Type 0) → Option V → Type 0
IsSpelled Spells None = (value : _) → Spells value → ⊥
IsSpelled Spells (Some found) = Spells found × ((value : _) → Spells value → value ≡ found)
