-- Descriptors and signatures read from the left: the value that the front of a text makes, and what stands behind it.
-- The readers are this reading by their private clauses, and their public clauses say by `Spelled` what it gives. What a class file
-- takes as a descriptor or a signature is said by this reading itself.
use Rattle.std.specs.Prelude.{◌&&◌, ◌==◌, ◌++◌, Bool, true, false, not, ℕ, zero, suc, List, [], ◌∷◌, Option, Some, None, length, codes, if◌then◌else◌, nat_lt, nat_le}
use Rattle.pj_names.specs.declared.ty.PrimitiveType.{PrimitiveType}
use Rattle.pj_names.specs.declared.ty.PrimitiveType.TheVariants.{Boolean, Byte, Short, Int, Long, Char, Float, Double}
use Rattle.pj_names.specs.JavaType.{JavaType, Primitive, Void, Array, NoMore}
use Rattle.pj_signatures.specs.Names.{is_none_of, is_identifier, is_path, is_internal_name, dotted}
use Rattle.pj_signatures.specs.Types.{Making, class_named, types, ClassTypes, MethodTypes}

-- what stands behind a sign at the front of a text
abbrev pub behind : ℕ → List ℕ → Option (List ℕ)
behind sign [] = None
behind sign (b ∷ bs) = if b == sign then Some bs else None

-- whether a text begins with a sign
abbrev pub begins : ℕ → List ℕ → Bool
begins sign [] = false
begins sign (b ∷ bs) = b == sign

abbrev pub is_empty : List ℕ → Bool
is_empty [] = true
is_empty (b ∷ bs) = false

-- the longest front of a text without some signs
abbrev pub run : List ℕ → List ℕ → List ℕ
run signs [] = []
run signs (b ∷ bs) = if is_none_of signs b then b ∷ run signs bs else []

-- what stands behind that front
abbrev pub past_run : List ℕ → List ℕ → List ℕ
past_run signs [] = []
past_run signs (b ∷ bs) = if is_none_of signs b then past_run signs bs else b ∷ bs

-- the signs that end a name in a signature
abbrev pub end_signs : List ℕ
end_signs = codes ".;[<>:"

-- what follows where a sign was there, or else
abbrev pub if_behind : {C : Type 0} → Option (List ℕ) → (List ℕ → C) → C → C
if_behind (Some rest) found other = found rest
if_behind None found other = other

-- what follows a reading
abbrev pub next : {A C : Type 0} → Option (A × List ℕ) → (A → List ℕ → Option C) → Option C
next (Some pair) more = more pair.0 pair.1
next None more = None

-- the reading of one value
abbrev pub one : {A : Type 0} → A → List ℕ → Option (A × List ℕ)
one value rest = Some (value, rest)

-- a sign has to stand there
abbrev pub expect : {C : Type 0} → ℕ → List ℕ → (List ℕ → Option C) → Option C
expect sign text more = if_behind (behind sign text) more None

-- The repetition of a reading, as long as a test of the text says to go on: each value steps a state. The readings are
-- at most so many, and each takes a byte at least.
module _ {X S : Type 0} (goes_on : List ℕ → Bool) (item : List ℕ → Option (X × List ℕ)) (step : S → X → S) where
  unfoldable pub at_most : ℕ → S → List ℕ → Option (S × List ℕ)
  at_most zero state text = None
  at_most (suc most) state text =
      if goes_on text then next (item text) (λ value rest. if nat_lt (length rest) (length text) then at_most most (step state value) rest else None)
      else Some (state, text)

  unfoldable pub many : S → List ℕ → Option (S × List ℕ)
  many state text = at_most (suc (length text)) state text

-- what is read, where nothing stands behind it
abbrev pub if_empty : {A : Type 0} → A → List ℕ → Option A
if_empty value [] = Some value
if_empty value (b ∷ bs) = None

abbrev pub whole : {A : Type 0} → Option (A × List ℕ) → Option A
whole found = next found if_empty

-- the first two of three values
abbrev pub two_of : {A B C : Type 0} → Option (A × B × C) → Option (A × B)
two_of None = None
two_of (Some values) = Some (values.0, values.1)

-- puts a value at the end of a list
abbrev pub put : {A : Type 0} → List A → A → List A
put list value = list ++ value ∷ []

-- the primitive type of a letter
abbrev pub primitive_of : ℕ → Option PrimitiveType
primitive_of letter =
    if letter == 66 then Some Byte else if letter == 67 then Some Char else if letter == 68 then Some Double
    else if letter == 70 then Some Float else if letter == 73 then Some Int else if letter == 74 then Some Long
    else if letter == 83 then Some Short else if letter == 90 then Some Boolean else None

abbrev pub with_rest : {A : Type 0} → List ℕ → Option A → Option (A × List ℕ)
with_rest rest None = None
with_rest rest (Some value) = Some (value, rest)

abbrev pub primitive_at : List ℕ → Option (PrimitiveType × List ℕ)
primitive_at [] = None
primitive_at (b ∷ bs) = with_rest bs (primitive_of b)

-- an identifier of a signature
abbrev pub identifier_at : List ℕ → Option (List ℕ × List ℕ)
identifier_at text = if is_identifier (run end_signs text) then Some (run end_signs text, past_run end_signs text) else None

-- a path of a signature
abbrev pub path_at : List ℕ → Option (List ℕ × List ℕ)
path_at text = if is_path (run end_signs text) then Some (run end_signs text, past_run end_signs text) else None

-- whether a text begins as a reference type does
abbrev pub begins_reference : List ℕ → Bool
begins_reference text = if begins 76 text then true else if begins 84 text then true else begins 91 text

-- a reference type, where a type's reader is given
abbrev pub reference_by : {A : Type 0} → (List ℕ → Option (A × List ℕ)) → List ℕ → Option (A × List ℕ)
reference_by type_by text = if begins_reference text then type_by text else None

-- whether a sign may be open
abbrev pub may_open : ℕ → Bool
may_open zero = false
may_open (suc open_signs) = true

-- whether the text does not end before a sign
abbrev pub not_at : ℕ → List ℕ → Bool
not_at sign text = not (begins sign text)

abbrev pub not_empty : List ℕ → Bool
not_empty text = not (is_empty text)

module _ {A B S P : Type 0} (make : Making A B S P) where
  abbrev pub variable_at : List ℕ → Option (A × List ℕ)
  variable_at text = next (identifier_at text) (λ name after. expect 59 after (λ rest. one (make.variable name) rest))

  -- a class type with one more member class
  abbrev pub extended : S → List ℕ × List B → S
  extended so_far suffix = make.member so_far suffix.0 suffix.1

  -- what a class type's reader is given for what stands in angle brackets
  module _ (inner : List ℕ → Option (A × List ℕ)) where
    abbrev pub argument_at : List ℕ → Option (B × List ℕ)
    argument_at text =
        if_behind (behind 42 text) (λ rest. one make.anything rest)
        (if_behind (behind 43 text) (λ rest. next (reference_by inner rest) (λ ty behind. one (make.extends ty) behind))
        (if_behind (behind 45 text) (λ rest. next (reference_by inner rest) (λ ty behind. one (make.above ty) behind))
        (next (reference_by inner text) (λ ty behind. one (make.exactly ty) behind))))

    -- a list of type arguments has one at least, and at most 255
    abbrev pub listed_at : List ℕ → Option (List B × List ℕ)
    listed_at text =
        next (many (not_at 62) argument_at put [] text) (λ arguments rest.
        expect 62 rest (λ after. if nat_lt 0 (length arguments) && nat_le (length arguments) 255 then one arguments after else None))

  -- the same, where it is also given whether a sign may be open
  module _ (open_signs : ℕ) (inner : List ℕ → Option (A × List ℕ)) where
    abbrev pub arguments_at : List ℕ → Option (List B × List ℕ)
    arguments_at text =
        if_behind (behind 60 text) (λ rest. if may_open open_signs then listed_at inner rest else None) (one [] text)

    -- the name of a member class with its type arguments
    abbrev pub suffix_at : List ℕ → Option ((List ℕ × List B) × List ℕ)
    suffix_at text =
        expect 46 text (λ rest. next (identifier_at rest) (λ name after. next (arguments_at after) (λ arguments behind. one (name, arguments) behind)))

    -- the member classes of a class type, and its end
    abbrev pub members_at : S → List ℕ → Option (A × List ℕ)
    members_at state text = next (many (begins 46) suffix_at extended state text) (λ so_far end. expect 59 end (λ rest. one (make.whole so_far) rest))

    abbrev pub class_at : List ℕ → Option (A × List ℕ)
    class_at text = next (path_at text) (λ path after. next (arguments_at after) (λ arguments behind. members_at (make.outer path arguments) behind))

    abbrev pub type_by : List ℕ → Option (A × List ℕ)
    type_by text =
        if_behind (behind 76 text) (λ rest. class_at rest)
        (if_behind (behind 84 text) (λ rest. variable_at rest)
        (if_behind (behind 91 text) (λ rest. next (inner rest) (λ member after. one (make.array member) after))
        (next (primitive_at text) (λ prim after. one (make.primitive prim) after))))

  -- what is read inside a sign, where so many more may be open
  unfoldable pub inside : ℕ → List ℕ → Option (A × List ℕ)
  inside zero text = None
  inside (suc open_signs) text = type_by open_signs (inside open_signs) text

  -- a type, where so many signs may be open
  abbrev pub type_at : ℕ → List ℕ → Option (A × List ℕ)
  type_at open_signs text = type_by open_signs (inside open_signs) text

  -- Type parameters, where the reader of their bounds is given.
  module _ (bound_by : List ℕ → Option (A × List ℕ)) where
    -- The bound behind the first colon, if it is there: it is not where the next type parameter begins.
    abbrev pub class_bound_at : List ℕ → Option (Option A × List ℕ)
    class_bound_at text =
        if begins_reference text && not (begins 58 (past_run end_signs text)) then next (bound_by text) (λ bound rest. one (Some bound) rest) else one None text

    abbrev pub interface_bound_at : List ℕ → Option (A × List ℕ)
    interface_bound_at text = expect 58 text (λ rest. reference_by bound_by rest)

    abbrev pub parameter_at : List ℕ → Option (P × List ℕ)
    parameter_at text =
        next (identifier_at text) (λ name after. expect 58 after (λ rest.
        next (class_bound_at rest) (λ bound behind. next (many (begins 58) interface_bound_at put [] behind) (λ more end.
        one (make.parameter name bound more) end))))

    abbrev pub listed_parameters_at : List ℕ → Option (List P × List ℕ)
    listed_parameters_at text =
        next (many (not_at 62) parameter_at put [] text) (λ parameters rest.
        expect 62 rest (λ after. if nat_lt 0 (length parameters) then one parameters after else None))

    abbrev pub parameters_at : List ℕ → Option (List P × List ℕ)
    parameters_at text = if_behind (behind 60 text) (λ rest. listed_parameters_at rest) (one [] text)

  module _ (open_signs : ℕ) where
    abbrev pub class_type_at : List ℕ → Option (A × List ℕ)
    class_type_at text = if begins 76 text then type_at open_signs text else None

    abbrev pub thrown_at : List ℕ → Option (A × List ℕ)
    thrown_at text = expect 94 text (λ rest. if (if begins 76 rest then true else begins 84 rest) then type_at open_signs rest else None)

    abbrev pub result_at : List ℕ → Option (Option A × List ℕ)
    result_at text = if_behind (behind 86 text) (λ rest. one None rest) (next (type_at open_signs text) (λ ty rest. one (Some ty) rest))

    -- a superclass and interfaces, up to the end of the text
    abbrev pub supertypes_at : List ℕ → Option ((A × List A) × List ℕ)
    supertypes_at text =
        next (class_type_at text) (λ superclass rest.
        next (many not_empty class_type_at put [] rest) (λ interfaces end. one (superclass, interfaces) end))

    -- the parameters of a method
    abbrev pub arguments_of_method_at : List ℕ → Option (List A × List ℕ)
    arguments_of_method_at text =
        expect 40 text (λ rest. next (many (not_at 41) (type_at open_signs) put [] rest) (λ arguments after.
        expect 41 after (λ behind. one arguments behind)))

    -- the parameters of a method, its result and what it throws, up to the end of the text
    abbrev pub types_at : List ℕ → Option ((List A × Option A × List A) × List ℕ)
    types_at text =
        next (arguments_of_method_at text) (λ arguments after. next (result_at after) (λ returned behind.
        next (many not_empty thrown_at put [] behind) (λ thrown end. one (arguments, returned, thrown) end)))

-- Whole signatures, where the making of bounds is given, and that of all else by the type parameters.
module _ {A B S P : Type 0} (bounds : Making A B S P) (under : List P → Making A B S P) (open_signs : ℕ) where
  abbrev pub class_signature_at : List ℕ → Option ((List P × A × List A) × List ℕ)
  class_signature_at text =
      next (parameters_at bounds (inside bounds open_signs) text) (λ params after.
      next (supertypes_at (under params) open_signs after) (λ above end. one (params, above.0, above.1) end))

  abbrev pub method_signature_at : List ℕ → Option ((List P × List A × Option A × List A) × List ℕ)
  method_signature_at text =
      next (parameters_at bounds (inside bounds open_signs) text) (λ params after.
      next (types_at (under params) open_signs after) (λ types end. one (params, types.0, types.1, types.2) end))

-- Descriptors.

-- the class whose name in internal form ends before a semicolon
abbrev pub object_at : List ℕ → Option (JavaType × List ℕ)
object_at text =
    expect 59 (past_run (59 ∷ []) text) (λ rest.
    if is_internal_name (run (59 ∷ []) text) then one (class_named (dotted (run (59 ∷ []) text)) NoMore) rest else None)

-- a field's type, where the reader of what stands behind `[` is given
abbrev pub field_by : (List ℕ → Option (JavaType × List ℕ)) → List ℕ → Option (JavaType × List ℕ)
field_by array_by text =
    if_behind (behind 76 text) (λ rest. object_at rest)
    (if_behind (behind 91 text) (λ rest. array_by rest) (next (primitive_at text) (λ prim rest. one (Primitive prim) rest)))

-- an array behind its sign, where it may have so many dimensions
unfoldable pub array_at : ℕ → List ℕ → Option (JavaType × List ℕ)
array_at zero text = None
array_at (suc dimensions) text = next (field_by (array_at dimensions) text) (λ component rest. one (Array component) rest)

-- a field's type, where it may have so many dimensions
abbrev pub field_at : ℕ → List ℕ → Option (JavaType × List ℕ)
field_at dimensions text = field_by (array_at dimensions) text

-- the result of a method: none is `void`
abbrev pub return_at : ℕ → List ℕ → Option (JavaType × List ℕ)
return_at dimensions text = if_behind (behind 86 text) (λ rest. one Void rest) (field_at dimensions text)

abbrev pub method_descriptor_at : ℕ → List ℕ → Option ((List JavaType × JavaType) × List ℕ)
method_descriptor_at dimensions text =
    expect 40 text (λ rest. next (many (not_at 41) (field_at dimensions) put [] rest) (λ parameters after.
    expect 41 after (λ behind. next (return_at dimensions behind) (λ returned end. one (parameters, returned) end))))

-- What whole texts are read as, with at most 255 signs open at one place.

unfoldable pub descriptor_of : List ℕ → Option JavaType
descriptor_of text = whole (field_at 255 text)

abbrev pub described : Option (List JavaType × JavaType) → Option MethodTypes
described None = None
described (Some types) = Some (record { params = []; arguments = types.0; returned = types.1 })

unfoldable pub method_descriptor_of : List ℕ → Option MethodTypes
method_descriptor_of text = described (whole (method_descriptor_at 255 text))

unfoldable pub field_signature_of : List (List ℕ × JavaType) → List ℕ → Option JavaType
field_signature_of declared text = whole (type_at (types declared) 255 text)

abbrev pub class_read : Option (List (List ℕ × JavaType) × JavaType × List JavaType) → Option ClassTypes
class_read None = None
class_read (Some parts) = Some (record { params = parts.0; superclass = parts.1; interfaces = parts.2 })

unfoldable pub class_signature_of : List ℕ → Option ClassTypes
class_signature_of text = class_read (whole (class_signature_at (types []) types 255 text))

abbrev pub result_read : Option JavaType → JavaType
result_read None = Void
result_read (Some ty) = ty

abbrev pub method_read : Option (List (List ℕ × JavaType) × List JavaType × Option JavaType × List JavaType) → Option MethodTypes
method_read None = None
method_read (Some parts) = Some (record { params = parts.0; arguments = parts.1; returned = result_read parts.2 })

unfoldable pub method_signature_of : List (List ℕ × JavaType) → List ℕ → Option MethodTypes
method_signature_of around text = method_read (whole (method_signature_at (types []) (λ params. types (params ++ around)) 255 text))
