-- The format of class files, JVMS 4. The kinds of faults: 1 the bytes end, 2 magic, 3 version, 4 tag of a constant,
-- 5 index into the constant pool, 6 modified UTF-8 or class name, 7 descriptor, 8 signature, 9 length of an attribute,
-- 10 bytes behind the class. A judge of a field gives its value or the kind of its fault.
use Rattle.std.specs.Prelude.{◌==◌, ◌&&◌, ◌++◌, ℕ, zero, suc, Bool, true, false, List, [], ◌∷◌, codes, map, flat_map, slice_get, Option, Some, None, Result, Ok, Err, nat_lt, nat_eq, unwrap_or, if◌then◌else◌}
use Rattle.std.specs.Cmp.Lexicographic.{pointwise}
use Rattle.pj_names.specs.declared.answer.ClassInfo.{ClassInfo}
use Rattle.pj_names.specs.declared.answer.Member.{Member}
use Rattle.pj_format.specs.Format.{Format, Done, ◌>>=◌, ◌and_then◌, whole}
use Rattle.pj_format.specs.Fields.{u8, u8_as, u16, u16_as, u32, u32_as, run, several, several_from}
use Rattle.pj_classfile.specs.declared.pool.Constant.{Constant}
use Rattle.pj_classfile.specs.declared.pool.Constant.TheVariants as constants
use Rattle.pj_classfile.specs.declared.pool.Tag.{Tag}
use Rattle.pj_classfile.specs.declared.pool.Tag.TheVariants as tags
use Rattle.pj_classfile.specs.declared.member.MemberKind.{MemberKind}
use Rattle.pj_classfile.specs.declared.member.MemberKind.TheVariants as kinds
use Rattle.pj_classfile.specs.declared.member.Holder.{Holder}
use Rattle.pj_classfile.specs.declared.member.Holder.TheVariants as holders
use Rattle.pj_classfile.specs.ModifiedUtf8.{decoded}
use Rattle.pj_signatures.specs.Names.{dotted, is_internal_name}
use Rattle.pj_classfile.specs.Texts.{is_descriptor, is_method_descriptor, is_class_signature, is_method_signature, is_field_signature}

-- The constant pool, JVMS 4.4.

-- what a slot of the pool is to the rest of the class: bytes, the index of a class's name, or anything else
pub data Slot : Type 0 where
  Utf8 : List ℕ → Slot
  Class : ℕ → Slot
  Other : Slot

abbrev pub view : Constant → Slot
view (constants.Utf8 bytes) = Utf8 bytes.now
view (constants.Class name) = Class name
view constants.Other = Other

abbrev pub views : List Constant → List Slot
views cs = map view cs

-- the tags, JVMS table 4.4-A
abbrev pub tag_of : ℕ → Result Tag ℕ
tag_of n =
    if n == 1 then Ok tags.Utf8
    else if n == 3 then Ok tags.Integer
    else if n == 4 then Ok tags.Float
    else if n == 5 then Ok tags.Long
    else if n == 6 then Ok tags.Double
    else if n == 7 then Ok tags.Class
    else if n == 8 then Ok tags.String
    else if n == 9 then Ok tags.Fieldref
    else if n == 10 then Ok tags.Methodref
    else if n == 11 then Ok tags.InterfaceMethodref
    else if n == 12 then Ok tags.NameAndType
    else if n == 15 then Ok tags.MethodHandle
    else if n == 16 then Ok tags.MethodType
    else if n == 17 then Ok tags.Dynamic
    else if n == 18 then Ok tags.InvokeDynamic
    else if n == 19 then Ok tags.Module
    else if n == 20 then Ok tags.Package
    else Err 4

unfoldable pub tag : Format Tag
tag = u8_as tag_of

-- What stands behind a tag. With the slot comes whether the constant takes the next slot too.

unfoldable pub utf8 : Format (Slot × Bool)
utf8 = do
  count ← u16
  bytes ← run count
  Done (Utf8 bytes, false)

unfoldable pub class : Format (Slot × Bool)
class = do
  name ← u16
  Done (Class name, false)

unfoldable pub index : Format (Slot × Bool)
index = do
  one ← u16
  Done (Other, false)

unfoldable pub two_indices : Format (Slot × Bool)
two_indices = do
  one ← u16
  other ← u16
  Done (Other, false)

unfoldable pub number : Format (Slot × Bool)
number = do
  bytes ← u32
  Done (Other, false)

unfoldable pub wide_number : Format (Slot × Bool)
wide_number = do
  high ← u32
  low ← u32
  Done (Other, true)

unfoldable pub method_handle : Format (Slot × Bool)
method_handle = do
  kind ← u8
  reference ← u16
  Done (Other, false)

abbrev pub content : Tag → Format (Slot × Bool)
content tags.Utf8 = utf8
content tags.Integer = number
content tags.Float = number
content tags.Long = wide_number
content tags.Double = wide_number
content tags.Class = class
content tags.String = index
content tags.Fieldref = two_indices
content tags.Methodref = two_indices
content tags.InterfaceMethodref = two_indices
content tags.NameAndType = two_indices
content tags.MethodHandle = method_handle
content tags.MethodType = index
content tags.Dynamic = two_indices
content tags.InvokeDynamic = two_indices
content tags.Module = index
content tags.Package = index

-- a slot: where the one before it took two, it holds nothing
unfoldable pub slot : Bool → Format (Slot × Bool)
slot true = Done (Other, false)
slot false = tag >>= λ t. content t

-- The slots by their numbers. Slot 0 holds nothing.
unfoldable pub slots : ℕ → Format (List Slot)
slots count = several_from slot count true

-- What stands behind an index.

abbrev pub bytes_behind : Option Slot → Result (List ℕ) ℕ
bytes_behind (Some (Utf8 bytes)) = Ok bytes
bytes_behind (Some (Class name)) = Err 5
bytes_behind (Some Other) = Err 5
bytes_behind None = Err 5

-- the bytes of a Utf8 constant
unfoldable pub bytes_in : List Slot → ℕ → Result (List ℕ) ℕ
bytes_in pool at = bytes_behind (slice_get pool at)

abbrev pub some_or : {A : Type 0} → Option A → ℕ → Result A ℕ
some_or None kind = Err kind
some_or (Some x) kind = Ok x

-- the text of a Utf8 constant, from its modified UTF-8
unfoldable pub text_in : List Slot → ℕ → Result (List ℕ) ℕ
text_in pool at = bytes_in pool at and_then λ bytes. some_or (decoded bytes) 6

-- the text, where it passes a test
abbrev pub passing : (List ℕ → Bool) → ℕ → List ℕ → Result (List ℕ) ℕ
passing test kind text = if test text then Ok text else Err kind

abbrev pub name_behind : Option Slot → Result ℕ ℕ
name_behind (Some (Utf8 bytes)) = Err 5
name_behind (Some (Class name)) = Ok name
name_behind (Some Other) = Err 5
name_behind None = Err 5

-- the name of a Class constant, in internal form
unfoldable pub class_in : List Slot → ℕ → Result (List ℕ) ℕ
class_in pool at = name_behind (slice_get pool at) and_then λ name. text_in pool name and_then λ text. passing is_internal_name 6 text

-- Descriptors and signatures. A method's descriptor is read as its signature too, where it has no other.

abbrev pub is_descriptor_of : MemberKind → List ℕ → Bool
is_descriptor_of kinds.Field text = is_descriptor text
is_descriptor_of kinds.Method text = is_method_descriptor text && is_method_signature text

abbrev pub is_signature_of : Holder → List ℕ → Bool
is_signature_of holders.Class text = is_class_signature text
is_signature_of holders.Field text = is_field_signature text
is_signature_of holders.Method text = is_method_signature text

unfoldable pub descriptor_in : MemberKind → List Slot → ℕ → Result (List ℕ) ℕ
descriptor_in kind pool at = text_in pool at and_then λ text. passing (is_descriptor_of kind) 7 text

unfoldable pub signature_in : Holder → List Slot → ℕ → Result (List ℕ) ℕ
signature_in holder pool at = text_in pool at and_then λ text. passing (is_signature_of holder) 8 text

-- Attributes, JVMS 4.7. One that is named Signature, JVMS 4.7.9, has the length 2 and an index; of every other only the
-- length is read.

abbrev pub is_two : ℕ → Result ℕ ℕ
is_two n = if n == 2 then Ok n else Err 9

unfoldable pub signature_content : Holder → List Slot → Format (Option (List ℕ))
signature_content holder pool = do
  count ← u32_as is_two
  signature ← u16_as (signature_in holder pool)
  Done (Some signature)

unfoldable pub other_content : Format (Option (List ℕ))
other_content = do
  count ← u32
  bytes ← run count
  Done None

-- whether an attribute's name says that it is a signature
unfoldable pub is_signature_in : List Slot → ℕ → Result Bool ℕ
is_signature_in pool at = bytes_in pool at and_then λ name. Ok (pointwise nat_eq name (codes "Signature"))

abbrev pub attribute_content : Holder → List Slot → Bool → Format (Option (List ℕ))
attribute_content holder pool true = signature_content holder pool
attribute_content holder pool false = other_content

unfoldable pub attribute : Holder → List Slot → Format (Option (List ℕ))
attribute holder pool = do
  is_signature ← u16_as (is_signature_in pool)
  attribute_content holder pool is_signature

abbrev pub or_next : Option (List ℕ) → Option (List ℕ) → Option (List ℕ)
or_next (Some x) y = Some x
or_next None y = y

-- so many attributes: the signature that was found before them, or the first among them
unfoldable pub signature_among : Holder → List Slot → ℕ → Option (List ℕ) → Format (Option (List ℕ))
signature_among holder pool zero found = Done found
signature_among holder pool (suc n) found = attribute holder pool >>= λ one. signature_among holder pool n (or_next found one)

-- a table of attributes: the first signature in it
unfoldable pub signature : Holder → List Slot → Format (Option (List ℕ))
signature holder pool = u16 >>= λ count. signature_among holder pool count None

-- Fields and methods, JVMS 4.5 and 4.6. Where no signature is written it is the descriptor.

abbrev pub holder_of : MemberKind → Holder
holder_of kinds.Field = holders.Field
holder_of kinds.Method = holders.Method

unfoldable pub member : MemberKind → List Slot → Format Member
member kind pool = do
  flags ← u16
  name ← u16_as (text_in pool)
  descriptor ← u16_as (descriptor_in kind pool)
  written ← signature (holder_of kind) pool
  Done (record { flags = flags; name = name; signature = unwrap_or written descriptor })

unfoldable pub members : MemberKind → List Slot → Format (List Member)
members kind pool = u16 >>= λ count. several (member kind pool) count

-- The class, JVMS 4.1.

abbrev pub is_magic : ℕ → Result ℕ ℕ
is_magic n = if n == 0xcafebabe then Ok n else Err 2

abbrev pub is_major : ℕ → Result ℕ ℕ
is_major n = if nat_lt n 45 then Err 3 else Ok n

-- all up to the constant pool
unfoldable pub head : Format (List Slot)
head = do
  magic ← u32_as is_magic
  minor ← u16
  major ← u16_as is_major
  count ← u16
  slots count

-- the class that has no superclass, in internal form
abbrev pub object : List ℕ
object = codes "java/lang/Object"

abbrev pub is_object : List ℕ → Bool
is_object name = pointwise nat_eq name object

-- The superclass of a class of this name. Only `java.lang.Object` may have none; it stands for itself then.
unfoldable pub superclass_in : List Slot → List ℕ → ℕ → Result (List ℕ) ℕ
superclass_in pool name at = if at == 0 && is_object name then Ok object else class_in pool at

-- a class type without type arguments, JVMS 4.7.9.1
abbrev pub class_type : List ℕ → List ℕ
class_type name = 76 ∷ (name ++ 59 ∷ [])

-- the superclass that a made signature names: of `java.lang.Object` it is the class itself
abbrev pub named_superclass : List ℕ → List ℕ → List ℕ
named_superclass name superclass = if is_object name then object else superclass

-- The signature that is made where none is written: the superclass, and the interfaces in their order.
abbrev pub made_signature : List ℕ → List ℕ → List (List ℕ) → List ℕ
made_signature name superclass interfaces = class_type (named_superclass name superclass) ++ flat_map class_type interfaces

-- all behind the constant pool
unfoldable pub body : List Slot → Format ClassInfo
body pool = do
  flags ← u16
  name ← u16_as (class_in pool)
  superclass ← u16_as (superclass_in pool name)
  count ← u16
  interfaces ← several (u16_as (class_in pool)) count
  fields ← members kinds.Field pool
  methods ← members kinds.Method pool
  written ← signature holders.Class pool
  Done (record { name = dotted name; flags = flags; signature = unwrap_or written (made_signature name superclass interfaces); fields = fields; methods = methods })

unfoldable pub class_structure : Format ClassInfo
class_structure = head >>= λ pool. body pool

unfoldable pub class_file : Format ClassInfo
class_file = whole 10 class_structure
