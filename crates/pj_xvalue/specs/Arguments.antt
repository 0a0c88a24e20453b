-- What a parameter takes of an argument (XPath 2.0, 3.1.5): the typed values of its items, then their number, then their type.
use Rattle.std.specs.Prelude.{◌≡◌, ℕ, ℤ, Bool, List, [], ◌∷◌, Option, Some, None, Result, Ok, Err}
use Rattle.pj_names.specs.declared.oracle.AskFault.{AskFault}
use Rattle.pj_names.specs.declared.oracle.AskFault.TheVariants.{Failed, Memory}
use Rattle.pj_xvalue.specs.declared.fault.XCode.{XCode}
use Rattle.pj_xvalue.specs.declared.fault.XCode.TheVariants.{XPTY0004}
use Rattle.pj_xvalue.specs.Atomic.{only_atomic, text_of}
use Rattle.pj_xvalue.specs.Items.{ItemValue, String, Integer, Boolean}

-- a text as the list of its bytes in UTF-8
abbrev pub Text : Type 0
Text = List ℕ

-- a value, or the code of an error, after another: the first code is the answer
abbrev pub and_then : {A B : Type 0} → Result A XCode → (A → Result B XCode) → Result B XCode
and_then (Ok value) next = next value
and_then (Err code) next = Err code

-- a value as it is seen, or a code
abbrev pub seen_as : {A B : Type 0} → (A → B) → Result A XCode → Result B XCode
seen_as view (Ok value) = Ok (view value)
seen_as view (Err code) = Err code

-- What a call that asks for no class returned: this value or this code, or want of memory.
abbrev pub IsGiven : {A : Type 0} → Result A XCode → Result (Result A XCode) AskFault → Type 0
IsGiven meant (Ok given) = given ≡ meant
IsGiven meant (Err Memory) = Unit {0}
IsGiven meant (Err Failed) = ⊥

-- ---- by number and type

-- at most one item, as text
abbrev pub text_in : List ItemValue → Result Text XCode
text_in [] = Ok []
text_in (item ∷ []) = Ok (text_of item)
text_in _ = Err XPTY0004

-- at most one string, and nothing is the empty string
abbrev pub string_or_nothing : List ItemValue → Result Text XCode
string_or_nothing [] = Ok []
string_or_nothing (String text ∷ []) = Ok text
string_or_nothing _ = Err XPTY0004

-- one string
abbrev pub one_string : List ItemValue → Result Text XCode
one_string (String text ∷ []) = Ok text
one_string _ = Err XPTY0004

-- one integer
abbrev pub one_integer : List ItemValue → Result ℤ XCode
one_integer (Integer z ∷ []) = Ok z
one_integer _ = Err XPTY0004

-- at most one integer
abbrev pub integer_or_nothing : List ItemValue → Result (Option ℤ) XCode
integer_or_nothing [] = Ok None
integer_or_nothing (Integer z ∷ []) = Ok (Some z)
integer_or_nothing _ = Err XPTY0004

-- one item
abbrev pub one_item : List ItemValue → Result ItemValue XCode
one_item (item ∷ []) = Ok item
one_item _ = Err XPTY0004

-- at most one item
abbrev pub item_or_nothing : List ItemValue → Result (List ItemValue) XCode
item_or_nothing [] = Ok []
item_or_nothing (item ∷ []) = Ok (item ∷ [])
item_or_nothing _ = Err XPTY0004

abbrev pub integer_before : ItemValue → Result (List ℤ) XCode → Result (List ℤ) XCode
integer_before (Integer z) rest = and_then rest (λ more. Ok (z ∷ more))
integer_before _ rest = Err XPTY0004

-- integers alone
abbrev pub integers : List ItemValue → Result (List ℤ) XCode
integers [] = Ok []
integers (item ∷ items) = integer_before item (integers items)

-- ---- the parameters of the functions

-- `xs:string?`
abbrev pub optional_string : List ItemValue → Result Text XCode
optional_string items = and_then (only_atomic items) string_or_nothing

-- `xs:string`
abbrev pub string : List ItemValue → Result Text XCode
string items = and_then (only_atomic items) one_string

-- `xs:integer`
abbrev pub integer : List ItemValue → Result ℤ XCode
integer items = and_then (only_atomic items) one_integer

-- `xs:integer?`
abbrev pub optional_integer : List ItemValue → Result (Option ℤ) XCode
optional_integer items = and_then (only_atomic items) integer_or_nothing

-- `xs:integer*`
abbrev pub all_integers : List ItemValue → Result (List ℤ) XCode
all_integers items = and_then (only_atomic items) integers

-- `xs:anyAtomicType`
abbrev pub atomic : List ItemValue → Result ItemValue XCode
atomic items = and_then (only_atomic items) one_item

-- `xs:anyAtomicType?`
abbrev pub optional_atomic : List ItemValue → Result (List ItemValue) XCode
optional_atomic items = and_then (only_atomic items) item_or_nothing

-- `xs:anyAtomicType?`, as text
abbrev pub atomic_text : List ItemValue → Result Text XCode
atomic_text items = and_then (only_atomic items) text_in

-- ---- results

abbrev pub one : ItemValue → Result (List ItemValue) XCode
one item = Ok (item ∷ [])

abbrev pub truth : Bool → Result (List ItemValue) XCode
truth b = one (Boolean b)
