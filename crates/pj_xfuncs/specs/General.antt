-- Functions of any items, and what makes text of values (XPath Functions and Operators, 2.3, 2.4, 7.4.1, 7.4.2, 9, 15.1, 15.4.1).
use Rattle.std.specs.Prelude.{pos, not, List, [], ◌∷◌, ◌++◌, length, map, flat_map, Result, Ok, ◌==◌}
use Rattle.pj_xvalue.specs.declared.fault.XCode.{XCode}
use Rattle.pj_xvalue.specs.Atomic.{only_atomic, text_of}
use Rattle.pj_xvalue.specs.Boolean.{effective_boolean}
use Rattle.pj_xvalue.specs.Items.{ItemValue, String, Integer}
use Rattle.pj_xvalue.specs.Arguments.{Text, and_then, atomic_text, string, text_in, one, truth}

-- `count` (15.4.1)
abbrev pub count : List ItemValue → Result (List ItemValue) XCode
count items = one (Integer (pos (length items)))

-- `exists` (15.1.5)
abbrev pub exists : List ItemValue → Result (List ItemValue) XCode
exists items = truth (not (length items == 0))

-- `empty` (15.1.4)
abbrev pub is_empty : List ItemValue → Result (List ItemValue) XCode
is_empty items = truth (length items == 0)

-- `boolean` (15.1.1)
abbrev pub boolean : List ItemValue → Result (List ItemValue) XCode
boolean items = and_then (effective_boolean items) (λ b. truth b)

-- `not` (9.3.1)
abbrev pub negated : List ItemValue → Result (List ItemValue) XCode
negated items = and_then (effective_boolean items) (λ b. truth (not b))

-- `string` of an argument (2.3): its items are not atomised, and the string of a node is empty
abbrev pub string_value : List ItemValue → Result (List ItemValue) XCode
string_value items = and_then (text_in items) (λ text. one (String text))

-- `data` (2.4)
abbrev pub data_of : List ItemValue → Result (List ItemValue) XCode
data_of items = only_atomic items

-- the texts of the arguments, one after the other
abbrev pub texts_joined : List (List ItemValue) → Result Text XCode
texts_joined [] = Ok []
texts_joined (argument ∷ rest) = and_then (atomic_text argument) (λ text. and_then (texts_joined rest) (λ more. Ok (text ++ more)))

-- `concat` (7.4.1)
abbrev pub concatenated : List (List ItemValue) → Result (List ItemValue) XCode
concatenated arguments = and_then (texts_joined arguments) (λ text. one (String text))

-- the texts, with the separator between each two
abbrev pub joined_with : Text → List Text → Text
joined_with separator [] = []
joined_with separator (text ∷ texts) = text ++ flat_map (λ next. separator ++ next) texts

-- `string-join` (7.4.2), with the atomic values of 3.1
abbrev pub string_join : List ItemValue → List ItemValue → Result (List ItemValue) XCode
string_join items separator = and_then (only_atomic items) (λ values. and_then (string separator) (λ between. one (String (joined_with between (map text_of values)))))
