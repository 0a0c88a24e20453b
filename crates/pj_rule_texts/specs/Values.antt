-- What the texts of a ruleset mean: messages, priorities and the values of properties. A text is the list of its bytes in UTF-8.
use Rattle.std.specs.Prelude.{ℕ, ◌+◌, ◌^◌, ◌==◌, ◌&&◌, ◌||◌, ℤ, pos, neg_ℤ, Bool, not, List, [], ◌∷◌, length, drop, map, filter, Option, Some, None, codes, nat_lt, if◌then◌else◌}
use Rattle.std.specs.Option.{option_map}
use Rattle.std.specs.List.{join_by, slice_split}
use Rattle.std.specs.Str.{all_ascii_digits, bytes_eq, chars, encode_utf8_all}
use Rattle.std.specs.Str.Parse.{digits_value}
use Rattle.pj_xvalue.specs.Items.{ItemValue, String, Integer, Boolean}
use Rattle.pj_rule_texts.specs.declared.types.PropertyType.{PropertyType}
use Rattle.pj_rule_texts.specs.declared.types.PropertyType.TheVariants as type
use Rattle.pj_rule_texts.specs.declared.properties.Property.{Property}

abbrev pub Text : Type 0
Text = List ℕ

abbrev pub is_same : Text → Text → Bool
is_same a b = bytes_eq a b

abbrev pub is_empty : {A : Type 0} → List A → Bool
is_empty [] = Bool.true
is_empty (x ∷ xs) = Bool.false

abbrev pub is_one : {A : Type 0} → List A → Bool
is_one [] = Bool.false
is_one (x ∷ []) = Bool.true
is_one (x ∷ y ∷ xs) = Bool.false

-- ---- messages and priorities

-- white space is a space, a tab, a line feed and a carriage return
abbrev pub is_space : ℕ → Bool
is_space c = (c == 32) || ((c == 9) || ((c == 10) || (c == 13)))

-- the words between white space, of the characters of a text
abbrev pub words_of : List ℕ → List (List ℕ)
words_of characters = filter (λ word. not (is_empty word)) (slice_split is_space characters)

-- the words with one space between them
abbrev pub spaced : List (List ℕ) → List ℕ
spaced words = join_by (λ word. word) (32 ∷ []) words

-- each run of white space made one space, and the ends trimmed
abbrev pub normalized : Text → Text
normalized text = encode_utf8_all (spaced (words_of (chars text)))

-- a priority is one of the digits 1 to 5, with white space around it
abbrev pub priority_named : Text → Option ℕ
priority_named text = if bytes_eq text (codes "1") then Some 1
    else (if bytes_eq text (codes "2") then Some 2
    else (if bytes_eq text (codes "3") then Some 3
    else (if bytes_eq text (codes "4") then Some 4
    else (if bytes_eq text (codes "5") then Some 5 else None))))

abbrev pub priority_of : Text → Option ℕ
priority_of text = priority_named (normalized text)

-- ---- types of properties

abbrev pub type_named : Text → Option PropertyType
type_named kind = if bytes_eq kind (codes "String") then Some type.String
    else (if bytes_eq kind (codes "Boolean") then Some type.Boolean
    else (if bytes_eq kind (codes "Integer") then Some type.Integer
    else (if bytes_eq kind (codes "Long") then Some type.Long
    else (if bytes_eq kind (codes "Character") then Some type.Character
    else (if bytes_eq kind (codes "Regex") then Some type.Regex
    else (if bytes_eq kind (codes "List[String]") then Some type.StringList
    else (if bytes_eq kind (codes "List[Integer]") then Some type.IntegerList
    else None)))))))

-- ---- values of properties

abbrev pub boolean_of : Text → Option Bool
boolean_of text = if bytes_eq text (codes "true") then Some Bool.true
    else (if bytes_eq text (codes "false") then Some Bool.false else None)

-- one decimal digit or more; leading zeros are allowed
abbrev pub is_numeral : Text → Bool
is_numeral digits = all_ascii_digits digits && not (length digits == 0)

-- the number of the digits, which is below the bound
abbrev pub number_below : ℕ → Text → Option ℕ
number_below bound digits = if is_numeral digits && nat_lt (digits_value 10 digits) bound then Some (digits_value 10 digits) else None

abbrev pub begins_with : ℕ → Text → Bool
begins_with sign [] = Bool.false
begins_with sign (c ∷ cs) = c == sign

-- A signed number of so many bits besides its sign: `+` or `-` may stand before the digits, nothing else.
abbrev pub integer_of : ℕ → Text → Option ℤ
integer_of bits text = if begins_with 45 text then option_map (λ n. neg_ℤ (pos n)) (number_below (2 ^ bits + 1) (drop 1 text))
    else option_map (λ n. pos n) (number_below (2 ^ bits) (if begins_with 43 text then drop 1 text else text))

abbrev pub is_comma : ℕ → Bool
is_comma c = c == 44

-- the members of a list: the empty text has none, and any other text is cut at each comma
abbrev pub members_of : Text → List Text
members_of [] = []
members_of (c ∷ cs) = slice_split is_comma (c ∷ cs)

abbrev pub with_integer : Option ℤ → Option (List ItemValue) → Option (List ItemValue)
with_integer None items = None
with_integer (Some z) items = option_map (λ rest. Integer z ∷ rest) items

-- the integers that the members write, where each writes one
abbrev pub integers_of : List Text → Option (List ItemValue)
integers_of [] = Some []
integers_of (member ∷ members) = with_integer (integer_of 31 member) (integers_of members)

abbrev pub one : ItemValue → List ItemValue
one item = item ∷ []

-- the value of a property of this type, as a sequence; none where the text is outside the type
abbrev pub value_of_type : PropertyType → Text → Option (List ItemValue)
value_of_type type.String text = Some (one (String text))
value_of_type type.Boolean text = option_map (λ b. one (Boolean b)) (boolean_of text)
value_of_type type.Integer text = option_map (λ z. one (Integer z)) (integer_of 31 text)
value_of_type type.Long text = option_map (λ z. one (Integer z)) (integer_of 63 text)
value_of_type type.Character text = if is_one (chars text) then Some (one (String text)) else None
value_of_type type.Regex text = Some (one (String text))
value_of_type type.StringList text = Some (map String (members_of text))
value_of_type type.IntegerList text = integers_of (members_of text)

abbrev pub of_some_type : Option PropertyType → Text → Option (List ItemValue)
of_some_type None text = None
of_some_type (Some kind) text = value_of_type kind text

-- the value of a property of the type that is named so; none where there is no such type
abbrev pub typed_value : Text → Text → Option (List ItemValue)
typed_value kind text = of_some_type (type_named kind) text

-- ---- properties

-- The properties that need no type and are no variables.
abbrev pub is_xpath : Text → Bool
is_xpath name = bytes_eq name (codes "xpath")

abbrev pub is_suppression : Text → Bool
is_suppression name = bytes_eq name (codes "violationSuppressXPath")

abbrev pub is_suppressing_regex : Text → Bool
is_suppressing_regex name = bytes_eq name (codes "violationSuppressRegex")

abbrev pub is_version : Text → Bool
is_version name = bytes_eq name (codes "version")

abbrev pub needs_no_type : Text → Bool
needs_no_type name = is_xpath name || (is_suppression name || (is_suppressing_regex name || is_version name))

-- the variable of a property, with its value; none of one that needs no type
abbrev pub variable_of : Property → List (Text × List ItemValue)
variable_of property = if needs_no_type property.name then [] else with_value property.name (typed_value property.kind property.value)
  where
    with_value : Text → Option (List ItemValue) → List (Text × List ItemValue)
    with_value name None = []
    with_value name (Some value) = (name, value) ∷ []
