-- What is read of an element.
pub use Rattle.pj_markup.specs.declared.element.Attribute.{Attribute}
pub use Rattle.pj_markup.specs.declared.element.Row.{Row}
pub use Rattle.pj_markup.specs.declared.element.Open.{Open}
pub use Rattle.pj_markup.specs.declared.element.Element.{Element}
use Rattle.std.specs.Prelude.{ℕ, zero, suc, List, [], ◌∷◌, ◌++◌, length, Option, Some, None, nat_eq, if◌then◌else◌, encode_utf8}
use Rattle.std.specs.Cmp.Lexicographic.{pointwise}
use Rattle.std.specs.Str.{encode_utf8_all}

-- how many bytes the text takes in UTF-8
abbrev pub size : List ℕ → ℕ
size text = length (encode_utf8_all text)

-- An attribute is its name and its value, in UTF-8. A row is an element: its name, the offset in bytes of the < of its start tag, its attributes in order, its
-- own text, and the numbers of its children in order; elements are numbered from 0 in the order of their ends, so the root has the last number. `Open` is what
-- is read so far of an element that is open, with its name as characters.

abbrev pub row_of : Open → Row
row_of e = record { name = encode_utf8_all e.name; offset = e.offset; attributes = e.attributes; text = e.text; children = e.children }

-- an element of which only the name is read
abbrev pub opened : ℕ → List ℕ → Open
opened offset name = record { name = name; offset = offset; attributes = []; text = []; children = [] }

abbrev pub with_name : Open → List ℕ → Open
with_name e name = record { name = name; offset = e.offset; attributes = e.attributes; text = e.text; children = e.children }

abbrev pub with_attribute : Open → List ℕ → List ℕ → Open
with_attribute e name value = record { name = e.name; offset = e.offset; attributes = e.attributes ++ record { name = name; value = value } ∷ []; text = e.text; children = e.children }

-- one more character of its own text
abbrev pub with_character : Open → ℕ → Open
with_character e c = record { name = e.name; offset = e.offset; attributes = e.attributes; text = e.text ++ encode_utf8 c; children = e.children }

abbrev pub with_characters : Open → List ℕ → Open
with_characters e [] = e
with_characters e (c ∷ cs) = with_characters (with_character e c) cs

abbrev pub with_child : Open → ℕ → Open
with_child e child = record { name = e.name; offset = e.offset; attributes = e.attributes; text = e.text; children = e.children ++ record { number = child } ∷ [] }

-- the element of a number, and one with nothing for a number that none has
abbrev pub row_at : List Row → ℕ → Row
row_at [] n = record { name = []; offset = 0; attributes = []; text = []; children = [] }
row_at (r ∷ rows) zero = r
row_at (r ∷ rows) (suc n) = row_at rows n

-- the value of the attribute of a name
abbrev pub value_of : List ℕ → List Attribute → Option (List ℕ)
value_of name [] = None
value_of name (a ∷ attributes) = if pointwise nat_eq a.name name then Some a.value else value_of name attributes
