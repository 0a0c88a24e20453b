-- The grammar of the markup that ruleset files use:
--
--     Doc = U+FEFF? Misc* Elem Misc*
--     Misc = S / Comment / PI
--     Comment = '<!--' up to '-->'
--     PI = '<?' up to '?>'
--     Elem = '<' Name (S+ Attr)* S* ('/>' / '>' Content '</' Name S* '>')
--     Attr = Name S* '=' S* (one quoted value in " or in ')
--     Content = (Ref / CData / Comment / PI / Elem / a character but '<' and '&')*
--     CData = '<![CDATA[' up to ']]>'
--     Ref = '&lt;' / '&gt;' / '&amp;' / '&quot;' / '&apos;' / '&#' decimal digits ';' / '&#x' hexadecimal digits ';'
--
-- A text is the list of its characters. Each relation `X .. text .. behind` says that the text begins with an X, behind which the rest stands.
use Rattle.std.specs.Prelude.{◌≡◌, ℕ, suc, pred, ◌+◌, ◌*◌, ◌-◌, Bool, true, false, ◌==◌, ◌&&◌, nat_le, IsTrue, IsFalse, List, [], ◌∷◌, ◌++◌, length, Some, encode_utf8}
use Rattle.std.specs.Str.{encode_utf8_all}
use Rattle.pj_markup.specs.Characters.{is_space, starts_name, continues_name, is_quote, base, digit, greatest, is_scalar}
pub use Rattle.pj_markup.specs.Names.{has_name}
use Rattle.pj_markup.specs.Elements.{size, Row, Open, row_of, opened, with_attribute, with_character, with_characters, with_child}

-- S*
pub data Spaces : List ℕ → List ℕ → Type 0 where
  none : {text : List ℕ} → Spaces text text
  space : {c : ℕ} {text behind : List ℕ} → IsTrue (is_space c) → Spaces text behind → Spaces (c ∷ text) behind

-- the name that has begun as the first list goes on to be the second
pub data NameTail : List ℕ → List ℕ → List ℕ → List ℕ → Type 0 where
  ended : {name text : List ℕ} → NameTail name text name text
  further : {c : ℕ} {begun text name behind : List ℕ} → IsTrue (continues_name c) → NameTail (begun ++ c ∷ []) text name behind → NameTail begun (c ∷ text) name behind

pub data Name : List ℕ → List ℕ → List ℕ → Type 0 where
  named : {c : ℕ} {text name behind : List ℕ} → IsTrue (starts_name c) → NameTail (c ∷ []) text name behind → Name (c ∷ text) name behind

-- the text begins with the sign
abbrev pub begins_with : List ℕ → List ℕ → Bool
begins_with [] text = true
begins_with (x ∷ sign) [] = false
begins_with (x ∷ sign) (c ∷ text) = (c == x) && begins_with sign text

-- up to the first closing sign, which is included; the body stands before it
pub data UpTo (sign : List ℕ) : List ℕ → List ℕ → List ℕ → Type 0 where
  closed : {text behind : List ℕ} → text ≡ sign ++ behind → UpTo sign text [] behind
  inside : {c : ℕ} {text body behind : List ℕ} → IsFalse (begins_with sign (c ∷ text)) → UpTo sign text body behind → UpTo sign (c ∷ text) (c ∷ body) behind

-- -->
abbrev pub end_of_comment : List ℕ
end_of_comment = 45 ∷ 45 ∷ 62 ∷ []

-- ?>
abbrev pub end_of_instruction : List ℕ
end_of_instruction = 63 ∷ 62 ∷ []

-- ]]>
abbrev pub end_of_section : List ℕ
end_of_section = 93 ∷ 93 ∷ 62 ∷ []

pub data Comment : List ℕ → List ℕ → Type 0 where
  comment : {text body behind : List ℕ} → UpTo end_of_comment text body behind → Comment (60 ∷ 33 ∷ 45 ∷ 45 ∷ text) behind

-- a processing instruction; the XML declaration is read as one
pub data Instruction : List ℕ → List ℕ → Type 0 where
  instruction : {text body behind : List ℕ} → UpTo end_of_instruction text body behind → Instruction (60 ∷ 63 ∷ text) behind

pub data Section : List ℕ → List ℕ → List ℕ → Type 0 where
  section : {text body behind : List ℕ} → UpTo end_of_section text body behind →
      Section (60 ∷ 33 ∷ 91 ∷ 67 ∷ 68 ∷ 65 ∷ 84 ∷ 65 ∷ 91 ∷ text) body behind

-- Misc*
pub data Miscs : List ℕ → List ℕ → Type 0 where
  none : {text : List ℕ} → Miscs text text
  space : {c : ℕ} {text behind : List ℕ} → IsTrue (is_space c) → Miscs text behind → Miscs (c ∷ text) behind
  comment : {text further behind : List ℕ} → Comment text further → Miscs further behind → Miscs text behind
  instruction : {text further behind : List ℕ} → Instruction text further → Miscs further behind → Miscs text behind

-- The digits that go on a number: from the value before them to the value with them, which no digit may take past the last scalar value.
pub data Digits (hexadecimal : Bool) : ℕ → List ℕ → ℕ → List ℕ → Type 0 where
  ended : {number : ℕ} {text : List ℕ} → Digits hexadecimal number text number text
  further : {c d before number : ℕ} {text behind : List ℕ} → digit hexadecimal c ≡ Some d → IsTrue (nat_le (before * base hexadecimal + d) greatest) →
      Digits hexadecimal (before * base hexadecimal + d) text number behind → Digits hexadecimal before (c ∷ text) number behind

-- digits, at least one, and ;
pub data Number (hexadecimal : Bool) : List ℕ → ℕ → List ℕ → Type 0 where
  number : {c d number : ℕ} {text behind : List ℕ} → digit hexadecimal c ≡ Some d → Digits hexadecimal d text number (59 ∷ behind) → IsTrue (is_scalar number) →
      Number hexadecimal (c ∷ text) number behind

-- a reference and the character that it stands for
pub data Ref : List ℕ → ℕ → List ℕ → Type 0 where
  less : {behind : List ℕ} → Ref (38 ∷ 108 ∷ 116 ∷ 59 ∷ behind) 60 behind
  greater : {behind : List ℕ} → Ref (38 ∷ 103 ∷ 116 ∷ 59 ∷ behind) 62 behind
  ampersand : {behind : List ℕ} → Ref (38 ∷ 97 ∷ 109 ∷ 112 ∷ 59 ∷ behind) 38 behind
  quote : {behind : List ℕ} → Ref (38 ∷ 113 ∷ 117 ∷ 111 ∷ 116 ∷ 59 ∷ behind) 34 behind
  apostrophe : {behind : List ℕ} → Ref (38 ∷ 97 ∷ 112 ∷ 111 ∷ 115 ∷ 59 ∷ behind) 39 behind
  decimal : {c : ℕ} {text behind : List ℕ} → Number false text c behind → Ref (38 ∷ 35 ∷ text) c behind
  hexadecimal : {c : ℕ} {text behind : List ℕ} → Number true text c behind → Ref (38 ∷ 35 ∷ 120 ∷ text) c behind

-- a value in the quotes, from what is read of it to the whole, up to the closing quote
pub data Value (quote : ℕ) : List ℕ → List ℕ → List ℕ → List ℕ → Type 0 where
  ended : {value text : List ℕ} → Value quote value text value text
  character : {c : ℕ} {begun text value behind : List ℕ} → IsFalse (c == quote) → IsFalse (c == 60) → IsFalse (c == 38) →
      Value quote (begun ++ encode_utf8 c) text value behind → Value quote begun (c ∷ text) value behind
  reference : {c : ℕ} {begun text further value behind : List ℕ} → Ref text c further → Value quote (begun ++ encode_utf8 c) further value behind →
      Value quote begun text value behind

pub data Attr : List ℕ → List ℕ → List ℕ → List ℕ → Type 0 where
  attr : {q : ℕ} {text more rest quoted name value behind : List ℕ} → Name text name more → Spaces more (61 ∷ rest) → Spaces rest (q ∷ quoted) → IsTrue (is_quote q) →
      Value q [] quoted value (q ∷ behind) → Attr text name value behind

-- (S+ Attr)*: the attributes of one tag have different names
pub data Attributes : Open → List ℕ → Open → List ℕ → Type 0 where
  none : {e : Open} {text behind : List ℕ} → Spaces text behind → Attributes e text e behind
  attribute : {c : ℕ} {e whole : Open} {text more name value rest behind : List ℕ} → IsTrue (is_space c) → Spaces text more → Attr more name value rest →
      IsFalse (has_name (encode_utf8_all name) e.attributes) → Attributes (with_attribute e (encode_utf8_all name) value) rest whole behind →
      Attributes e (c ∷ text) whole behind

-- '</' Name S* '>', with the name of the start tag
pub data EndTag : List ℕ → List ℕ → List ℕ → Type 0 where
  end_tag : {name text spaces behind : List ℕ} → text ≡ name ++ spaces → Spaces spaces (62 ∷ behind) → EndTag name (60 ∷ 47 ∷ text) behind

-- what a Content is read within: no element stands deeper than `deepest`, the root's depth being 1, and the whole document ends `end` bytes behind its front
module _ (deepest end : ℕ) where
  -- a start tag without its closing sign: '<' Name (S+ Attr)* S*
  pub data StartTag : List ℕ → Open → List ℕ → Type 0 where
    start_tag : {text name more behind : List ℕ} {e : Open} → Name text name more → Attributes (opened (end - size (60 ∷ text)) name) more e behind →
        StartTag (60 ∷ text) e behind

  mutual
    -- An element at a depth, with the elements that end up to its end: those before it, then those within it, and the element itself.
    pub data Elem : ℕ → List Row → List ℕ → List Row → List ℕ → Type 0 where
      empty : {depth : ℕ} {before : List Row} {text behind : List ℕ} {e : Open} → IsTrue (nat_le depth deepest) → StartTag text e (47 ∷ 62 ∷ behind) →
          Elem depth before text (before ++ row_of e ∷ []) behind
      full : {depth : ℕ} {before within : List Row} {text content rest behind : List ℕ} {e whole : Open} → IsTrue (nat_le depth deepest) → StartTag text e (62 ∷ content) →
          Content depth before e content within whole rest → EndTag whole.name rest behind → Elem depth before text (within ++ row_of whole ∷ []) behind

    -- The content of an element of a depth: what it makes of the elements that ended before it, and of what was read of its own element.
    pub data Content : ℕ → List Row → Open → List ℕ → List Row → Open → List ℕ → Type 0 where
      none : {depth : ℕ} {rows : List Row} {e : Open} {text : List ℕ} → Content depth rows e text rows e text
      character : {depth c : ℕ} {before within : List Row} {e whole : Open} {text behind : List ℕ} → IsFalse (c == 60) → IsFalse (c == 38) →
          Content depth before (with_character e c) text within whole behind → Content depth before e (c ∷ text) within whole behind
      reference : {depth c : ℕ} {before within : List Row} {e whole : Open} {text further behind : List ℕ} → Ref text c further →
          Content depth before (with_character e c) further within whole behind → Content depth before e text within whole behind
      section : {depth : ℕ} {before within : List Row} {e whole : Open} {text body further behind : List ℕ} → Section text body further →
          Content depth before (with_characters e body) further within whole behind → Content depth before e text within whole behind
      comment : {depth : ℕ} {before within : List Row} {e whole : Open} {text further behind : List ℕ} → Comment text further →
          Content depth before e further within whole behind → Content depth before e text within whole behind
      instruction : {depth : ℕ} {before within : List Row} {e whole : Open} {text further behind : List ℕ} → Instruction text further →
          Content depth before e further within whole behind → Content depth before e text within whole behind
      element : {depth : ℕ} {before ended within : List Row} {e whole : Open} {text further behind : List ℕ} → Elem (suc depth) before text ended further →
          Content depth ended (with_child e (pred (length ended))) further within whole behind → Content depth before e text within whole behind

-- U+FEFF?
pub data Mark : List ℕ → List ℕ → Type 0 where
  none : {text : List ℕ} → Mark text text
  mark : {text : List ℕ} → Mark (65279 ∷ text) text

-- the text is a document without an element deeper than `deepest`; its elements are these
pub data Doc (deepest : ℕ) : List ℕ → List Row → Type 0 where
  document : {text front root behind : List ℕ} {rows : List Row} → Mark text front → Miscs front root → Elem deepest (size text) 1 [] root rows behind → Miscs behind [] →
      Doc deepest text rows
