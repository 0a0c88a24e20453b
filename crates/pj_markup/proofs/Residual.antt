-- What is still to come of a document in each state of the reader.
use Rattle.std.proofs.Common.{◌≡◌, ℕ, suc, pred, ◌-◌, false, List, [], ◌∷◌, ◌++◌, length, Option, Some, None, drop, replicate}
use Rattle.std.specs.Prelude.{IsTrue, IsFalse, nat_le, encode_utf8}
use Rattle.std.specs.Str.{encode_utf8_all}
use Rattle.pj_markup.specs.Characters.{is_quote, is_scalar}
use Rattle.pj_markup.specs.Elements.{size, Row, Open, row_of, with_name, with_attribute, with_character, with_child}
use Rattle.pj_markup.specs.Markup as m
use Rattle.pj_markup.specs.Markup.{has_name, UpTo, end_of_comment, end_of_instruction, end_of_section}
use Rattle.pj_markup.specs.States.{Frame, Ground, Outside, Inside, Target, Content, Value, Word, Dashes, OpenSection, Empty, EndName, Entity, Long, InComment, InInstruction, InSection, State, Begin, On, Less, Bang, Letters, Until, TagName, Tag, TagSpace, AttributeName, Equals, Quote, InValue, EndSpace, Reference, ReferenceA, Hash, Digit, Digits, in_element, is_nil, ended, letters, repeated, times, take_in, behind_long}

abbrev pub sign : Long → List ℕ
sign (InComment g) = end_of_comment
sign (InInstruction g) = end_of_instruction
sign (InSection f) = end_of_section

-- all characters of a body
abbrev pub take_all : Long → List ℕ → Long
take_all l [] = l
take_all l (c ∷ cs) = take_all (take_in l c) cs

module _ (deepest end : ℕ) (final : List Row) where
  mutual
    -- behind an element that has ended, which is the last of the rows
    pub data Closing : List Row → List Open → List ℕ → Type 0 where
      root : {rows : List Row} {text : List ℕ} → m.Miscs text [] → final ≡ rows → Closing rows [] text
      outer : {rows : List Row} {g : Open} {around : List Open} {text : List ℕ} → In rows (with_child g (pred (length rows))) around text →
          Closing rows (g ∷ around) text

    -- within an element
    pub data In : List Row → Open → List Open → List ℕ → Type 0 where
      within : {rows ends : List Row} {e whole : Open} {around : List Open} {text rest behind : List ℕ} →
          m.Content deepest end (suc (length around)) rows e text ends whole rest → m.EndTag whole.name rest behind →
          Closing (ends ++ row_of whole ∷ []) around behind → In rows e around text

  -- outside the root
  pub data Out : List Row → List ℕ → Type 0 where
    before : {rows all : List Row} {text tag behind : List ℕ} → rows ≡ [] → m.Miscs text tag → m.Elem deepest end 1 [] tag all behind → m.Miscs behind [] → final ≡ all →
        Out rows text
    after : {rows : List Row} {text : List ℕ} → is_nil rows ≡ false → m.Miscs text [] → final ≡ rows → Out rows text

  abbrev pub OnGround : Ground → List ℕ → Type 0
  OnGround (Outside rows) text = Out rows text
  OnGround (Inside f) text = In f.rows f.element f.outer text

  pub data TagEnd : Frame → List ℕ → Type 0 where
    empty : {f : Frame} {behind : List ℕ} → Closing (f.rows ++ row_of f.element ∷ []) f.outer behind → TagEnd f (47 ∷ 62 ∷ behind)
    full : {f : Frame} {behind : List ℕ} → In f.rows f.element f.outer behind → TagEnd f (62 ∷ behind)

  abbrev pub InTag : Frame → List ℕ → Type 0
  InTag f text = (e : Open) × (behind : List ℕ) × m.Attributes f.element text e behind × TagEnd (in_element f e) behind

  pub data BehindSpace : Frame → List ℕ → Type 0 where
    done : {f : Frame} {text behind : List ℕ} → m.Spaces text behind → TagEnd f behind → BehindSpace f text
    attribute : {f : Frame} {text more name value rest : List ℕ} → m.Spaces text more → m.Attr more name value rest →
        IsFalse (has_name (encode_utf8_all name) f.element.attributes) → InTag (in_element f (with_attribute f.element (encode_utf8_all name) value)) rest →
        BehindSpace f text

  abbrev pub AtValue : Frame → List ℕ → ℕ → List ℕ → List ℕ → Type 0
  AtValue f name quote begun text =
      (value : List ℕ) × (behind : List ℕ) × m.Value quote begun text value (quote ∷ behind) × InTag (in_element f (with_attribute f.element (encode_utf8_all name) value)) behind

  abbrev pub AtQuote : Frame → List ℕ → List ℕ → Type 0
  AtQuote f name text = (q : ℕ) × (quoted : List ℕ) × m.Spaces text (q ∷ quoted) × IsTrue (is_quote q) × AtValue f name q [] quoted

  abbrev pub AtEquals : Frame → List ℕ → List ℕ → Type 0
  AtEquals f name text = (rest : List ℕ) × m.Spaces text (61 ∷ rest) × AtQuote f name rest

  abbrev pub AtEndSpace : Frame → List ℕ → Type 0
  AtEndSpace f text = (behind : List ℕ) × m.Spaces text (62 ∷ behind) × OnGround (ended (f.rows ++ row_of f.element ∷ []) f.outer) behind

  abbrev pub Puts : Target → ℕ → List ℕ → Type 0
  Puts (Content f) c behind = In f.rows (with_character f.element c) f.outer behind
  Puts (Value f name quote value) c behind = AtValue f name quote (value ++ encode_utf8 c) behind

  abbrev pub AtLong : Long → ℕ → List ℕ → Type 0
  AtLong l k text = (body : List ℕ) × (behind : List ℕ) × UpTo (sign l) (replicate k (repeated l) ++ text) body behind × OnGround (behind_long (take_all l body)) behind

  abbrev pub BehindWord : Word → List ℕ → Type 0
  BehindWord (Dashes g) text = AtLong (InComment g) 0 text
  BehindWord (OpenSection f) text = AtLong (InSection f) 0 text
  BehindWord (Empty f) text = OnGround (ended (f.rows ++ row_of f.element ∷ []) f.outer) text
  BehindWord (EndName f) text = AtEndSpace f text
  BehindWord (Entity t word c) text = Puts t c text

  abbrev pub ToCome : State → List ℕ → Type 0
  ToCome Begin text = (front : List ℕ) × m.Mark text front × Out [] front
  ToCome (On g) text = OnGround g text
  ToCome (Less g at) text = at ≡ end - size (60 ∷ text) → OnGround g (60 ∷ text)
  ToCome (Bang g) text = OnGround g (60 ∷ 33 ∷ text)
  ToCome (Letters w k) text = (rest : List ℕ) × (text ≡ drop k (letters w) ++ rest) × BehindWord w rest
  ToCome (Until l k) text = IsTrue (nat_le k (times l)) → AtLong l k text
  ToCome (TagName f) text = (name : List ℕ) × (rest : List ℕ) × m.NameTail f.element.name text name rest × InTag (in_element f (with_name f.element name)) rest
  ToCome (Tag f) text = InTag f text
  ToCome (TagSpace f) text = BehindSpace f text
  ToCome (AttributeName f begun) text =
      (name : List ℕ) × (rest : List ℕ) × m.NameTail begun text name rest × IsFalse (has_name (encode_utf8_all name) f.element.attributes) × AtEquals f name rest
  ToCome (Equals f name) text = AtEquals f name text
  ToCome (Quote f name) text = AtQuote f name text
  ToCome (InValue f name quote value) text = AtValue f name quote value text
  ToCome (EndSpace f) text = AtEndSpace f text
  ToCome (Reference t) text = (c : ℕ) × (behind : List ℕ) × m.Ref (38 ∷ text) c behind × Puts t c behind
  ToCome (ReferenceA t) text = (c : ℕ) × (behind : List ℕ) × m.Ref (38 ∷ 97 ∷ text) c behind × Puts t c behind
  ToCome (Hash t) text = (c : ℕ) × (behind : List ℕ) × m.Ref (38 ∷ 35 ∷ text) c behind × Puts t c behind
  ToCome (Digit t hexadecimal) text = (c : ℕ) × (behind : List ℕ) × m.Number hexadecimal text c behind × Puts t c behind
  ToCome (Digits t hexadecimal number) text =
      (c : ℕ) × (behind : List ℕ) × m.Digits hexadecimal number text c (59 ∷ behind) × IsTrue (is_scalar c) × Puts t c behind

  abbrev pub Goes : Option State → List ℕ → Type 0
  Goes None text = ⊥
  Goes (Some s) text = ToCome s text
