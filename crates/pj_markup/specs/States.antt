-- What was read of a text, and how a character goes on with it. Nothing public is said by these: they are how the reader works.
use Rattle.std.specs.Prelude.{ℕ, zero, suc, pred, ◌+◌, ◌*◌, ◌-◌, Bool, true, false, not, ◌==◌, ◌&&◌, nat_le, List, [], ◌∷◌, ◌++◌, length, Option, Some, None, slice_get, encode_utf8, if◌then◌else◌}
use Rattle.std.specs.Str.{encode_utf8_all}
use Rattle.pj_markup.specs.Characters.{is_space, starts_name, continues_name, is_quote, base, digit, greatest, is_scalar}
use Rattle.pj_markup.specs.Elements.{size, Row, Open, row_of, opened, with_name, with_attribute, with_character, with_child}
use Rattle.pj_markup.specs.Markup.{has_name}

-- the elements that ended, the element that is read, and those around it, the innermost first
pub record Frame : Type 0 where
  pub rows : List Row
  pub element : Open
  pub outer : List Open

-- where a comment or an instruction stands
pub data Ground : Type 0 where
  Outside : List Row → Ground
  Inside : Frame → Ground

-- what a reference goes into: the element's text, or the value of an attribute with its name, its quote and what is read of it
pub data Target : Type 0 where
  Content : Frame → Target
  Value : Frame → List ℕ → ℕ → List ℕ → Target

-- words whose letters are fixed
pub data Word : Type 0 where
  -- -- behind <!
  Dashes : Ground → Word
  -- [CDATA[ behind <!
  OpenSection : Frame → Word
  -- />
  Empty : Frame → Word
  -- the name in an end tag
  EndName : Frame → Word
  -- lt; and the like, with the character that it stands for
  Entity : Target → List ℕ → ℕ → Word

-- what goes up to a closing sign
pub data Long : Type 0 where
  InComment : Ground → Long
  InInstruction : Ground → Long
  InSection : Frame → Long

pub data State : Type 0 where
  Begin : State
  On : Ground → State
  -- behind a <, with its offset
  Less : Ground → ℕ → State
  -- behind <!
  Bang : Ground → State
  -- so many letters of the word are read
  Letters : Word → ℕ → State
  -- as many of the characters that repeat before the closing sign's last were read directly before
  Until : Long → ℕ → State
  -- in the name of a start tag
  TagName : Frame → State
  -- behind the name or an attribute
  Tag : Frame → State
  -- behind a space there
  TagSpace : Frame → State
  AttributeName : Frame → List ℕ → State
  Equals : Frame → List ℕ → State
  Quote : Frame → List ℕ → State
  InValue : Frame → List ℕ → ℕ → List ℕ → State
  EndSpace : Frame → State
  -- behind &, &a, &# or &#x, and behind digits
  Reference : Target → State
  ReferenceA : Target → State
  Hash : Target → State
  Digit : Target → Bool → State
  Digits : Target → Bool → ℕ → State

abbrev pub is_nil : List Row → Bool
is_nil [] = true
is_nil (r ∷ rs) = false

abbrev pub in_element : Frame → Open → Frame
in_element f e = record { rows = f.rows; element = e; outer = f.outer }

-- the element of the frame has ended
abbrev pub ended : List Row → List Open → Ground
ended rows [] = Outside rows
ended rows (g ∷ outer) = Inside (record { rows = rows; element = with_child g (pred (length rows)); outer = outer })

abbrev pub close : Frame → State
close f = On (ended (f.rows ++ row_of f.element ∷ []) f.outer)

-- a start tag begins
abbrev pub start_tag : Ground → ℕ → ℕ → State
start_tag (Outside rows) at c = TagName (record { rows = rows; element = opened at (c ∷ []); outer = [] })
start_tag (Inside f) at c = TagName (record { rows = f.rows; element = opened at (c ∷ []); outer = f.element ∷ f.outer })

abbrev pub may_start : Ground → Bool
may_start (Outside rows) = is_nil rows
may_start (Inside f) = true

-- how deep an element would stand that starts here
abbrev pub depth : Ground → ℕ
depth (Outside rows) = 1
depth (Inside f) = suc (suc (length f.outer))

abbrev pub is_inside : Ground → Bool
is_inside (Outside rows) = false
is_inside (Inside f) = true

abbrev pub put : Target → ℕ → State
put (Content f) c = On (Inside (in_element f (with_character f.element c)))
put (Value f name quote value) c = InValue f name quote (value ++ encode_utf8 c)

abbrev pub letters : Word → List ℕ
letters (Dashes g) = 45 ∷ 45 ∷ []
letters (OpenSection f) = 91 ∷ 67 ∷ 68 ∷ 65 ∷ 84 ∷ 65 ∷ 91 ∷ []
letters (Empty f) = 47 ∷ 62 ∷ []
letters (EndName f) = f.element.name
letters (Entity t word c) = word

-- where the word is whole
abbrev pub behind_word : Word → State
behind_word (Dashes g) = Until (InComment g) 0
behind_word (OpenSection f) = Until (InSection f) 0
behind_word (Empty f) = close f
behind_word (EndName f) = EndSpace f
behind_word (Entity t word c) = put t c

-- the character that repeats before the last of the closing sign, and how often
abbrev pub repeated : Long → ℕ
repeated (InComment g) = 45
repeated (InInstruction g) = 63
repeated (InSection f) = 93

abbrev pub times : Long → ℕ
times (InComment g) = 2
times (InInstruction g) = 1
times (InSection f) = 2

-- a character of the body
abbrev pub take_in : Long → ℕ → Long
take_in (InComment g) c = InComment g
take_in (InInstruction g) c = InInstruction g
take_in (InSection f) c = InSection (in_element f (with_character f.element c))

-- the first ones of the repeated characters turn out to be of the body
abbrev pub take_back : Long → ℕ → Long
take_back l zero = l
take_back l (suc n) = take_back (take_in l (repeated l)) n

abbrev pub behind_long : Long → Ground
behind_long (InComment g) = g
behind_long (InInstruction g) = g
behind_long (InSection f) = Inside f

abbrev pub on_ground : Ground → ℕ → ℕ → Option State
on_ground (Outside rows) at c = if is_space c then Some (On (Outside rows)) else (if c == 60 then Some (Less (Outside rows) at) else None)
on_ground (Inside f) at c =
    if c == 60 then Some (Less (Inside f) at)
    else (if c == 38 then Some (Reference (Content f)) else Some (On (Inside (in_element f (with_character f.element c)))))

-- so many letters of the word are read
abbrev pub spelled : Word → ℕ → State
spelled w k = if k == length (letters w) then behind_word w else Letters w k

abbrev pub on_slash : Ground → ℕ → Option State
on_slash (Outside rows) c = None
on_slash (Inside f) c = if c == 47 then Some (spelled (EndName f) 0) else None

abbrev pub on_less : Ground → ℕ → ℕ → Option State
on_less g at c =
    if c == 33 then Some (Bang g)
    else (if c == 63 then Some (Until (InInstruction g) 0)
    else (if starts_name c && may_start g then Some (start_tag g at c) else on_slash g c))

abbrev pub on_bang : Ground → ℕ → Option State
on_bang (Outside rows) c = if c == 45 then Some (Letters (Dashes (Outside rows)) 1) else None
on_bang (Inside f) c =
    if c == 45 then Some (Letters (Dashes (Inside f)) 1) else (if c == 91 then Some (Letters (OpenSection f) 1) else None)

abbrev pub on_letter : Word → ℕ → ℕ → Option ℕ → Option State
on_letter w k c None = None
on_letter w k c (Some l) = if c == l then Some (spelled w (suc k)) else None

abbrev pub on_long : Long → ℕ → ℕ → Option State
on_long l k c =
    if c == repeated l then (if k == times l then Some (Until (take_in l c) k) else Some (Until l (suc k)))
    else (if (c == 62) && (k == times l) then Some (On (behind_long l)) else Some (Until (take_in (take_back l k) c) 0))

-- behind a name or an attribute
abbrev pub on_tag : Frame → ℕ → Option State
on_tag f c =
    if is_space c then Some (TagSpace f)
    else (if c == 47 then Some (Letters (Empty f) 1) else (if c == 62 then Some (On (Inside f)) else None))

abbrev pub on_equals : Frame → List ℕ → ℕ → Option State
on_equals f name c = if is_space c then Some (Equals f name) else (if c == 61 then Some (Quote f name) else None)

abbrev pub entity : Target → List ℕ → ℕ → ℕ → Option State
entity t word c k = Some (Letters (Entity t word c) k)

abbrev pub on_reference : Target → ℕ → Option State
on_reference t c =
    if c == 108 then entity t (108 ∷ 116 ∷ 59 ∷ []) 60 1
    else (if c == 103 then entity t (103 ∷ 116 ∷ 59 ∷ []) 62 1
    else (if c == 113 then entity t (113 ∷ 117 ∷ 111 ∷ 116 ∷ 59 ∷ []) 34 1
    else (if c == 97 then Some (ReferenceA t)
    else (if c == 35 then Some (Hash t) else None))))

abbrev pub on_reference_a : Target → ℕ → Option State
on_reference_a t c =
    if c == 109 then entity t (97 ∷ 109 ∷ 112 ∷ 59 ∷ []) 38 2
    else (if c == 112 then entity t (97 ∷ 112 ∷ 111 ∷ 115 ∷ 59 ∷ []) 39 2 else None)

abbrev pub first_digit : Target → Bool → Option ℕ → Option State
first_digit t hexadecimal None = None
first_digit t hexadecimal (Some d) = Some (Digits t hexadecimal d)

abbrev pub next_digit : Target → Bool → ℕ → Option ℕ → Option State
next_digit t hexadecimal number None = None
next_digit t hexadecimal number (Some d) =
    if nat_le (number * base hexadecimal + d) greatest then Some (Digits t hexadecimal (number * base hexadecimal + d)) else None

-- how a character at an offset goes on with what was read, where some document goes on so
abbrev pub step : ℕ → State → ℕ → Option State
step at Begin c = if c == 65279 then Some (On (Outside [])) else on_ground (Outside []) at c
step at (On g) c = on_ground g at c
step at (Less g less) c = on_less g less c
step at (Bang g) c = on_bang g c
step at (Letters w k) c = on_letter w k c (slice_get (letters w) k)
step at (Until l k) c = on_long l k c
step at (TagName f) c =
    if continues_name c then Some (TagName (in_element f (with_name f.element (f.element.name ++ c ∷ [])))) else on_tag f c
step at (Tag f) c = on_tag f c
step at (TagSpace f) c = if starts_name c then Some (AttributeName f (c ∷ [])) else on_tag f c
step at (AttributeName f name) c =
    if continues_name c then Some (AttributeName f (name ++ c ∷ []))
    else (if has_name (encode_utf8_all name) f.element.attributes then None else on_equals f name c)
step at (Equals f name) c = on_equals f name c
step at (Quote f name) c = if is_space c then Some (Quote f name) else (if is_quote c then Some (InValue f name c []) else None)
step at (InValue f name quote value) c =
    if c == quote then Some (Tag (in_element f (with_attribute f.element (encode_utf8_all name) value)))
    else (if c == 60 then None
    else (if c == 38 then Some (Reference (Value f name quote value)) else Some (InValue f name quote (value ++ encode_utf8 c))))
step at (EndSpace f) c = if is_space c then Some (EndSpace f) else (if c == 62 then Some (close f) else None)
step at (Reference t) c = on_reference t c
step at (ReferenceA t) c = on_reference_a t c
step at (Hash t) c = if c == 120 then Some (Digit t true) else first_digit t false (digit false c)
step at (Digit t hexadecimal) c = first_digit t hexadecimal (digit hexadecimal c)
step at (Digits t hexadecimal number) c =
    if c == 59 then (if is_scalar number then Some (put t number) else None) else next_digit t hexadecimal number (digit hexadecimal c)

-- whether the character begins a start tag deeper than may be
abbrev pub is_deep : ℕ → State → ℕ → Bool
is_deep deepest (Less g at) c = starts_name c && may_start g && not (nat_le (depth g) deepest)
is_deep deepest s c = false

-- the offset of the last <
abbrev pub less_of : State → ℕ
less_of (Less g at) = at
less_of s = 0

pub data Outcome : Type 0 where
  -- a document, with its elements
  Whole : List Row → Outcome
  -- the character here, or the end, cannot follow
  Stops : ℕ → Outcome
  -- the start tag here is too deep
  TooDeep : ℕ → Outcome

-- at the end
abbrev pub at_end : ℕ → State → Outcome
at_end end (On (Outside rows)) = if is_nil rows then Stops end else Whole rows
at_end end s = Stops end

-- how the text goes on from a state; it ends at the offset `end`
unfoldable pub run : ℕ → ℕ → State → List ℕ → Outcome
run deepest end s [] = at_end end s
run deepest end s (c ∷ text) =
    if is_deep deepest s c then TooDeep (less_of s)
    else elim (step (end - size (c ∷ text)) s c) [ None ↦ Stops (end - size (c ∷ text)) | Some next ↦ run deepest end next text ]
