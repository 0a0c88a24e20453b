-- The texts and the values of attributes in markup take four bytes for each of its characters at most.
use Rattle.std.proofs.Common.{◌≡◌, ◌+◌, ◌*◌, ◌≤◌, ℕ, List, [], ◌∷◌, ◌++◌, length, refl, sym, ap, subst, arith}
use Rattle.std.specs.Prelude.{⊤}
use Rattle.std.specs.Str.{encode_utf8_all}
use Rattle.pj_markup.specs.declared.element.Attribute.{Attribute}
use Rattle.pj_markup.specs.declared.element.Open.{Open}
use Rattle.pj_markup.specs.declared.element.Row.{Row}
use Rattle.pj_markup.specs.Elements.{row_of, with_character, with_characters}
use Rattle.pj_markup.specs.Markup.{Attributes, StartTag, Elem, Content, Doc}
use Rattle.pj_rule_laws.proofs.Fronts.{behind_spaces, behind_name, behind_comment, behind_instruction, around_section, behind_miscs, behind_reference, one_more, around_attribute, behind_end, behind_mark}

-- the bound, in bytes
module _ (most : ℕ) where
  abbrev pub ShortAttributes : List Attribute → Type 0
  ShortAttributes [] = ⊤
  ShortAttributes (a ∷ attributes) = (length a.value ≤ most) × ShortAttributes attributes

  -- its own text, and the values of its attributes
  pub record ShortRow (row : Row) : Type 0 where
    pub text : length row.text ≤ most
    pub attributes : ShortAttributes row.attributes

  abbrev pub ShortRows : List Row → Type 0
  ShortRows [] = ⊤
  ShortRows (row ∷ rows) = ShortRow row × ShortRows rows

  attributes_more : (attributes : List Attribute) (a : Attribute) → ShortAttributes attributes → length a.value ≤ most → ShortAttributes (attributes ++ a ∷ [])
  attributes_more [] a h short = (short, tt)
  attributes_more (b ∷ attributes) a h short = (h.0, attributes_more attributes a h.1 short)

  rows_more : (rows : List Row) (row : Row) → ShortRows rows → ShortRow row → ShortRows (rows ++ row ∷ [])
  rows_more [] row h short = (short, tt)
  rows_more (r ∷ rows) row h short = (h.0, rows_more rows row h.1 short)

  -- ---- start tags

  -- the attributes are short, and nothing else is read
  record Tagged (text : List ℕ) (before after : Open) (behind : List ℕ) : Type 0 where
    attributes : ShortAttributes after.attributes
    same_text : after.text ≡ before.text
    left : length behind ≤ length text

  of_attributes : {e whole : Open} {text behind : List ℕ} → Attributes e text whole behind → ShortAttributes e.attributes → 4 * length text ≤ most → Tagged text e whole behind
  of_attributes (Attributes.none spaces) h few = record { attributes = h; same_text = refl; left = behind_spaces spaces }
  of_attributes (Attributes.attribute {e = e} {name = name} {value = value} is spaces first fresh rest) h few =
      let a = behind_spaces spaces in
      let b = around_attribute first in
      let short : length value ≤ most = omega (arith, a, b, few) in
      let tagged = of_attributes rest (attributes_more e.attributes (record { name = encode_utf8_all name; value = value }) h short) (omega (arith, a, b, few)) in
      let c = tagged.left in record { attributes = tagged.attributes; same_text = tagged.same_text; left = omega (arith, a, b, c) }

  -- an element of which no text is read
  record Started (text : List ℕ) (e : Open) (behind : List ℕ) : Type 0 where
    attributes : ShortAttributes e.attributes
    no_text : e.text ≡ []
    left : length behind ≤ length text

  of_start : {deepest end : ℕ} {text behind : List ℕ} {e : Open} → StartTag deepest end text e behind → 4 * length text ≤ most → Started text e behind
  of_start (StartTag.start_tag name attributes) few =
      let a = behind_name name in
      let tagged = of_attributes attributes tt (omega (arith, a, few)) in
      let b = tagged.left in record { attributes = tagged.attributes; no_text = tagged.same_text; left = omega (arith, a, b) }

  -- ---- characters of a section

  record Put (e whole : Open) (characters : List ℕ) : Type 0 where
    text : length whole.text ≤ length e.text + 4 * length characters
    attributes : whole.attributes ≡ e.attributes

  of_characters : (e : Open) (characters : List ℕ) → Put e (with_characters e characters) characters
  of_characters e [] = record { text = omega arith; attributes = refl }
  of_characters e (c ∷ cs) =
      let more = of_characters (with_character e c) cs in
      let one = one_more e.text c in
      let text = more.text in record { text = omega (arith, one, text); attributes = more.attributes }

  -- ---- elements and their content

  record Ended (text : List ℕ) (rows : List Row) (behind : List ℕ) : Type 0 where
    rows_short : ShortRows rows
    left : length behind ≤ length text

  record Filled (text : List ℕ) (rows : List Row) (whole : Open) (behind : List ℕ) : Type 0 where
    rows_short : ShortRows rows
    attributes : ShortAttributes whole.attributes
    text_short : length whole.text + 4 * length behind ≤ most
    left : length behind ≤ length text

  no_length : (text : List ℕ) → text ≡ [] → length text ≡ 0
  no_length text e = ap length e

  mutual
    of_element : {deepest end depth : ℕ} {before after : List Row} {text behind : List ℕ} → Elem deepest end depth before text after behind → ShortRows before → 4 * length text ≤ most → Ended text after behind
    of_element (Elem.empty {before = before} {e = e} shallow start) rows few =
        let started = of_start start few in
        let none = no_length e.text started.no_text in
        let left = started.left in
        record { rows_short = rows_more before (row_of e) rows (record { text = omega (arith, none); attributes = started.attributes }); left = omega (arith, left) }
    of_element (Elem.full {within = within} {e = e} {whole = whole} shallow start inside close) rows few =
        let started = of_start start few in
        let none = no_length e.text started.no_text in
        let left = started.left in
        let filled = of_content inside rows started.attributes (omega (arith, none, left, few)) in
        let short = filled.text_short in
        let further = filled.left in
        let last = behind_end close in
        record {
          rows_short = rows_more within (row_of whole) filled.rows_short (record { text = omega (arith, short); attributes = filled.attributes });
          left = omega (arith, left, further, last);
        }

    of_content : {deepest end depth : ℕ} {before within : List Row} {e whole : Open} {text behind : List ℕ} → Content deepest end depth before e text within whole behind → ShortRows before →
        ShortAttributes e.attributes → length e.text + 4 * length text ≤ most → Filled text within whole behind
    of_content Content.none rows attributes few = record { rows_short = rows; attributes = attributes; text_short = few; left = omega arith }
    of_content (Content.character {c = c} {e = e} no_tag no_reference rest) rows attributes few =
        let one = one_more e.text c in
        let filled = of_content rest rows attributes (omega (arith, one, few)) in
        let left = filled.left in record { rows_short = filled.rows_short; attributes = filled.attributes; text_short = filled.text_short; left = omega (arith, left) }
    of_content (Content.reference {c = c} {e = e} first rest) rows attributes few =
        let some = behind_reference first in
        let one = one_more e.text c in
        let filled = of_content rest rows attributes (omega (arith, some, one, few)) in
        let left = filled.left in record { rows_short = filled.rows_short; attributes = filled.attributes; text_short = filled.text_short; left = omega (arith, some, left) }
    of_content (Content.section {e = e} {body = body} first rest) rows attributes few =
        let some = around_section first in
        let put = of_characters e body in
        let text = put.text in
        let filled = of_content rest rows (subst ShortAttributes (sym put.attributes) attributes) (omega (arith, some, text, few)) in
        let left = filled.left in record { rows_short = filled.rows_short; attributes = filled.attributes; text_short = filled.text_short; left = omega (arith, some, left) }
    of_content (Content.comment first rest) rows attributes few =
        let some = behind_comment first in
        let filled = of_content rest rows attributes (omega (arith, some, few)) in
        let left = filled.left in record { rows_short = filled.rows_short; attributes = filled.attributes; text_short = filled.text_short; left = omega (arith, some, left) }
    of_content (Content.instruction first rest) rows attributes few =
        let some = behind_instruction first in
        let filled = of_content rest rows attributes (omega (arith, some, few)) in
        let left = filled.left in record { rows_short = filled.rows_short; attributes = filled.attributes; text_short = filled.text_short; left = omega (arith, some, left) }
    of_content (Content.element first rest) rows attributes few =
        let ended = of_element first rows (omega (arith, few)) in
        let some = ended.left in
        let filled = of_content rest ended.rows_short attributes (omega (arith, some, few)) in
        let left = filled.left in record { rows_short = filled.rows_short; attributes = filled.attributes; text_short = filled.text_short; left = omega (arith, some, left) }

  pub of_document : {deepest : ℕ} {text : List ℕ} {rows : List Row} → Doc deepest text rows → 4 * length text ≤ most → ShortRows rows
  of_document (Doc.document at_front front element behind) few =
      let a = behind_mark at_front in let b = behind_miscs front in (of_element element tt (omega (arith, a, b, few))).rows_short
