-- The text of a file is UTF-8, and has a place for each of its bytes and for its end.
use Rattle.std.proofs.Common.{ℕ, nat_eq, ◌≡◌, ◌+◌, ◌<◌, ◌≤◌, ◌||◌, Bool, true, false, if◌then◌else◌, List, [], ◌∷◌, ◌++◌, length, Result, Ok, Err, refl, ap, sym, ◌∙◌, arith, inl, inr, length-append}
use Rattle.std.specs.Char.{IsScalar, encode_utf8, len_utf8}
use Rattle.std.specs.Char.Utf16.{is_high_surrogate, is_low_surrogate, surrogate_pair_char}
use Rattle.std.specs.Str.{chars, IsUtf8}
use Rattle.std.proofs.Math.Utf8.{scalars}
use Rattle.std.proofs.lemmas.Bool.{cases_lt, lt-ltb, le-leb, le-ltb, ltb-true, leb-true, and_parts}
use Rattle.std.proofs.lemmas.List.{length-replicate}
use Rattle.std.proofs.lemmas.Str.{IsUtf8-nil, IsUtf8-append, IsUtf8-encode, length-encode, scalars-chars}
use Rattle.pj_tree.specs.Places.{first_place}
use Rattle.pj_tree.specs.declared.node.Place.{Place}
use Rattle.pj_source.specs.Escapes.{IsEscape, Piece, IsWritten, character_alone, is_eligible, place_behind_all, text_of, places_of_bytes}
use Rattle.pj_source.specs.Escapes.IsWritten.{plain, alone, pair}
use Rattle.pj_source.specs.SourceText.{SourceText, Translates, IsRead, IsPlaced, source_of, byte_order_mark, behind_byte_order_mark}
use Rattle.pj_source.specs.SourceText.Translates.{ended, sub, next, bad}
use Rattle.pj_source.specs.SourceText.IsRead.{not_utf8, translated}
use Rattle.pj_source.specs.declared.source.fault.SourceFault.{SourceFault}

-- ---- characters

low_scalar : (c : ℕ) → c < 0xD800 → IsScalar c
low_scalar c h = rw (lt-ltb c 0xD800 h) refl

high_scalar : (c : ℕ) → 0xE000 ≤ c → c < 0x11_0000 → IsScalar c
high_scalar c h k = rw (le-ltb c 0xD800 (let far : 0xD800 ≤ c = omega arith in far), le-leb 0xE000 c h, lt-ltb c 0x11_0000 k) refl

high_unit : (u : ℕ) → 0xD800 ≤ u → u < 0xDC00 → (is_high_surrogate u || is_low_surrogate u) ≡ true
high_unit u h k = rw (le-leb 0xD800 u h, lt-ltb u 0xDC00 k) refl

low_unit : (u : ℕ) → 0xDC00 ≤ u → u < 0xE000 → (is_high_surrogate u || is_low_surrogate u) ≡ true
low_unit u h k = rw (le-leb 0xD800 u (let far : 0xD800 ≤ u = omega arith in far), le-ltb u 0xDC00 h, le-leb 0xDC00 u h, lt-ltb u 0xE000 k) refl

no_surrogate : (u : ℕ) → u < 0x1_0000 → (is_high_surrogate u || is_low_surrogate u) ≡ false → IsScalar u
no_surrogate u small is = elim (cases_lt u 0xD800) [
  | inl below ↦ low_scalar u below
  | inr from ↦ elim (cases_lt u 0xDC00) [
    | inl below ↦ (let no_way : true ≡ false = sym (high_unit u from below) ∙ is in absurd (cc))
    | inr above ↦ elim (cases_lt u 0xE000) [
      | inl below ↦ (let no_way : true ≡ false = sym (low_unit u above below) ∙ is in absurd (cc))
      | inr far ↦ high_scalar u far (omega arith)
    ]
  ]
]

alone_scalar : (u : ℕ) → u < 0x1_0000 → IsScalar (character_alone u)
alone_scalar u small = by_test (is_high_surrogate u || is_low_surrogate u) refl
  where
    by_test : (b : Bool) → (is_high_surrogate u || is_low_surrogate u) ≡ b → IsScalar (if b then 0xFFFD else u)
    by_test true is = refl
    by_test false is = no_surrogate u small is

pair_scalar : (high low : ℕ) → is_high_surrogate high ≡ true → is_low_surrogate low ≡ true → IsScalar (surrogate_pair_char high low)
pair_scalar high low h l =
    let a = and_parts _ _ h in
    let b = and_parts _ _ l in
    let from : 0xD800 ≤ high = leb-true 0xD800 high a.0 in
    let to : high < 0xDC00 = ltb-true high 0xDC00 a.1 in
    let low_from : 0xDC00 ≤ low = leb-true 0xDC00 low b.0 in
    let low_to : low < 0xE000 = ltb-true low 0xE000 b.1 in
    high_scalar (surrogate_pair_char high low) (omega arith) (omega arith)

small_unit : (w : List ℕ) (unit : ℕ) → IsEscape w unit → unit < 0x1_0000
small_unit w unit e =
    let d = e.number in
    let is = d.value_is in
    let a = d.hex_a in
    let b = d.hex_b in
    let c = d.hex_c in
    let f = d.hex_d in
    omega arith

-- ---- texts of characters

scalars_behind : (w rest : List ℕ) → scalars (w ++ rest) ≡ true → scalars rest ≡ true
scalars_behind [] rest h = h
scalars_behind (c ∷ cs) rest h = scalars_behind cs rest ((and_parts _ _ h).1)

behind : (text w rest : List ℕ) → text ≡ w ++ rest → scalars text ≡ true → scalars rest ≡ true
behind text w rest e h = scalars_behind w rest (ap scalars (sym e) ∙ h)

behind_pair : (text v w rest : List ℕ) → text ≡ v ++ (w ++ rest) → scalars text ≡ true → scalars rest ≡ true
behind_pair text v w rest e h = scalars_behind w rest (behind text v (w ++ rest) e h)

-- what is written is a character, and characters follow it
written_scalar : (eligible escaped : Bool) (text w rest : List ℕ) (c : ℕ) → IsWritten eligible text c escaped w rest → scalars text ≡ true → IsScalar c × (scalars rest ≡ true)
written_scalar _ _ _ _ _ _ (plain eligible c rest whole) h = and_parts _ _ h
written_scalar _ _ _ _ _ _ (alone text w rest unit e esc single) h = (alone_scalar unit (small_unit w unit esc), behind text w rest e h)
written_scalar _ _ _ _ _ _ (pair text v w rest high low e first second is_high is_low) h = (pair_scalar high low is_high is_low, behind_pair text v w rest e h)

-- ---- pieces

abbrev Scalars : List Piece → Type 0
Scalars [] = Unit {0}
Scalars (p ∷ ps) = IsScalar p.character × Scalars ps

text_utf8 : (ps : List Piece) → Scalars ps → IsUtf8 (text_of ps)
text_utf8 [] s = IsUtf8-nil
text_utf8 (p ∷ ps) s = IsUtf8-append (text_of ps) (encode_utf8 p.character) (text_utf8 ps s.1) (IsUtf8-encode p.character s.0)

place_count : (ps : List Piece) → length (places_of_bytes ps) ≡ length (text_of ps)
place_count [] = refl
place_count (p ∷ ps) =
    length-append (places_of_bytes ps) _
    ∙ (λ i. place_count ps i + length-replicate (len_utf8 p.character) p.place i)
    ∙ ap (λ n. length (text_of ps) + n) (sym (length-encode p.character))
    ∙ sym (length-append (text_of ps) (encode_utf8 p.character))

source_placed : (ps : List Piece) (at : Place) → Scalars ps → IsPlaced (source_of ps at)
source_placed ps at s = record {
  utf8 = text_utf8 ps s;
  count = length-append (places_of_bytes ps) (at ∷ []) ∙ ap (λ n. n + 1) (place_count ps);
}

-- ---- files

abbrev IsPlacedIfText : Result SourceText SourceFault → Type 0
IsPlacedIfText (Ok s) = IsPlaced s
IsPlacedIfText (Err f) = Unit {0}

walk_placed : (at : Place) (ps : List Piece) (text : List ℕ) (o : Result SourceText SourceFault) → Translates at ps text o → scalars text ≡ true → Scalars ps → IsPlacedIfText o
walk_placed _ _ _ _ (ended at ps) h s = source_placed ps at s
walk_placed _ _ _ _ (sub at ps text c e w rest written last) h s = source_placed ps at s
walk_placed _ _ _ _ (next at ps text c e w rest o written last more) h s =
    let r = written_scalar (is_eligible ps) e text w rest c written h in
    walk_placed (place_behind_all at w rest) (record { character = c; escaped = e; place = at } ∷ ps) rest o more r.1 (r.0, s)
walk_placed _ _ _ _ (bad at ps text b) h s = tt

behind_mark_scalar : (file : List ℕ) → scalars file ≡ true → scalars (behind_byte_order_mark file) ≡ true
behind_mark_scalar [] h = h
behind_mark_scalar (c ∷ cs) h = by_test (nat_eq c 0xFEFF)
  where
    by_test : (b : Bool) → scalars (if b then cs else c ∷ cs) ≡ true
    by_test true = (and_parts _ _ h).1
    by_test false = h

read_placed : (bytes : List ℕ) (o : Result SourceText SourceFault) → IsRead bytes o → IsPlacedIfText o
read_placed _ _ (not_utf8 bytes n v) = tt
read_placed _ _ (translated bytes o u t) =
    let file = chars bytes in
    walk_placed (place_behind_all first_place (byte_order_mark file) (behind_byte_order_mark file)) [] (behind_byte_order_mark file) o t (behind_mark_scalar file (scalars-chars bytes u)) tt

pub text_placed : (bytes : List ℕ) (s : SourceText) → IsRead bytes (Ok s) → IsPlaced s
text_placed bytes s r = read_placed bytes (Ok s) r
