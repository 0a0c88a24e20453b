-- Something comes of the bytes of every file.
use Rattle.std.proofs.Common.{ℕ, zero, suc, ◌≡◌, ◌+◌, ◌*◌, ◌<◌, ◌≤◌, ◌==◌, ◌&&◌, ◌⊎◌, Bool, true, false, List, [], ◌∷◌, ◌++◌, length, take, replicate, Result, Ok, Err, refl, ap, sym, ◌∙◌, arith, subst, inl, inr, append_assoc, length-append}
use Rattle.std.specs.Char.{digit_value}
use Rattle.std.specs.Char.Utf16.{is_high_surrogate, is_low_surrogate}
use Rattle.std.specs.Str.{chars, IsUtf8, is_utf8, IsValidUpTo}
use Rattle.std.proofs.lemmas.Bool.{cases_Bool, cases_lt, and_parts, eqb-true}
use Rattle.std.proofs.lemmas.List.{take_all}
use Rattle.std.proofs.lemmas.Str.{IsUtf8-nil, IsUtf8-from_is_utf8, is_utf8-from_IsUtf8}
use Rattle.pj_base.specs.Front.{starts_with}
use Rattle.pj_tree.specs.Places.{first_place}
use Rattle.pj_tree.specs.declared.node.Place.{Place}
use Rattle.pj_source.specs.Escapes.{AreDigits, IsEscape, BeginsWithNoEscape, BeginsWithLow, IsBadEscape, IsWritten, Piece, begins_escape, is_eligible, place_behind_all}
use Rattle.pj_source.specs.Escapes.IsWritten.{plain}
use Rattle.pj_source.specs.SourceText.{SourceText, Translates, IsRead, source_of, is_last_sub, byte_order_mark, behind_byte_order_mark}
use Rattle.pj_source.specs.SourceText.Translates.{ended, sub, next, bad}
use Rattle.pj_source.specs.SourceText.IsRead.{not_utf8, translated}
use Rattle.pj_source.specs.Translating.{BeginsWithNoDigit, BeginsWithNoDigits, IsFront}
use Rattle.pj_source.specs.declared.source.fault.SourceFault.{SourceFault}
use Rattle.pj_source.specs.declared.source.fault.SourceFault.TheVariants.{NotUtf8, Escape}
use Rattle.pj_source.proofs.EscapeLaws.{digits_at, no_second, no_third, no_fourth, no_escape, no_backslash, no_marker, length_escape}
use Rattle.pj_source.proofs.WrittenLaws.{alone_front, pair_front, other_unit, no_unit}

-- ---- digits at the front

record DigitFront (text : List ℕ) : Type 0 where
  c : ℕ
  rest : List ℕ
  is : text ≡ c ∷ rest
  hex : digit_value c < 16

no_text : (c : ℕ) (cs : List ℕ) → [] ≡ c ∷ cs → ⊥
no_text c cs e = cc

heads_same : (c d : ℕ) (cs ds : List ℕ) → c ∷ cs ≡ d ∷ ds → c ≡ d
heads_same c d cs ds e = cc

digit : (text : List ℕ) → BeginsWithNoDigit text ⊎ DigitFront text
digit [] = inl (λ c rest e h. no_text c rest e)
digit (c ∷ cs) = elim (cases_lt (digit_value c) 16) [
  | inl h ↦ inr (record { c = c; rest = cs; is = refl; hex = h })
  | inr h ↦ inl (λ d rest e g. let same : digit_value c ≡ digit_value d = ap digit_value (heads_same c d cs rest e) in absurd (omega arith))
]

record DigitsFront (text : List ℕ) : Type 0 where
  w : List ℕ
  rest : List ℕ
  value : ℕ
  split : text ≡ w ++ rest
  are : AreDigits w value

no_first : (text : List ℕ) → BeginsWithNoDigit text → BeginsWithNoDigits text
no_first text none w rest v split ds = none ds.a (ds.b ∷ (ds.c ∷ (ds.d ∷ rest))) (digits_at text w rest v split ds) ds.hex_a

four : (text : List ℕ) (a : DigitFront text) (b : DigitFront a.rest) (c : DigitFront b.rest) → DigitFront c.rest → DigitsFront text
four text a b c d = record {
  w = a.c ∷ b.c ∷ c.c ∷ d.c ∷ [];
  rest = d.rest;
  value = ((digit_value a.c * 16 + digit_value b.c) * 16 + digit_value c.c) * 16 + digit_value d.c;
  split = a.is ∙ ap (λ (xs : List ℕ). a.c ∷ xs) (b.is ∙ ap (λ (xs : List ℕ). b.c ∷ xs) (c.is ∙ ap (λ (xs : List ℕ). c.c ∷ xs) d.is));
  are = record { a = a.c; b = b.c; c = c.c; d = d.c; are = refl; hex_a = a.hex; hex_b = b.hex; hex_c = c.hex; hex_d = d.hex; value_is = refl };
}

digits : (text : List ℕ) → BeginsWithNoDigits text ⊎ DigitsFront text
digits text = elim (digit text) [
  | inl n ↦ inl (no_first text n)
  | inr a ↦ elim (digit a.rest) [
    | inl n ↦ inl (no_second text a.rest a.c a.is n)
    | inr b ↦ elim (digit b.rest) [
      | inl n ↦ inl (no_third text a.rest b.rest a.c b.c a.is b.is n)
      | inr c ↦ elim (digit c.rest) [
        | inl n ↦ inl (no_fourth text a.rest b.rest c.rest a.c b.c c.c a.is b.is c.is n)
        | inr d ↦ inr (four text a b c d)
      ]
    ]
  ]
]

-- ---- an escape at the front

record Markers (text : List ℕ) : Type 0 where
  n : ℕ
  rest : List ℕ
  is : text ≡ replicate n 117 ++ rest
  stop : starts_with 117 rest ≡ false

markers : (text : List ℕ) → Markers text
markers [] = record { n = 0; rest = []; is = refl; stop = refl }
markers (c ∷ cs) = elim (cases_Bool (c == 117)) [
  | inl e ↦
      let more = markers cs in
      record { n = suc more.n; rest = more.rest; is = ap (λ x. x ∷ cs) (eqb-true c 117 e) ∙ ap (λ (xs : List ℕ). 117 ∷ xs) more.is; stop = more.stop }
  | inr e ↦ record { n = 0; rest = c ∷ cs; is = refl; stop = e }
]

record EscapeFront (text : List ℕ) : Type 0 where
  w : List ℕ
  rest : List ℕ
  unit : ℕ
  split : text ≡ w ++ rest
  is : IsEscape w unit

behind_u : (c d : ℕ) (cs : List ℕ) → c ≡ 92 → d ≡ 117 → BeginsWithNoEscape (c ∷ d ∷ cs) ⊎ EscapeFront (c ∷ d ∷ cs)
behind_u c d cs e f =
    let all : c ∷ d ∷ cs ≡ 92 ∷ d ∷ cs = ap (λ x. x ∷ d ∷ cs) e in
    let u : d ∷ cs ≡ 117 ∷ cs = ap (λ x. x ∷ cs) f in
    let m = markers cs in
    elim (digits m.rest) [
      | inl n ↦ inl (no_escape (c ∷ d ∷ cs) (d ∷ cs) cs m.rest m.n all u m.is m.stop n)
      | inr x ↦ inr (record {
        w = 92 ∷ 117 ∷ (replicate m.n 117 ++ x.w);
        rest = x.rest;
        unit = x.value;
        split = all ∙ ap (λ (xs : List ℕ). 92 ∷ xs) (u ∙ ap (λ (xs : List ℕ). 117 ∷ xs) (m.is ∙ ap (λ (xs : List ℕ). replicate m.n 117 ++ xs) x.split ∙ sym (append_assoc (replicate m.n 117) x.w x.rest)));
        is = record { more = m.n; digits = x.w; spelled = refl; number = x.are };
      })
    ]

behind_backslash : (c : ℕ) (cs : List ℕ) → c ≡ 92 → BeginsWithNoEscape (c ∷ cs) ⊎ EscapeFront (c ∷ cs)
behind_backslash c [] e = inl (no_marker (c ∷ []) [] (ap (λ x. x ∷ []) e) refl)
behind_backslash c (d ∷ cs) e = elim (cases_Bool (d == 117)) [
  | inl u ↦ behind_u c d cs e (eqb-true d 117 u)
  | inr n ↦ inl (no_marker (c ∷ d ∷ cs) (d ∷ cs) (ap (λ x. x ∷ d ∷ cs) e) n)
]

escape : (text : List ℕ) → BeginsWithNoEscape text ⊎ EscapeFront text
escape [] = inl (no_backslash [] refl)
escape (c ∷ cs) = elim (cases_Bool (c == 92)) [
  | inl e ↦ behind_backslash c cs (eqb-true c 92 e)
  | inr n ↦ inl (no_backslash (c ∷ cs) n)
]

-- ---- a character at the front

record Front (eligible : Bool) (text : List ℕ) : Type 0 where
  c : ℕ
  escaped : Bool
  w : List ℕ
  rest : List ℕ
  written : IsWritten eligible text c escaped w rest
  shorter : length rest < length text

long : (text w rest : List ℕ) (unit : ℕ) → text ≡ w ++ rest → IsEscape w unit → length rest < length text
long text w rest unit split e = omega (arith, ap length split, length-append w rest, length_escape w e.digits e.more unit e.spelled e.number)

from_front : (text rest : List ℕ) (c len : ℕ) → IsFront true text c true len rest → length rest < length text → Front true text
from_front text rest c len f h = record { c = c; escaped = true; w = f.w; rest = rest; written = f.written; shorter = h }

by_itself : (text : List ℕ) (e : EscapeFront text) → (is_high_surrogate e.unit ≡ true → ¬ (BeginsWithLow e.rest)) → Front true text
by_itself text e none = from_front text e.rest _ (length e.w) (alone_front text e.w e.rest _ e.unit (length e.w) e.split e.is refl refl none) (long text e.w e.rest e.unit e.split e.is)

as_pair : (text : List ℕ) (e : EscapeFront text) (f : EscapeFront e.rest) → is_high_surrogate e.unit ≡ true → is_low_surrogate f.unit ≡ true → Front true text
as_pair text e f h l =
    from_front text f.rest _ (length e.w + length f.w) (pair_front text e.w f.w e.rest f.rest _ e.unit f.unit (length e.w) (length f.w) e.split f.split e.is f.is refl refl h l refl)
    (omega (arith, long text e.w e.rest e.unit e.split e.is, long e.rest f.w f.rest f.unit f.split f.is))

no_high : (b : Bool) → b ≡ false → b ≡ true → ⊥
no_high b e f = let both : false ≡ true = sym e ∙ f in cc

high_front : (text : List ℕ) (e : EscapeFront text) → is_high_surrogate e.unit ≡ true → Front true text
high_front text e h = elim (escape e.rest) [
  | inl n ↦ by_itself text e (λ _. no_unit e.rest n)
  | inr f ↦ elim (cases_Bool (is_low_surrogate f.unit)) [
    | inl l ↦ as_pair text e f h l
    | inr l ↦ by_itself text e (λ _. other_unit e.rest f.w f.rest f.unit f.split f.is l)
  ]
]

escaped_front : (text : List ℕ) → EscapeFront text → Front true text
escaped_front text e = elim (cases_Bool (is_high_surrogate e.unit)) [
  | inl h ↦ high_front text e h
  | inr h ↦ by_itself text e (λ g. absurd (no_high _ h g))
]

front : (eligible : Bool) (c : ℕ) (cs : List ℕ) → IsBadEscape eligible (c ∷ cs) ⊎ Front eligible (c ∷ cs)
front eligible c cs = elim (cases_Bool (eligible && begins_escape (c ∷ cs))) [
  | inr n ↦ inr (record { c = c; escaped = false; w = c ∷ []; rest = cs; written = plain eligible c cs n; shorter = omega arith })
  | inl h ↦
      let parts = and_parts _ _ h in
      elim (escape (c ∷ cs)) [
        | inl n ↦ inl (record { allowed = parts.0; begins = parts.1; none = n })
        | inr e ↦ inr (subst (λ (b : Bool). Front b (c ∷ cs)) (sym parts.0) (escaped_front (c ∷ cs) e))
      ]
]

-- ---- the whole text

record Outcome (at : Place) (ps : List Piece) (text : List ℕ) : Type 0 where
  what : Result SourceText SourceFault
  comes : Translates at ps text what

translated_below : (n : ℕ) (at : Place) (ps : List Piece) (text : List ℕ) → length text < n → Outcome at ps text
translated_below zero at ps text h = absurd (omega arith)
translated_below (suc n) at ps [] h = record { what = Ok (source_of ps at); comes = ended at ps }
translated_below (suc n) at ps (c ∷ cs) h = elim (front (is_eligible ps) c cs) [
  | inl b ↦ record { what = Err (Escape at); comes = bad at ps (c ∷ cs) b }
  | inr f ↦ elim (cases_Bool (is_last_sub f.c f.rest)) [
    | inl l ↦ record { what = Ok (source_of ps at); comes = sub at ps (c ∷ cs) f.c f.escaped f.w f.rest f.written l }
    | inr l ↦
        let more = translated_below n (place_behind_all at f.w f.rest) (record { character = f.c; escaped = f.escaped; place = at } ∷ ps) f.rest (omega (arith, f.shorter, h)) in
        record { what = more.what; comes = next at ps (c ∷ cs) f.c f.escaped f.w f.rest more.what f.written l more.comes }
  ]
]

translation : (at : Place) (ps : List Piece) (text : List ℕ) → Outcome at ps text
translation at ps text = translated_below (suc (length text)) at ps text (omega arith)

-- ---- the bytes

-- the longest front that is UTF-8, among those up to a length
record Longest (bytes : List ℕ) (n : ℕ) : Type 0 where
  m : ℕ
  within : m ≤ n
  front : IsUtf8 (take m bytes)
  longest : (k : ℕ) → m < k → ¬ (IsUtf8 (take k bytes))

not_text : (bytes : List ℕ) → is_utf8 bytes ≡ false → ¬ (IsUtf8 bytes)
not_text bytes h u = no_high (is_utf8 bytes) h (is_utf8-from_IsUtf8 bytes u)

one_more : (bytes : List ℕ) (n : ℕ) → is_utf8 (take (suc n) bytes) ≡ false → ((k : ℕ) → suc n < k → ¬ (IsUtf8 (take k bytes))) → (k : ℕ) → n < k → ¬ (IsUtf8 (take k bytes))
one_more bytes n h far k below u = elim (cases_lt (suc n) k) [
  | inl g ↦ far k g u
  | inr g ↦
      let same : k ≡ suc n = omega arith in
      not_text (take (suc n) bytes) h (subst (λ x. IsUtf8 (take x bytes)) same u)
]

longest_front : (bytes : List ℕ) (n : ℕ) → ((k : ℕ) → n < k → ¬ (IsUtf8 (take k bytes))) → Longest bytes n
longest_front bytes zero far = record { m = 0; within = omega arith; front = IsUtf8-nil; longest = far }
longest_front bytes (suc n) far = elim (cases_Bool (is_utf8 (take (suc n) bytes))) [
  | inl h ↦ record { m = suc n; within = omega arith; front = IsUtf8-from_is_utf8 (take (suc n) bytes) h; longest = far }
  | inr h ↦
      let below = longest_front bytes n (one_more bytes n h far) in
      record { m = below.m; within = omega (arith, below.within); front = below.front; longest = below.longest }
]

pub valid_up_to : (bytes : List ℕ) → is_utf8 bytes ≡ false → (n : ℕ) × IsValidUpTo bytes n
valid_up_to bytes h =
    let none = not_text bytes h in
    let found = longest_front bytes (length bytes) (λ k g u. none (subst IsUtf8 (take_all k bytes (omega arith)) u)) in
    let short : found.m < length bytes = elim (cases_lt found.m (length bytes)) [
      | inl g ↦ g
      | inr g ↦ absurd (none (subst IsUtf8 (take_all found.m bytes g) found.front))
    ] in
    (found.m, record { short = short; front = found.front; longest = found.longest })

pub reading_of : (bytes : List ℕ) → (o : Result SourceText SourceFault) × IsRead bytes o
reading_of bytes = elim (cases_Bool (is_utf8 bytes)) [
  | inl h ↦
      let file = chars bytes in
      let body = behind_byte_order_mark file in
      let made = translation (place_behind_all first_place (byte_order_mark file) body) [] body in
      (made.what, translated bytes made.what (IsUtf8-from_is_utf8 bytes h) made.comes)
  | inr h ↦ let n = valid_up_to bytes h in (Err (NotUtf8 n.0), not_utf8 bytes n.0 n.1)
]
