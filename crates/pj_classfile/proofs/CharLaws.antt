-- Characters are read again from the units that spell them.
use Rattle.std.proofs.Common.{◌≡◌, ◌<◌, ◌≤◌, ◌+◌, ◌-◌, ◌/◌, ◌%◌, ◌⊎◌, inl, inr, ℕ, Bool, true, false, cond, ◌&&◌, not, List, [], ◌∷◌, ◌++◌, map, Option, Some, None, nat_lt, refl, ap, sym, ◌∙◌, arith}
use Rattle.std.specs.Prelude.{flat_map, is_some}
use Rattle.std.specs.List.{list_all, list_any}
use Rattle.std.specs.Option.{unwrap_or}
use Rattle.std.specs.Char.Escape.{encode_utf16}
use Rattle.std.specs.Char.Utf16.{utf16_chars, utf16_lossy_chars, has_unpaired_surrogate, is_high_surrogate, is_low_surrogate, surrogate_pair_char, lone_unit_char}
use Rattle.std.specs.Str.{encode_utf8_all}
use Rattle.std.proofs.lemmas.Grind.{common_steps}
use Rattle.std.proofs.lemmas.Str.{utf16_chars_lone, utf16_chars_pair}
use Rattle.pj_classfile.specs.ModifiedUtf8.{is_scalar, unit_bytes, units_of, text_of_units, text_of_some, decoded, IsModified}
use Rattle.pj_classfile.proofs.UnitLaws.{is_unit, both_true, units_written, units_read}

abbrev some_char : ℕ → Option ℕ
some_char c = Some c

-- What is written is read.

lone_written : (c : ℕ) (us : List ℕ) → is_scalar c ≡ true → c < 0x1_0000 → utf16_chars (c ∷ us) ≡ Some c ∷ utf16_chars us
lone_written c us h lt =
    let lone : lone_unit_char c ≡ Some c = grind (arith, common_steps) in
    let high : (c < 0xD800) ⊎ (0xDC00 ≤ c) = grind (arith, common_steps) in
    utf16_chars_lone c us (λ p. elim high [ inl below ↦ omega (arith, p.0) | inr above ↦ omega (arith, p.1) ]) ∙ ap (λ (o : Option ℕ). o ∷ utf16_chars us) lone

pair_written : (c : ℕ) (us : List ℕ) → is_scalar c ≡ true → 0x1_0000 ≤ c → utf16_chars ((0xD800 + (c - 0x1_0000) / 0x400) ∷ (0xDC00 + (c - 0x1_0000) % 0x400) ∷ us) ≡ Some c ∷ utf16_chars us
pair_written c us h low =
    let fits : c ≤ 0x10FFFF = grind (arith, common_steps) in
    let same : surrogate_pair_char (0xD800 + (c - 0x1_0000) / 0x400) (0xDC00 + (c - 0x1_0000) % 0x400) ≡ c = omega arith in
    utf16_chars_pair (0xD800 + (c - 0x1_0000) / 0x400) (0xDC00 + (c - 0x1_0000) % 0x400) us (omega arith, omega arith, omega arith, omega arith)
    ∙ ap (λ (n : ℕ). let o : Option ℕ = Some n in o ∷ utf16_chars us) same

char_written : (b : Bool) (c : ℕ) (us : List ℕ) → nat_lt c 0x1_0000 ≡ b → is_scalar c ≡ true → utf16_chars (encode_utf16 c ++ us) ≡ Some c ∷ utf16_chars us
char_written true c us e h = rw e (lone_written c us h (grind (arith, common_steps)))
char_written false c us e h = rw e (pair_written c us h (grind (arith, common_steps)))

pub chars_written : (cs : List ℕ) → list_all is_scalar cs ≡ true → utf16_chars (flat_map encode_utf16 cs) ≡ map some_char cs
unfolding utf16_chars
chars_written [] h = refl
chars_written (c ∷ cs) h =
    let b = both_true (is_scalar c) (list_all is_scalar cs) h in
    char_written (nat_lt c 0x1_0000) c (flat_map encode_utf16 cs) refl b.0 ∙ ap (λ (os : List (Option ℕ)). some_char c ∷ os) (chars_written cs b.1)

all_paired : (cs : List ℕ) → list_any (λ o. not (is_some o)) (map some_char cs) ≡ false
all_paired [] = refl
all_paired (c ∷ cs) = all_paired cs

lossy_same : (cs : List ℕ) → map (λ o. unwrap_or o 0xFFFD) (map some_char cs) ≡ cs
lossy_same [] = refl
lossy_same (c ∷ cs) = ap (λ (l : List ℕ). c ∷ l) (lossy_same cs)

pub text_written : (cs : List ℕ) → list_all is_scalar cs ≡ true → text_of_units (flat_map encode_utf16 cs) ≡ Some (encode_utf8_all cs)
unfolding text_of_units
text_written cs h =
    rw (chars_written cs h, all_paired cs, lossy_same cs) refl

-- its units are units
unit_of_char : (b : Bool) (c : ℕ) (us : List ℕ) → nat_lt c 0x1_0000 ≡ b → is_scalar c ≡ true → list_all is_unit us ≡ true → list_all is_unit (encode_utf16 c ++ us) ≡ true
unit_of_char true c us e h all = let one : is_unit c ≡ true = grind (arith, common_steps) in rw (e, one) all
unit_of_char false c us e h all =
    let fits : c ≤ 0x10FFFF = grind (arith, common_steps) in
    let high : is_unit (0xD800 + (c - 0x1_0000) / 0x400) ≡ true = grind (arith, common_steps) in
    let low : is_unit (0xDC00 + (c - 0x1_0000) % 0x400) ≡ true = grind (arith, common_steps) in
    rw (e, high, low) all

pub units_of_chars : (cs : List ℕ) → list_all is_scalar cs ≡ true → list_all is_unit (flat_map encode_utf16 cs) ≡ true
units_of_chars [] h = refl
units_of_chars (c ∷ cs) h =
    let b = both_true (is_scalar c) (list_all is_scalar cs) h in
    unit_of_char (nat_lt c 0x1_0000) c (flat_map encode_utf16 cs) refl b.0 (units_of_chars cs b.1)

pub only : (bytes text : List ℕ) → IsModified bytes text → decoded bytes ≡ Some text
unfolding decoded
only bytes text m =
    let units = flat_map encode_utf16 m.characters in
    ap (λ (l : List ℕ). text_of_some (units_of l)) m.bytes_are ∙ ap text_of_some (units_written units (units_of_chars m.characters m.scalars)) ∙ text_written m.characters m.scalars
    ∙ ap (λ (l : List ℕ). let o : Option (List ℕ) = Some l in o) (sym m.text_is)

-- What is read is written so.

pub record Paired (units cs : List ℕ) : Type 0 where
  pub scalars : list_all is_scalar cs ≡ true
  pub are : units ≡ flat_map encode_utf16 cs

-- one unit that is a character, and what is behind it
lone_front : (u : ℕ) (us cs : List ℕ) (c : ℕ) → is_unit u ≡ true → lone_unit_char u ≡ Some c → Paired us cs → Paired (u ∷ us) (c ∷ cs)
lone_front u us cs c unit is p =
    let same : c ≡ u = grind (arith, common_steps) in
    let scalar : is_scalar u ≡ true = grind (arith, common_steps) in
    let below : nat_lt u 0x1_0000 ≡ true = grind (arith, common_steps) in
    rw same (record { scalars = rw scalar p.scalars; are = rw below (ap (λ (l : List ℕ). u ∷ l) p.are) })

pair_front : (u v : ℕ) (us cs : List ℕ) → (is_high_surrogate u && is_low_surrogate v) ≡ true → Paired us cs → Paired (u ∷ v ∷ us) (surrogate_pair_char u v ∷ cs)
pair_front u v us cs h p =
    let c = surrogate_pair_char u v in
    let scalar : is_scalar (surrogate_pair_char u v) ≡ true = grind (arith, common_steps) in
    let above : nat_lt (surrogate_pair_char u v) 0x1_0000 ≡ false = grind (arith, common_steps) in
    let b = both_true (is_high_surrogate u) (is_low_surrogate v) h in
    let first : 0xD800 + (surrogate_pair_char u v - 0x1_0000) / 0x400 ≡ u = grind (arith, common_steps) in
    let second : 0xDC00 + (surrogate_pair_char u v - 0x1_0000) % 0x400 ≡ v = grind (arith, common_steps) in
    record { scalars = rw scalar p.scalars; are = rw (above, first, second) (ap (λ (l : List ℕ). u ∷ v ∷ l) p.are) }

-- where no character is lost
abbrev whole_chars : List (Option ℕ) → Bool
whole_chars os = list_any (λ o. not (is_some o)) os

abbrev chars_in : List (Option ℕ) → List ℕ
chars_in os = map (λ o. unwrap_or o 0xFFFD) os

lone_step : (u : ℕ) (us : List ℕ) (o : Option ℕ) (os : List (Option ℕ)) → lone_unit_char u ≡ o → is_unit u ≡ true → whole_chars (o ∷ os) ≡ false → (whole_chars os ≡ false → Paired us (chars_in os)) → Paired (u ∷ us) (chars_in (o ∷ os))
lone_step u us None os e unit h more = absurd cc
lone_step u us (Some c) os e unit h more = lone_front u us (chars_in os) c unit e (more h)

abbrev turn_of : Bool → ℕ → ℕ → List (Option ℕ) → List (Option ℕ) → List (Option ℕ)
turn_of b u v pairs lone = cond b (Some (surrogate_pair_char u v) ∷ pairs) (lone_unit_char u ∷ lone)

two_step : (b : Bool) (u v : ℕ) (us : List ℕ) (pairs lone : List (Option ℕ)) → (is_high_surrogate u && is_low_surrogate v) ≡ b → is_unit u ≡ true → whole_chars (turn_of b u v pairs lone) ≡ false
    → (whole_chars pairs ≡ false → Paired us (chars_in pairs)) → (whole_chars lone ≡ false → Paired (v ∷ us) (chars_in lone)) → Paired (u ∷ v ∷ us) (chars_in (turn_of b u v pairs lone))
two_step true u v us pairs lone e unit h one other = pair_front u v us (chars_in pairs) e (one h)
two_step false u v us pairs lone e unit h one other = lone_step u (v ∷ us) (lone_unit_char u) lone refl unit h other

pub chars_read : (units : List ℕ) → list_all is_unit units ≡ true → has_unpaired_surrogate units ≡ false → Paired units (utf16_lossy_chars units)
unfolding utf16_chars
chars_read [] all h = record { scalars = refl; are = refl }
chars_read (u ∷ []) all h =
    let b = both_true (is_unit u) true all in
    lone_step u [] (lone_unit_char u) [] refl b.0 h (λ k. record { scalars = refl; are = refl })
chars_read (u ∷ v ∷ us) all h =
    let b = both_true (is_unit u) (list_all is_unit (v ∷ us)) all in
    let d = both_true (is_unit v) (list_all is_unit us) b.1 in
    two_step (is_high_surrogate u && is_low_surrogate v) u v us (utf16_chars us) (utf16_chars (v ∷ us)) refl b.0 h (λ k. chars_read us d.1 k) (λ k. chars_read (v ∷ us) b.1 k)

pub text_read : (units text : List ℕ) → list_all is_unit units ≡ true → text_of_units units ≡ Some text → (cs : List ℕ) × (text ≡ encode_utf8_all cs) × Paired units cs
unfolding text_of_units
text_read units text all e = turn (has_unpaired_surrogate units) refl e where
  turn : (b : Bool) → has_unpaired_surrogate units ≡ b → cond b None (Some (encode_utf8_all (utf16_lossy_chars units))) ≡ Some text → (cs : List ℕ) × (text ≡ encode_utf8_all cs) × Paired units cs
  turn true h k = absurd cc
  turn false h k = (utf16_lossy_chars units, cc, chars_read units all h)

found_by : (bytes text : List ℕ) (o : Option (List ℕ)) → units_of bytes ≡ o → text_of_some o ≡ Some text → IsModified bytes text
found_by bytes text None at e = absurd cc
found_by bytes text (Some units) at e =
    let w = units_read bytes units at in
    let t = text_read units text w.fit e in
    record { characters = t.0; scalars = t.2.scalars; bytes_are = w.is ∙ ap (flat_map unit_bytes) t.2.are; text_is = t.1 }

pub found : (bytes text : List ℕ) → decoded bytes ≡ Some text → IsModified bytes text
unfolding decoded
found bytes text e = found_by bytes text (units_of bytes) refl e
