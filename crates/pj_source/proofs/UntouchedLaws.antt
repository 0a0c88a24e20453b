-- A file of which nothing is skipped or translated is its own text, with its places.
use Rattle.std.proofs.Common.{ℕ, ◌≡◌, ◌==◌, ◌&&◌, not, Bool, true, false, List, [], ◌∷◌, ◌++◌, replicate, refl, ap, sym, ◌∙◌, subst, inl, inr, append_assoc, append-nil, Result, Ok}
use Rattle.std.specs.Char.{len_utf8}
use Rattle.std.specs.Str.{chars}
use Rattle.std.proofs.lemmas.Bool.{cases_Bool}
use Rattle.std.proofs.lemmas.Str.{encodes-chars}
use lib.Utf8.{encode, encodes}
use Rattle.pj_tree.specs.Places.{places_of, places_from, place_behind, first_place}
use Rattle.pj_tree.specs.declared.node.Place.{Place}
use Rattle.pj_source.specs.Escapes.{Piece, IsWritten, begins_escape, is_eligible, place_behind_all, text_of, places_of_bytes}
use Rattle.pj_source.specs.Escapes.IsWritten.{plain, alone, pair}
use Rattle.pj_source.specs.SourceText.{SourceText, Translates, IsRead, is_last_sub, byte_order_mark, behind_byte_order_mark, is_as_written, is_untouched}
use Rattle.pj_source.specs.SourceText.Translates.{ended, sub, next, bad}
use Rattle.pj_source.specs.SourceText.IsRead.{not_utf8, translated}
use Rattle.pj_source.specs.declared.source.fault.SourceFault.{SourceFault}
use Rattle.pj_source.proofs.EscapeLaws.{begins}

-- no escape begins there
no_begin : (text : List ℕ) → is_as_written text ≡ true → begins_escape text ≡ true → ⊥
no_begin [] h b = let no_way : true ≡ false = sym b in absurd cc
no_begin (c ∷ cs) h b = elim (cases_Bool (c == 92)) [
  | inl e ↦ let no_way : false ≡ true = rw e at h in absurd cc
  | inr e ↦ let no_way : false ≡ true = rw e at b in absurd cc
]

-- how such a character is written
record IsPlain (text : List ℕ) (c : ℕ) (w rest : List ℕ) : Type 0 where
  pub text_is : text ≡ c ∷ rest
  pub w_is : w ≡ c ∷ []

is_plain : (eligible : Bool) (text : List ℕ) (c : ℕ) (e : Bool) (w rest : List ℕ) → IsWritten eligible text c e w rest → is_as_written text ≡ true → IsPlain text c w rest
is_plain _ _ _ _ _ _ (plain eligible c rest h) k = record { text_is = refl; w_is = refl }
is_plain _ _ _ _ _ _ (alone text w rest unit split e none) k = absurd (no_begin text k (begins text w rest unit split e))
is_plain _ _ _ _ _ _ (pair text v w rest high low split e f i j) k = absurd (no_begin text k (begins text v (w ++ rest) high split e))

second : (a b c : Bool) → (a && (b && c)) ≡ true → b ≡ true
second true true c e = refl
second true false c e = e
second false b c e = absurd cc

third : (a b c : Bool) → (a && (b && c)) ≡ true → c ≡ true
third true true c e = e
third true false c e = absurd cc
third false b c e = absurd cc

no_sub : (text : List ℕ) (c : ℕ) (rest : List ℕ) → text ≡ c ∷ rest → is_as_written text ≡ true → is_last_sub c rest ≡ true → ⊥
no_sub text c rest split h last =
    let h' : is_as_written (c ∷ rest) ≡ true = sym (ap is_as_written split) ∙ h in
    let kept : not (is_last_sub c rest) ≡ true = second (not (c == 92)) (not (is_last_sub c rest)) (is_as_written rest) h' in
    let no_way : false ≡ true = sym (ap not last) ∙ kept in absurd cc

behind : (text : List ℕ) (c : ℕ) (rest : List ℕ) → text ≡ c ∷ rest → is_as_written text ≡ true → is_as_written rest ≡ true
behind text c rest split h = third (not (c == 92)) (not (is_last_sub c rest)) (is_as_written rest) (sym (ap is_as_written split) ∙ h)

source : List ℕ → List Place → SourceText
source text places = record { text = text; places = places }

abbrev given : Place → List Piece → List ℕ → Result SourceText SourceFault
given at ps text = Ok (record { text = text_of ps ++ encodes text; places = places_of_bytes ps ++ places_from at text })

same_given : (a b : List ℕ) (p q : List Place) → a ≡ b → p ≡ q → ◌≡◌ {A = Result SourceText SourceFault} (Ok (record { text = a; places = p })) (Ok (record { text = b; places = q }))
same_given a b p q e f = rw (e, f) refl

given_more : (at : Place) (ps : List Piece) (text : List ℕ) (c : ℕ) (e : Bool) (w rest : List ℕ) → IsPlain text c w rest → given (place_behind_all at w rest) (record { character = c; escaped = e; place = at } ∷ ps) rest ≡ given at ps text
given_more at ps text c e w rest p =
    ap (λ (v : List ℕ). given (place_behind_all at v rest) (record { character = c; escaped = e; place = at } ∷ ps) rest) p.w_is
    ∙ (same_given ((text_of ps ++ encode c) ++ encodes rest) (text_of ps ++ (encode c ++ encodes rest))
    ((places_of_bytes ps ++ replicate (len_utf8 c) at) ++ places_from (place_behind at c rest) rest) (places_of_bytes ps ++ (replicate (len_utf8 c) at ++ places_from (place_behind at c rest) rest))
    (append_assoc (text_of ps) (encode c) (encodes rest)) (append_assoc (places_of_bytes ps) (replicate (len_utf8 c) at) (places_from (place_behind at c rest) rest))
    ∙ ap (given at ps) (sym p.text_is))

walk_untouched : (at : Place) (ps : List Piece) (text : List ℕ) (o : Result SourceText SourceFault) → Translates at ps text o → is_as_written text ≡ true → o ≡ given at ps text
walk_untouched _ _ _ _ (ended at ps) h = same_given (text_of ps) (text_of ps ++ []) (places_of_bytes ps ++ at ∷ []) (places_of_bytes ps ++ at ∷ []) (sym (append-nil (text_of ps))) refl
walk_untouched _ _ _ _ (sub at ps text c e w rest written last) h =
    let p : IsPlain text c w rest = is_plain (is_eligible ps) text c e w rest written h in absurd (no_sub text c rest p.text_is h last)
walk_untouched _ _ _ _ (next at ps text c e w rest o written last more) h =
    let p : IsPlain text c w rest = is_plain (is_eligible ps) text c e w rest written h in
    walk_untouched (place_behind_all at w rest) (record { character = c; escaped = e; place = at } ∷ ps) rest o more (behind text c rest p.text_is h) ∙ given_more at ps text c e w rest p
walk_untouched _ _ _ _ (bad at ps text b) h = absurd (no_begin text h b.begins)

-- no byte order mark
unmarked : (file : List ℕ) → is_untouched file ≡ true → byte_order_mark file ≡ []
unmarked [] h = refl
unmarked (c ∷ cs) h = elim (cases_Bool (c == 0xFEFF)) [
  | inl e ↦ let no_way : false ≡ true = rw e at h in absurd cc
  | inr e ↦ rw e refl
]

all_behind : (file : List ℕ) → is_untouched file ≡ true → behind_byte_order_mark file ≡ file
all_behind [] h = refl
all_behind (c ∷ cs) h = elim (cases_Bool (c == 0xFEFF)) [
  | inl e ↦ let no_way : false ≡ true = rw e at h in absurd cc
  | inr e ↦ rw e refl
]

written : (file : List ℕ) → is_untouched file ≡ true → is_as_written file ≡ true
written [] h = refl
written (c ∷ cs) h = elim (cases_Bool (c == 0xFEFF)) [
  | inl e ↦ let no_way : false ≡ true = rw e at h in absurd cc
  | inr e ↦ rw e at h
]

read_as : (bytes : List ℕ) (o : Result SourceText SourceFault) → IsRead bytes o → is_untouched (chars bytes) ≡ true → (s : SourceText) → o ≡ Ok s → ◌≡◌ {A = Result SourceText SourceFault} o (Ok (record { text = bytes; places = places_of bytes }))
unfolding places_of
read_as _ _ (not_utf8 bytes n v) h s e = absurd cc
read_as _ _ (translated bytes o utf8 t) h s e =
    let file : List ℕ = chars bytes in
    let t' : Translates first_place [] (chars bytes) o =
    subst (λ (b : List ℕ). Translates first_place [] b o) (all_behind (chars bytes) h) (subst (λ (m : List ℕ). Translates (place_behind_all first_place m (behind_byte_order_mark (chars bytes))) [] (behind_byte_order_mark (chars bytes)) o) (unmarked (chars bytes) h) t) in
    walk_untouched first_place [] (chars bytes) o t' (written (chars bytes) h) ∙ same_given (encodes (chars bytes)) bytes (places_from first_place (chars bytes)) (places_from first_place (chars bytes)) (encodes-chars bytes utf8) refl

pub read_untouched : (bytes : List ℕ) (s : SourceText) → IsRead bytes (Ok s) → is_untouched (chars bytes) ≡ true → ◌≡◌ {A = SourceText} s (record { text = bytes; places = places_of bytes })
read_untouched bytes s t h = let e : ◌≡◌ {A = Result SourceText SourceFault} (Ok s) (Ok (record { text = bytes; places = places_of bytes })) = read_as bytes (Ok s) t h s refl in cc
