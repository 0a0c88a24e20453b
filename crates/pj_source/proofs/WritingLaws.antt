-- What is read of a file, said of the whole file at once.
use Rattle.std.proofs.Common.{ℕ, zero, suc, ◌≡◌, ◌+◌, ◌<◌, ◌==◌, nat_lt, Bool, true, false, cond, if◌then◌else◌, ◌||◌, List, [], ◌∷◌, ◌++◌, length, replicate, refl, ap, sym, ◌∙◌, arith, inl, inr, Some, zero-add, add-zero, append-nil, append_assoc, length-append, Result, Ok, Err, MatchResult, IfErr, ◌⊎◌, subst}
use Rattle.std.specs.List.{slice_get}
use Rattle.std.specs.Str.{chars}
use Rattle.std.specs.Char.{len_utf8}
use Rattle.std.proofs.lemmas.Bool.{cases_Bool, lt-ltb}
use Rattle.std.proofs.lemmas.Str.{length-encode}
use lib.Utf8.{encode, encodes}
use Rattle.pj_tree.specs.Places.{place_past, place_behind, first_place, ends_line, line_ends, on_line, size}
use Rattle.pj_tree.specs.declared.node.Place.{Place}
use Rattle.pj_source.specs.Escapes.{Piece, IsWritten, BeginsWithNoEscape, begins_escape, is_eligible, place_behind_all, text_of, places_of_bytes}
use Rattle.pj_source.specs.Escapes.IsWritten.{plain, alone, pair}
use Rattle.pj_source.specs.SourceText.{SourceText, Translates, IsRead, byte_order_mark, behind_byte_order_mark}
use Rattle.pj_source.specs.SourceText.Translates.{ended, sub, next, bad}
use Rattle.pj_source.specs.SourceText.IsRead.{not_utf8, translated}
use Rattle.pj_source.specs.SourceWritings.{Writing, written_of, characters_of, IsWrittenOut, StopsAt}
use Rattle.pj_source.specs.declared.source.fault.SourceFault.{SourceFault}
use Rattle.pj_source.specs.declared.source.fault.SourceFault.TheVariants.{NotUtf8, Escape, Memory}

-- ---- the place behind some characters, counted

abbrev placed : ℕ → ℕ → Place
placed line column = record { line = line; column = column }

-- by how many lines end among the characters passed, and how many of them stand behind the last end
abbrev walked : Place → ℕ → ℕ → Place
walked at ends on = record { line = at.line + ends; column = cond (nat_lt 0 ends) (1 + on) (at.column + on) }

same_place : (l m c d : ℕ) → l ≡ m → c ≡ d → placed l c ≡ placed m d
same_place l m c d e f = rw (e, f) refl

-- one character more in front, which ends a line or not
step_by : (at : Place) (ends : Bool) (n on : ℕ)
    → walked (if ends then record { line = at.line + 1; column = 1 } else record { line = at.line; column = at.column + 1 }) n on
    ≡ walked at ((if ends then 1 else 0) + n) (if ends || nat_lt 0 n then on else 1 + on)
step_by at true n on =
    let more : nat_lt 0 (1 + n) ≡ true = lt-ltb 0 (1 + n) (omega arith) in
    elim (cases_Bool (nat_lt 0 n)) [
      | inl e ↦ rw (more, e) (same_place (at.line + 1 + n) (at.line + (1 + n)) (1 + on) (1 + on) (omega arith) refl)
      | inr e ↦ rw (more, e) (same_place (at.line + 1 + n) (at.line + (1 + n)) (1 + on) (1 + on) (omega arith) refl)
    ]
step_by at false n on =
    let same : 0 + n ≡ n = omega arith in
    elim (cases_Bool (nat_lt 0 n)) [
      | inl e ↦ rw (same, e) (same_place (at.line + n) (at.line + n) (1 + on) (1 + on) refl refl)
      | inr e ↦ rw (same, e) (same_place (at.line + n) (at.line + n) (at.column + 1 + on) (at.column + (1 + on)) refl (omega arith))
    ]

walk-is : (at : Place) (before rest : List ℕ) → place_behind_all at before rest ≡ walked at (line_ends before rest) (on_line before rest)
walk-is at [] rest = rw (add-zero, add-zero) refl
walk-is at (c ∷ cs) rest = walk-is (place_behind at c (cs ++ rest)) cs rest ∙ step_by at (ends_line c (cs ++ rest)) (line_ends cs rest) (on_line cs rest)

counted : (before rest : List ℕ) → place_behind_all first_place before rest ≡ place_past before rest
counted before rest = walk-is first_place before rest ∙ elim (cases_Bool (nat_lt 0 (line_ends before rest))) [
  | inl e ↦ rw e refl
  | inr e ↦ rw e refl
]

behind_both : (at : Place) (v w rest : List ℕ) → place_behind_all at (v ++ w) rest ≡ place_behind_all (place_behind_all at v (w ++ rest)) w rest
behind_both at [] w rest = refl
behind_both at (c ∷ cs) w rest =
    ap (λ (r : List ℕ). place_behind_all (place_behind at c r) (cs ++ w) rest) (append_assoc cs w rest) ∙ behind_both (place_behind at c (cs ++ (w ++ rest))) cs w rest

-- ---- the walk, written out

-- the places of the bytes of the characters to come, and of the end
forward : Place → List Writing → List ℕ → List Place
forward at [] last = at ∷ []
forward at (x ∷ xs) last = replicate (len_utf8 x.character) at ++ forward (place_behind_all at x.written (written_of xs ++ last)) xs last

record IsForward (at : Place) (ps : List Piece) (text : List ℕ) (s : SourceText) : Type 0 where
  xs : List Writing
  last : List ℕ
  whole : text ≡ written_of xs ++ last
  text_is : s.text ≡ text_of ps ++ encodes (characters_of xs)
  places_are : s.places ≡ places_of_bytes ps ++ forward at xs last

abbrev IfText : (SourceText → Type 0) → Result SourceText SourceFault → Type 0
IfText P (Ok s) = P s
IfText P (Err fault) = Unit {0}

splits : (eligible : Bool) (text : List ℕ) (c : ℕ) (e : Bool) (w rest : List ℕ) → IsWritten eligible text c e w rest → text ≡ w ++ rest
splits _ _ _ _ _ _ (plain eligible c rest h) = refl
splits _ _ _ _ _ _ (alone text w rest unit split e none) = split
splits _ _ _ _ _ _ (pair text v w rest high low split e f i j) = split ∙ sym (append_assoc v w rest)

one_more : (at : Place) (ps : List Piece) (text : List ℕ) (c : ℕ) (e : Bool) (w rest : List ℕ) (o : Result SourceText SourceFault) → text ≡ w ++ rest
    → IfText (IsForward (place_behind_all at w rest) (record { character = c; escaped = e; place = at } ∷ ps) rest) o → IfText (IsForward at ps text) o
unfolding forward
one_more at ps text c e w rest (Ok s) split f = record {
  xs = record { character = c; written = w } ∷ f.xs;
  last = f.last;
  whole = split ∙ (ap (λ (r : List ℕ). w ++ r) f.whole ∙ sym (append_assoc w (written_of f.xs) f.last));
  text_is = f.text_is ∙ append_assoc (text_of ps) (encode c) (encodes (characters_of f.xs));
  places_are = f.places_are ∙ (append_assoc (places_of_bytes ps) (replicate (len_utf8 c) at) (forward (place_behind_all at w rest) f.xs f.last)
      ∙ ap (λ (r : List ℕ). places_of_bytes ps ++ (replicate (len_utf8 c) at ++ forward (place_behind_all at w r) f.xs f.last)) f.whole);
}
one_more at ps text c e w rest (Err fault) split f = tt

goes_forward : (at : Place) (ps : List Piece) (text : List ℕ) (o : Result SourceText SourceFault) → Translates at ps text o → IfText (IsForward at ps text) o
unfolding forward
goes_forward _ _ _ _ (ended at ps) = record { xs = []; last = []; whole = refl; text_is = sym (append-nil (text_of ps)); places_are = refl }
goes_forward _ _ _ _ (sub at ps text c e w rest written last) = record { xs = []; last = text; whole = refl; text_is = sym (append-nil (text_of ps)); places_are = refl }
goes_forward _ _ _ _ (next at ps text c e w rest o written last more) =
    one_more at ps text c e w rest o (splits (is_eligible ps) text c e w rest written) (goes_forward (place_behind_all at w rest) (record { character = c; escaped = e; place = at } ∷ ps) rest o more)
goes_forward _ _ _ _ (bad at ps text b) = tt

-- ---- single places

past_copies : (w i : ℕ) (p : Place) (ps : List Place) → slice_get (replicate w p ++ ps) (w + i) ≡ slice_get ps i
past_copies zero i p ps = rw zero-add refl
past_copies (suc w) i p ps = let e : suc w + i ≡ suc (w + i) = omega arith in rw e (past_copies w i p ps)

in_copies : (w k : ℕ) (p : Place) (ps : List Place) → k < w → slice_get (replicate w p ++ ps) k ≡ Some p
in_copies zero k p ps h = absurd (omega arith)
in_copies (suc w) zero p ps h = refl
in_copies (suc w) (suc k) p ps h = in_copies w k p ps (omega arith)

written-append : (xs ys : List Writing) (last : List ℕ) → written_of (xs ++ ys) ++ last ≡ written_of xs ++ (written_of ys ++ last)
written-append [] ys last = refl
written-append (x ∷ xs) ys last = append_assoc x.written (written_of (xs ++ ys)) last ∙ (ap (λ (r : List ℕ). x.written ++ r) (written-append xs ys last) ∙ sym (append_assoc x.written (written_of xs) (written_of ys ++ last)))

-- the place of what stands behind the writings `before`
at_writing : (at : Place) (before ys : List Writing) (last : List ℕ) (j : ℕ) → slice_get (forward at (before ++ ys) last) (size (characters_of before) + j)
    ≡ slice_get (forward (place_behind_all at (written_of before) (written_of ys ++ last)) ys last) j
unfolding forward
at_writing at [] ys last j = rw zero-add refl
at_writing at (x ∷ xs) ys last j =
    let next : Place = place_behind_all at x.written (written_of (xs ++ ys) ++ last) in
    let e : len_utf8 x.character + size (characters_of xs) + j ≡ len_utf8 x.character + (size (characters_of xs) + j) = omega arith in
    rw e (past_copies (len_utf8 x.character) (size (characters_of xs) + j) at (forward next (xs ++ ys) last))
    ∙ (at_writing next xs ys last j
    ∙ ap (λ (p : Place). slice_get (forward p ys last) j)
    (ap (λ (r : List ℕ). place_behind_all (place_behind_all at x.written r) (written_of xs) (written_of ys ++ last)) (written-append xs ys last)
    ∙ sym (behind_both at x.written (written_of xs) (written_of ys ++ last))))

size-encodes : (cs : List ℕ) → length (encodes cs) ≡ size cs
size-encodes [] = refl
size-encodes (c ∷ cs) = omega (arith, length-append (encode c) (encodes cs), length-encode c, size-encodes cs)

-- the file is its byte order mark and what stands behind it
marked : (file : List ℕ) → file ≡ byte_order_mark file ++ behind_byte_order_mark file
marked [] = refl
marked (c ∷ cs) = elim (cases_Bool (c == 0xFEFF)) [
  | inl e ↦ rw e refl
  | inr e ↦ rw e refl
]

-- the place behind some of what stands behind the byte order mark
from_front : (mark body before rest : List ℕ) → body ≡ before ++ rest → place_behind_all (place_behind_all first_place mark body) before rest ≡ place_past (mark ++ before) rest
from_front mark body before rest e =
    ap (λ (b : List ℕ). place_behind_all (place_behind_all first_place mark b) before rest) e ∙ (sym (behind_both first_place mark before rest) ∙ counted (mark ++ before) rest)

of_file : (file : List ℕ) (s : SourceText) → IsForward (place_behind_all first_place (byte_order_mark file) (behind_byte_order_mark file)) [] (behind_byte_order_mark file) s → IsWrittenOut file s
unfolding forward
of_file file s f = record {
  xs = f.xs;
  last = f.last;
  whole = marked file ∙ ap (λ (r : List ℕ). byte_order_mark file ++ r) f.whole;
  text = f.text_is;
  inside = inside;
  end = end;
}
  where
    begin : Place
    begin = place_behind_all first_place (byte_order_mark file) (behind_byte_order_mark file)

    inside : (before after : List Writing) (x : Writing) (k : ℕ) → f.xs ≡ before ++ x ∷ after → k < len_utf8 x.character
        → slice_get s.places (size (characters_of before) + k) ≡ Some (place_past (byte_order_mark file ++ written_of before) (x.written ++ (written_of after ++ f.last)))
    inside before after x k split h =
        let rest : List ℕ = x.written ++ (written_of after ++ f.last) in
        let whole : behind_byte_order_mark file ≡ written_of before ++ (written_of (x ∷ after) ++ f.last) = f.whole ∙ (ap (λ (xs : List Writing). written_of xs ++ f.last) split ∙ written-append before (x ∷ after) f.last) in
        ap (λ (ps : List Place). slice_get ps (size (characters_of before) + k)) f.places_are
        ∙ (ap (λ (xs : List Writing). slice_get (forward begin xs f.last) (size (characters_of before) + k)) split
        ∙ (at_writing begin before (x ∷ after) f.last k
        ∙ (in_copies (len_utf8 x.character) k (place_behind_all begin (written_of before) (written_of (x ∷ after) ++ f.last)) (forward (place_behind_all (place_behind_all begin (written_of before) (written_of (x ∷ after) ++ f.last)) x.written (written_of after ++ f.last)) after f.last) h
        ∙ ap Some (from_front (byte_order_mark file) (behind_byte_order_mark file) (written_of before) (written_of (x ∷ after) ++ f.last) whole
        ∙ ap (λ (r : List ℕ). place_past (byte_order_mark file ++ written_of before) r) (append_assoc x.written (written_of after) f.last)))))

    end : slice_get s.places (length s.text) ≡ Some (place_past (byte_order_mark file ++ written_of f.xs) f.last)
    end =
        let text : length s.text ≡ size (characters_of f.xs) = ap length f.text_is ∙ size-encodes (characters_of f.xs) in
        let len : length s.text ≡ size (characters_of f.xs) + 0 = omega arith in
        let all : f.xs ++ [] ≡ f.xs = append-nil f.xs in
        ap (λ (ps : List Place). slice_get ps (length s.text)) f.places_are
        ∙ (ap (λ (n : ℕ). slice_get (forward begin f.xs f.last) n) len
        ∙ (ap (λ (xs : List Writing). slice_get (forward begin xs f.last) (size (characters_of f.xs) + 0)) (sym all)
        ∙ (at_writing begin f.xs [] f.last 0
        ∙ ap Some (from_front (byte_order_mark file) (behind_byte_order_mark file) (written_of f.xs) f.last f.whole))))

read_out : (bytes : List ℕ) (o : Result SourceText SourceFault) → IsRead bytes o → IfText (IsWrittenOut (chars bytes)) o
read_out _ _ (not_utf8 bytes n v) = tt
read_out _ _ (translated bytes (Ok s) utf8 t) =
    of_file (chars bytes) s (goes_forward (place_behind_all first_place (byte_order_mark (chars bytes)) (behind_byte_order_mark (chars bytes))) [] (behind_byte_order_mark (chars bytes)) (Ok s) t)
read_out _ _ (translated bytes (Err fault) utf8 t) = tt

-- what is read of bytes is written out by them
pub written_out : (bytes : List ℕ) (s : SourceText) → IsRead bytes (Ok s) → IsWrittenOut (chars bytes) s
written_out bytes s t = read_out bytes (Ok s) t

-- ---- the first bad escape

record IsStop (at : Place) (text : List ℕ) (found : Place) : Type 0 where
  xs : List Writing
  rest : List ℕ
  whole : text ≡ written_of xs ++ rest
  begins : begins_escape rest ≡ true
  none : BeginsWithNoEscape rest
  place : found ≡ place_behind_all at (written_of xs) rest

abbrev IfEscape : (Place → Type 0) → Result SourceText SourceFault → Type 0
IfEscape P (Ok s) = Unit {0}
IfEscape P (Err (NotUtf8 n)) = Unit {0}
IfEscape P (Err (Escape at)) = P at
IfEscape P (Err Memory) = Unit {0}

stop_more : (at : Place) (text : List ℕ) (c : ℕ) (w rest : List ℕ) (found : Place) → text ≡ w ++ rest → IsStop (place_behind_all at w rest) rest found → IsStop at text found
stop_more at text c w rest found split f = record {
  xs = record { character = c; written = w } ∷ f.xs;
  rest = f.rest;
  whole = split ∙ (ap (λ (r : List ℕ). w ++ r) f.whole ∙ sym (append_assoc w (written_of f.xs) f.rest));
  begins = f.begins;
  none = f.none;
  place = f.place ∙ (ap (λ (r : List ℕ). place_behind_all (place_behind_all at w r) (written_of f.xs) f.rest) f.whole ∙ sym (behind_both at w (written_of f.xs) f.rest));
}

stops_more : (at : Place) (text : List ℕ) (c : ℕ) (w rest : List ℕ) (o : Result SourceText SourceFault) → text ≡ w ++ rest → IfEscape (IsStop (place_behind_all at w rest) rest) o → IfEscape (IsStop at text) o
stops_more at text c w rest (Ok s) split f = tt
stops_more at text c w rest (Err (NotUtf8 n)) split f = tt
stops_more at text c w rest (Err (Escape found)) split f = stop_more at text c w rest found split f
stops_more at text c w rest (Err Memory) split f = tt

goes_to_stop : (at : Place) (ps : List Piece) (text : List ℕ) (o : Result SourceText SourceFault) → Translates at ps text o → IfEscape (IsStop at text) o
goes_to_stop _ _ _ _ (ended at ps) = tt
goes_to_stop _ _ _ _ (sub at ps text c e w rest written last) = tt
goes_to_stop _ _ _ _ (next at ps text c e w rest o written last more) =
    stops_more at text c w rest o (splits (is_eligible ps) text c e w rest written) (goes_to_stop (place_behind_all at w rest) (record { character = c; escaped = e; place = at } ∷ ps) rest o more)
goes_to_stop _ _ _ _ (bad at ps text b) = record { xs = []; rest = text; whole = refl; begins = b.begins; none = b.none; place = refl }

stop_of_file : (file : List ℕ) (found : Place) → IsStop (place_behind_all first_place (byte_order_mark file) (behind_byte_order_mark file)) (behind_byte_order_mark file) found → StopsAt file found
stop_of_file file found f = record {
  xs = f.xs;
  rest = f.rest;
  whole = marked file ∙ ap (λ (r : List ℕ). byte_order_mark file ++ r) f.whole;
  begins = f.begins;
  none = f.none;
  place = f.place ∙ from_front (byte_order_mark file) (behind_byte_order_mark file) (written_of f.xs) f.rest f.whole;
}

read_stop : (bytes : List ℕ) (o : Result SourceText SourceFault) → IsRead bytes o → IfEscape (StopsAt (chars bytes)) o
read_stop _ _ (not_utf8 bytes n v) = tt
read_stop _ _ (translated bytes (Ok s) utf8 t) = tt
read_stop _ _ (translated bytes (Err (NotUtf8 n)) utf8 t) = tt
read_stop _ _ (translated bytes (Err (Escape at)) utf8 t) =
    stop_of_file (chars bytes) at (goes_to_stop (place_behind_all first_place (byte_order_mark (chars bytes)) (behind_byte_order_mark (chars bytes))) [] (behind_byte_order_mark (chars bytes)) (Err (Escape at)) t)
read_stop _ _ (translated bytes (Err Memory) utf8 t) = tt

-- an escape that is refused is the first bad one
pub stops_at : (bytes : List ℕ) (fault : SourceFault) → (fault ≡ Memory) ⊎ IsRead bytes (Err fault) → (at : Place) → fault ≡ Escape at → StopsAt (chars bytes) at
stops_at bytes fault (inl m) at e = let no_way : Memory ≡ Escape at = sym m ∙ e in absurd cc
stops_at bytes fault (inr t) at e = read_stop bytes (Err (Escape at)) (subst (λ (f : SourceFault). IsRead bytes (Err f)) e t)

pub result_stops : (bytes : List ℕ) (r : Result SourceText SourceFault) (P : SourceText → Type 0) → MatchResult r P (λ fault. (fault ≡ Memory) ⊎ IsRead bytes (Err fault)) → IfErr r (λ fault. (at : Place) → fault ≡ Escape at → StopsAt (chars bytes) at)
result_stops bytes (Ok s) P m = tt
result_stops bytes (Err fault) P m = stops_at bytes fault m
