-- How a character is written: in one way only, and where the place behind it is.
use Rattle.std.proofs.Common.{ℕ, zero, suc, ◌≡◌, ◌+◌, ◌<◌, ◌==◌, ◌&&◌, nat_lt, Bool, true, false, List, [], ◌∷◌, ◌++◌, length, replicate, refl, ap, sym, ◌∙◌, arith, inl, inr, length-append}
use Rattle.std.specs.Char.{digit_value}
use Rattle.std.specs.Char.Utf16.{is_high_surrogate, is_low_surrogate, surrogate_pair_char}
use Rattle.std.proofs.lemmas.Bool.{cases_lt, lt-ltb, ltb-true, ne_eqb}
use Rattle.pj_tree.specs.Places.{place_behind}
use Rattle.pj_tree.specs.declared.node.Place.{Place}
use Rattle.pj_source.specs.Escapes.{IsEscape, BeginsWithNoEscape, BeginsWithLow, IsBadEscape, IsWritten, begins_escape, character_alone, place_behind_all}
use Rattle.pj_source.specs.Escapes.IsWritten.{plain, alone, pair}
use Rattle.pj_source.specs.Translating.{IsFront}
use Rattle.pj_source.proofs.EscapeLaws.{SameEscape, same_escape, begins}

-- ---- the calls' cases

pub plain_front : (eligible : Bool) (text rest : List ℕ) (c : ℕ) → text ≡ c ∷ rest → (eligible && begins_escape (c ∷ rest)) ≡ false → IsFront eligible text c false 1 rest
plain_front eligible text rest c e h = record { w = c ∷ []; written = rw e (plain eligible c rest h); len_is = refl }

pub alone_front : (text w rest : List ℕ) (c unit len : ℕ) → text ≡ w ++ rest → IsEscape w unit → len ≡ length w → c ≡ character_alone unit → (is_high_surrogate unit ≡ true → ¬ (BeginsWithLow rest)) → IsFront true text c true len rest
alone_front text w rest c unit len split e l is none = record { w = w; written = rw is (alone text w rest unit split e none); len_is = l }

pub pair_front : (text v w middle rest : List ℕ) (c high low l m : ℕ) → text ≡ v ++ middle → middle ≡ w ++ rest → IsEscape v high → IsEscape w low → l ≡ length v → m ≡ length w
    → is_high_surrogate high ≡ true → is_low_surrogate low ≡ true → c ≡ surrogate_pair_char high low → IsFront true text c true (l + m) rest
pair_front text v w middle rest c high low l m p q e f i j h k is = record {
  w = v ++ w;
  written = rw is (pair text v w rest high low (p ∙ ap (λ (xs : List ℕ). v ++ xs) q) e f h k);
  len_is = omega (arith, i, j, length-append v w);
}

-- the escape at the front is none of a second unit
pub other_unit : (text w rest : List ℕ) (unit : ℕ) → text ≡ w ++ rest → IsEscape w unit → is_low_surrogate unit ≡ false → ¬ (BeginsWithLow text)
other_unit text w rest unit split e low (v, (r, (u, (q, f, h)))) =
    let s : SameEscape w v rest r unit u = same_escape text w v rest r unit u split q e f in
    let h' : true ≡ false = sym h ∙ (ap is_low_surrogate (sym s.unit_is) ∙ low) in
    absurd cc

-- no escape is at the front
pub no_unit : (text : List ℕ) → BeginsWithNoEscape text → ¬ (BeginsWithLow text)
no_unit text none (v, (r, (u, (q, f, h)))) = none v r u q f

pub first_false : (a b x : Bool) → a ≡ false → (a && (b && x)) ≡ false
first_false a b x e = rw e refl

pub second_false : (a b x : Bool) → b ≡ false → (a && (b && x)) ≡ false
second_false true b x e = rw e refl
second_false false b x e = refl

pub third_false : (a b x : Bool) → x ≡ false → (a && (b && x)) ≡ false
third_false true true x e = e
third_false true false x e = refl
third_false false b x e = refl

-- ---- in one way only

pub record SameWriting (c d : ℕ) (e f : Bool) (v w r s : List ℕ) : Type 0 where
  pub character : c ≡ d
  pub escaped : e ≡ f
  pub written : v ≡ w
  pub behind : r ≡ s

-- an eligible escape is not written plainly
clash : (text w rest : List ℕ) (unit : ℕ) → text ≡ w ++ rest → IsEscape w unit → (true && begins_escape text) ≡ false → ⊥
clash text w rest unit split e h = let no_way : true ≡ false = sym (begins text w rest unit split e) ∙ h in absurd cc

-- an escape of a first unit by itself has none of a second unit behind it
apart : (text w v u rest rest' : List ℕ) (unit high low : ℕ) → text ≡ w ++ rest → IsEscape w unit → (is_high_surrogate unit ≡ true → ¬ (BeginsWithLow rest))
    → text ≡ v ++ (u ++ rest') → IsEscape v high → IsEscape u low → is_high_surrogate high ≡ true → is_low_surrogate low ≡ true → ⊥
apart text w v u rest rest' unit high low p e none q f g h k =
    let s : SameEscape w v rest (u ++ rest') unit high = same_escape text w v rest (u ++ rest') unit high p q e f in
    none (ap is_high_surrogate s.unit_is ∙ h) (u, (rest', (low, (s.behind, g, k))))

pub same_writing : (eligible : Bool) (text : List ℕ) (c d : ℕ) (e f : Bool) (v w r s : List ℕ) → IsWritten eligible text c e v r → IsWritten eligible text d f w s → SameWriting c d e f v w r s
same_writing _ _ _ _ _ _ _ _ _ _ (plain _ c rest h) (plain _ _ _ k) = record { character = refl; escaped = refl; written = refl; behind = refl }
same_writing _ _ _ _ _ _ _ _ _ _ (plain _ c rest h) (alone text w rest' unit split e none) = absurd (clash text w rest' unit split e h)
same_writing _ _ _ _ _ _ _ _ _ _ (plain _ c rest h) (pair text v w rest' high low split e f i j) = absurd (clash text v (w ++ rest') high split e h)
same_writing _ _ _ _ _ _ _ _ _ _ (alone text w rest unit split e none) (plain _ c rest' h) = absurd (clash text w rest unit split e h)
same_writing _ _ _ _ _ _ _ _ _ _ (alone text w rest unit split e none) (alone _ v rest' unit' split' f none') =
    let s : SameEscape w v rest rest' unit unit' = same_escape text w v rest rest' unit unit' split split' e f in
    record { character = ap character_alone s.unit_is; escaped = refl; written = s.written; behind = s.behind }
same_writing _ _ _ _ _ _ _ _ _ _ (alone text w rest unit split e none) (pair _ v u rest' high low split' f g h k) = absurd (apart text w v u rest rest' unit high low split e none split' f g h k)
same_writing _ _ _ _ _ _ _ _ _ _ (pair text v w rest' high low split e f i j) (plain _ c rest h) = absurd (clash text v (w ++ rest') high split e h)
same_writing _ _ _ _ _ _ _ _ _ _ (pair text v u rest' high low split' f g h k) (alone _ w rest unit split e none) = absurd (apart text w v u rest rest' unit high low split e none split' f g h k)
same_writing _ _ _ _ _ _ _ _ _ _ (pair text v w rest high low split e f i j) (pair _ v' w' rest' high' low' split' e' f' i' j') =
    let s : SameEscape v v' (w ++ rest) (w' ++ rest') high high' = same_escape text v v' (w ++ rest) (w' ++ rest') high high' split split' e e' in
    let t : SameEscape w w' rest rest' low low' = same_escape (w ++ rest) w w' rest rest' low low' refl s.behind f f' in
    record { character = pairs high high' low low' s.unit_is t.unit_is; escaped = refl; written = joined v v' w w' s.written t.written; behind = t.behind }
  where
    pairs : (h h' l l' : ℕ) → h ≡ h' → l ≡ l' → surrogate_pair_char h l ≡ surrogate_pair_char h' l'
    pairs h h' l l' p q = rw (p, q) refl

    joined : (a a' b b' : List ℕ) → a ≡ a' → b ≡ b' → a ++ b ≡ a' ++ b'
    joined a a' b b' p q = rw (p, q) refl

-- what is written is no bad escape, and is something
pub not_bad : (eligible : Bool) (text : List ℕ) (c : ℕ) (e : Bool) (w r : List ℕ) → IsWritten eligible text c e w r → IsBadEscape eligible text → ⊥
not_bad _ _ _ _ _ _ (plain eligible c rest h) b = let no_way : true ≡ false = sym b.begins ∙ (sym (ap (λ (x : Bool). x && begins_escape (c ∷ rest)) b.allowed) ∙ h) in absurd cc
not_bad _ _ _ _ _ _ (alone text w rest unit split e none) b = b.none w rest unit split e
not_bad _ _ _ _ _ _ (pair text v w rest high low split e f i j) b = b.none v (w ++ rest) high split e

pub not_empty : (eligible : Bool) (text : List ℕ) (c : ℕ) (e : Bool) (w r : List ℕ) → IsWritten eligible text c e w r → text ≡ [] → ⊥
not_empty _ _ _ _ _ _ (plain eligible c rest h) e = absurd cc
not_empty _ _ _ _ _ _ (alone text w rest unit split e none) empty = let no_way : true ≡ false = sym (begins text w rest unit split e) ∙ ap begins_escape empty in absurd cc
not_empty _ _ _ _ _ _ (pair text v w rest high low split e f i j) empty = let no_way : true ≡ false = sym (begins text v (w ++ rest) high split e) ∙ ap begins_escape empty in absurd cc

-- ---- the place behind

-- characters that end no line
above : List ℕ → Bool
above [] = true
above (c ∷ cs) = nat_lt 13 c && above cs

both : (a b : Bool) → a ≡ true → b ≡ true → (a && b) ≡ true
both a b p q = rw (p, q) refl

left_of : (a b : Bool) → (a && b) ≡ true → a ≡ true
left_of true b e = refl
left_of false b e = e

right_of : (a b : Bool) → (a && b) ≡ true → b ≡ true
right_of true b e = e
right_of false b e = absurd cc

above-append : (v w : List ℕ) → above v ≡ true → above w ≡ true → above (v ++ w) ≡ true
unfolding above
above-append [] w p q = q
above-append (c ∷ cs) w p q = both (nat_lt 13 c) (above (cs ++ w)) (left_of (nat_lt 13 c) (above cs) p) (above-append cs w (right_of (nat_lt 13 c) (above cs) p) q)

above-replicate : (n : ℕ) → above (replicate n 117) ≡ true
unfolding above
above-replicate zero = refl
above-replicate (suc n) = above-replicate n

digit_above : (c : ℕ) → digit_value c < 16 → nat_lt 13 c ≡ true
digit_above c h = elim (cases_lt 13 c) [
  | inl l ↦ lt-ltb 13 c l
  | inr m ↦ let low : nat_lt c 48 ≡ true = lt-ltb c 48 (omega arith) in let h' : 36 < 16 = rw low at h in absurd (omega arith)
]

above_escape : (w : List ℕ) (unit : ℕ) → IsEscape w unit → above w ≡ true
unfolding above
above_escape w unit e =
    ap above e.spelled ∙ above-append (replicate e.more 117) e.digits (above-replicate e.more)
    (ap above e.number.are ∙ both (nat_lt 13 e.number.a) (above (e.number.b ∷ e.number.c ∷ e.number.d ∷ [])) (digit_above e.number.a e.number.hex_a)
    (both (nat_lt 13 e.number.b) (above (e.number.c ∷ e.number.d ∷ [])) (digit_above e.number.b e.number.hex_b)
    (both (nat_lt 13 e.number.c) (above (e.number.d ∷ [])) (digit_above e.number.c e.number.hex_c) (both (nat_lt 13 e.number.d) true (digit_above e.number.d e.number.hex_d) refl))))

written_above : (eligible : Bool) (text : List ℕ) (c : ℕ) (e : Bool) (w r : List ℕ) → IsWritten eligible text c e w r → e ≡ true → above w ≡ true
unfolding above
written_above _ _ _ _ _ _ (plain eligible c rest h) is = absurd cc
written_above _ _ _ _ _ _ (alone text w rest unit split e none) is = above_escape w unit e
written_above _ _ _ _ _ _ (pair text v w rest high low split e f i j) is = above-append v w (above_escape v high e) (above_escape w low f)

no_end : (at : Place) (c : ℕ) (rest : List ℕ) → nat_lt 13 c ≡ true → place_behind at c rest ≡ record { line = at.line; column = at.column + 1 }
no_end at c rest h =
    let big : 13 < c = ltb-true 13 c h in
    let a : (c == 10) ≡ false = ne_eqb c 10 (λ e. absurd (omega arith)) in
    let b : (c == 13) ≡ false = ne_eqb c 13 (λ e. absurd (omega arith)) in
    rw (a, b) refl

past_above : (at : Place) (w rest : List ℕ) → above w ≡ true → place_behind_all at w rest ≡ record { line = at.line; column = at.column + length w }
unfolding above
past_above at [] rest h = place_same at.line at.column (at.column + 0) (omega arith)
  where
    place_same : (l m n : ℕ) → m ≡ n → ◌≡◌ {A = Place} (record { line = l; column = m }) (record { line = l; column = n })
    place_same l m n e = rw e refl
past_above at (c ∷ cs) rest h =
    ap (λ (p : Place). place_behind_all p cs rest) (no_end at c (cs ++ rest) (left_of (nat_lt 13 c) (above cs) h))
    ∙ (past_above (record { line = at.line; column = at.column + 1 }) cs rest (right_of (nat_lt 13 c) (above cs) h) ∙ place_same at.line (at.column + 1 + length cs) (at.column + suc (length cs)) (omega arith))
  where
    place_same : (l m n : ℕ) → m ≡ n → ◌≡◌ {A = Place} (record { line = l; column = m }) (record { line = l; column = n })
    place_same l m n e = rw e refl

pub past_escape : (eligible : Bool) (text : List ℕ) (c len : ℕ) (e : Bool) (rest : List ℕ) (at : Place) → (f : IsFront eligible text c e len rest) → e ≡ true → ◌≡◌ {A = Place} (record { line = at.line; column = at.column + len }) (place_behind_all at f.w rest)
past_escape eligible text c len e rest at f is =
    ap (λ (n : ℕ). placed at.line (at.column + n)) f.len_is ∙ sym (past_above at f.w rest (written_above eligible text c e f.w rest f.written is))
  where
    placed : ℕ → ℕ → Place
    placed l m = record { line = l; column = m }

-- a plain character is written by itself
written_plain : (eligible : Bool) (text : List ℕ) (c : ℕ) (e : Bool) (w r : List ℕ) → IsWritten eligible text c e w r → e ≡ false → w ≡ c ∷ []
written_plain _ _ _ _ _ _ (plain eligible c rest h) is = refl
written_plain _ _ _ _ _ _ (alone text w rest unit split e none) is = absurd cc
written_plain _ _ _ _ _ _ (pair text v w rest high low split e f i j) is = absurd cc

pub past_plain : (eligible : Bool) (text : List ℕ) (c len : ℕ) (e : Bool) (rest : List ℕ) (at : Place) → (f : IsFront eligible text c e len rest) → e ≡ false → place_behind at c rest ≡ place_behind_all at f.w rest
past_plain eligible text c len e rest at f is = sym (ap (λ (w : List ℕ). place_behind_all at w rest) (written_plain eligible text c e f.w rest f.written is))
