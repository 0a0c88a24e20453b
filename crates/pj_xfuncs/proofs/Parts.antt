-- Parts of texts: of bytes, and of characters.
use Rattle.std.proofs.Common.{◌≡◌, ◌∙◌, ◌↔◌, ℕ, suc, ◌+◌, ◌-◌, ◌<◌, ◌≤◌, Bool, true, false, cond, List, [], ◌∷◌, ◌++◌, length, take, drop, Option, Some, None, is_some, option_map, refl, sym, ap, ap₂, subst, arith, eqb, length-append}
use Rattle.std.proofs.Math.Seq.{take-append_seam, drop-append_seam, drop-append-add}
use Rattle.std.specs.Prelude.{IsUtf8, chars, encode_utf8_all}
use Rattle.std.specs.List.{starts_with, ends_with}
use Rattle.std.specs.Str.Iter.{HasSubslice}
use Rattle.std.specs.Str.Pattern.{LacksTextAt, HasTextAt}
use Rattle.std.proofs.lemmas.List.{append-nil, append_assoc, take-append-drop}
use Rattle.std.proofs.lemmas.Bool.{false≢true}
use Rattle.std.proofs.lemmas.Bool.Decides.{Decides-eqb}
use Rattle.std.proofs.lemmas.Slice.Eq.{starts_is, ends_is}
use Rattle.std.proofs.lemmas.Str.{chars-nil, chars-append, encodes-chars, encodes-append, length-le-encodes}
use Rattle.pj_xfuncs.specs.Strings.{place_of, before, behind}
use Rattle.pj_xfuncs.proofs.Utf8Parts.{Around, around, chars-around}

-- ---- two tests that are true together

pub same_bools : (a b : Bool) → (a ≡ true → b ≡ true) → (b ≡ true → a ≡ true) → a ≡ b
same_bools true true f g = refl
same_bools true false f g = sym (f refl)
same_bools false true f g = g refl
same_bools false false f g = refl

-- ---- a list that begins with another

pub starts-true : (s p rest : List ℕ) → s ≡ p ++ rest → starts_with eqb s p ≡ true
starts-true s p rest h = (starts_is Decides-eqb s p (starts_with eqb s p) refl).1 rest h

pub starts-parts : (s p : List ℕ) → starts_with eqb s p ≡ true → s ≡ p ++ drop (length p) s
starts-parts s p h = (starts_is Decides-eqb s p (starts_with eqb s p) refl).0 h

-- ---- the first place of a part

pub place-parts : (p cs : List ℕ) (k : ℕ) → place_of p cs ≡ Some k → cs ≡ take k cs ++ (p ++ drop (k + length p) cs)
place-parts p [] k h = go (starts_with eqb [] p) refl h
  where
    go : (b : Bool) → starts_with eqb [] p ≡ b → cond b (Some 0) None ≡ Some k → [] ≡ take k [] ++ (p ++ drop (k + length p) [])
    go true e h = let zero : 0 ≡ k = cc in let same : length p ≡ 0 + length p = omega arith in subst (λ (n : ℕ). [] ≡ take n [] ++ (p ++ drop (n + length p) [])) zero (starts-parts [] p e ∙ ap (λ (n : ℕ). p ++ drop n []) same)
    go false e h = cc
place-parts p (c ∷ cs) k h = go (λ n e. place-parts p cs n e) (starts_with eqb (c ∷ cs) p) refl h
  where
    tail : ((n : ℕ) → place_of p cs ≡ Some n → cs ≡ take n cs ++ (p ++ drop (n + length p) cs)) → (o : Option ℕ) → place_of p cs ≡ o → option_map suc o ≡ Some k → c ∷ cs ≡ take k (c ∷ cs) ++ (p ++ drop (k + length p) (c ∷ cs))
    tail rest None e h = cc
    tail rest (Some n) e h =
        let is : suc n ≡ k = cc in
        let ih = rest n e in
        let same : suc (n + length p) ≡ suc n + length p = omega arith in
        subst (λ (m : ℕ). c ∷ cs ≡ take m (c ∷ cs) ++ (p ++ drop (m + length p) (c ∷ cs))) is (ap (λ (t : List ℕ). c ∷ t) ih ∙ ap (λ (m : ℕ). c ∷ (take n cs ++ (p ++ drop m (c ∷ cs)))) same)

    go : ((n : ℕ) → place_of p cs ≡ Some n → cs ≡ take n cs ++ (p ++ drop (n + length p) cs)) → (b : Bool) → starts_with eqb (c ∷ cs) p ≡ b → cond b (Some 0) (option_map suc (place_of p cs)) ≡ Some k → c ∷ cs ≡ take k (c ∷ cs) ++ (p ++ drop (k + length p) (c ∷ cs))
    go rest true e h = let zero : 0 ≡ k = cc in let same : length p ≡ 0 + length p = omega arith in subst (λ (n : ℕ). c ∷ cs ≡ take n (c ∷ cs) ++ (p ++ drop (n + length p) (c ∷ cs))) zero (starts-parts (c ∷ cs) p e ∙ ap (λ (n : ℕ). p ++ drop n (c ∷ cs)) same)
    go rest false e h = tail rest (place_of p cs) refl h

-- a part that stands behind some characters, and at no place before
abbrev pub NoEarlier : List ℕ → List ℕ → List ℕ → Type 0
NoEarlier a p b = (x y rest : List ℕ) → a ≡ x ++ y → 0 < length y → y ++ (p ++ b) ≡ p ++ rest → ⊥

pub place-first : (a p b : List ℕ) → NoEarlier a p b → place_of p (a ++ (p ++ b)) ≡ Some (length a)
place-first [] p b none = at_start (p ++ b) refl
  where
    at_start : (cs : List ℕ) → cs ≡ p ++ b → place_of p cs ≡ Some 0
    at_start [] h = rw (starts-true [] p b h) refl
    at_start (c ∷ cs) h = rw (starts-true (c ∷ cs) p b h) refl
place-first (c ∷ a) p b none = go (place-first a p b (λ x y rest is some same. none (c ∷ x) y rest (ap (λ (t : List ℕ). c ∷ t) is) some same)) (starts_with eqb (c ∷ (a ++ (p ++ b))) p) refl
  where
    go : place_of p (a ++ (p ++ b)) ≡ Some (length a) → (t : Bool) → starts_with eqb (c ∷ (a ++ (p ++ b))) p ≡ t → cond t (Some 0) (option_map suc (place_of p (a ++ (p ++ b)))) ≡ Some (suc (length a))
    go ih true e = absurd (none [] (c ∷ a) (drop (length p) (c ∷ (a ++ (p ++ b)))) refl (omega arith) (starts-parts (c ∷ (a ++ (p ++ b))) p e))
    go ih false e = ap (λ (o : Option ℕ). option_map suc o) ih

pub place-some : (a p b : List ℕ) → is_some (place_of p (a ++ (p ++ b))) ≡ true
place-some [] p b = at_start (p ++ b) refl
  where
    at_start : (cs : List ℕ) → cs ≡ p ++ b → is_some (place_of p cs) ≡ true
    at_start [] h = rw (starts-true [] p b h) refl
    at_start (c ∷ cs) h = rw (starts-true (c ∷ cs) p b h) refl
place-some (c ∷ a) p b = go (place-some a p b) (starts_with eqb (c ∷ (a ++ (p ++ b))) p)
  where
    some : (o : Option ℕ) → is_some o ≡ true → is_some (option_map suc o) ≡ true
    some None h = h
    some (Some n) h = refl

    go : is_some (place_of p (a ++ (p ++ b))) ≡ true → (t : Bool) → is_some (cond t (Some 0) (option_map suc (place_of p (a ++ (p ++ b))))) ≡ true
    go ih true = refl
    go ih false = some (place_of p (a ++ (p ++ b))) ih

-- ---- bytes and characters

-- a part of characters is a part of bytes
spelled : (s p x y : List ℕ) → IsUtf8 s → IsUtf8 p → chars s ≡ x ++ (chars p ++ y) → s ≡ encode_utf8_all x ++ (p ++ encode_utf8_all y)
spelled s p x y us up h =
    sym (encodes-chars s us) ∙ ap encode_utf8_all h ∙ encodes-append x (chars p ++ y)
    ∙ ap (λ (t : List ℕ). encode_utf8_all x ++ t) (encodes-append (chars p) y ∙ ap (λ (t : List ℕ). t ++ encode_utf8_all y) (encodes-chars p up))

pub starts-chars : (s p : List ℕ) → IsUtf8 s → IsUtf8 p → starts_with eqb s p ≡ starts_with eqb (chars s) (chars p)
starts-chars s p us up = same_bools _ _ there back
  where
    there : starts_with eqb s p ≡ true → starts_with eqb (chars s) (chars p) ≡ true
    there h = starts-true (chars s) (chars p) (chars (drop (length p) s)) (ap chars (starts-parts s p h) ∙ chars-append p (drop (length p) s) up)

    back : starts_with eqb (chars s) (chars p) ≡ true → starts_with eqb s p ≡ true
    back h = starts-true s p (encode_utf8_all (drop (length (chars p)) (chars s))) (spelled s p [] (drop (length (chars p)) (chars s)) us up (starts-parts (chars s) (chars p) h))

pub place-chars : (s p : List ℕ) → IsUtf8 s → IsUtf8 p → HasSubslice s p → is_some (place_of (chars p) (chars s)) ≡ true
place-chars s [] us up h = rw chars-nil (all (chars s))
  where
    all : (cs : List ℕ) → is_some (place_of [] cs) ≡ true
    all [] = refl
    all (c ∷ cs) = refl
place-chars s (n ∷ p) us up (a, b, is) =
    let h = around a (n ∷ p) b (subst (λ (t : List ℕ). IsUtf8 t) is us) up (omega arith) in
    rw (is, chars-around a (n ∷ p) b h) (place-some (chars a) (chars (n ∷ p)) (chars b))

pub substring-chars : (s p : List ℕ) → IsUtf8 s → IsUtf8 p → is_some (place_of (chars p) (chars s)) ≡ true → HasSubslice s p
substring-chars s p us up h = go (place_of (chars p) (chars s)) refl h
  where
    go : (o : Option ℕ) → place_of (chars p) (chars s) ≡ o → is_some o ≡ true → HasSubslice s p
    go None e h = absurd (false≢true h)
    go (Some k) e h = (encode_utf8_all (take k (chars s)), encode_utf8_all (drop (k + length (chars p)) (chars s)), spelled s p (take k (chars s)) (drop (k + length (chars p)) (chars s)) us up (place-parts (chars p) (chars s) k e))

pub contains-chars : (r : Bool) (s p : List ℕ) → IsUtf8 s → IsUtf8 p → (r ≡ true) ↔ HasSubslice s p → r ≡ is_some (place_of (chars p) (chars s))
contains-chars r s p us up h = same_bools r _ (λ e. place-chars s p us up (h.0 e)) (λ e. h.1 (substring-chars s p us up e))

-- ---- a list that ends with another

pub ends-true : (s p front : List ℕ) → s ≡ front ++ p → ends_with eqb s p ≡ true
ends-true s p front h = (ends_is Decides-eqb s p (ends_with eqb s p) refl).1 front h

pub ends-parts : (s p : List ℕ) → ends_with eqb s p ≡ true → s ≡ take (length s - length p) s ++ p
ends-parts s p h = (ends_is Decides-eqb s p (ends_with eqb s p) refl).0 h

ends_there : (s p : List ℕ) → IsUtf8 s → IsUtf8 p → ends_with eqb s p ≡ true → ends_with eqb (chars s) (chars p) ≡ true
ends_there s [] us up h = rw chars-nil (ends-true (chars s) [] (chars s) (sym (append-nil (chars s))))
ends_there s (n ∷ p) us up h =
    let front = take (length s - length (n ∷ p)) s in
    let is : s ≡ front ++ ((n ∷ p) ++ []) = ends-parts s (n ∷ p) h ∙ ap (λ (t : List ℕ). front ++ t) (sym (append-nil (n ∷ p))) in
    let around_it = around front (n ∷ p) [] (subst (λ (t : List ℕ). IsUtf8 t) is us) up (omega arith) in
    ends-true (chars s) (chars (n ∷ p)) (chars front) (ap chars is ∙ chars-around front (n ∷ p) [] around_it ∙ ap (λ (t : List ℕ). chars front ++ t) (ap (λ (t : List ℕ). chars (n ∷ p) ++ t) chars-nil ∙ append-nil (chars (n ∷ p))))

pub ends-chars : (s p : List ℕ) → IsUtf8 s → IsUtf8 p → ends_with eqb s p ≡ ends_with eqb (chars s) (chars p)
ends-chars s p us up = same_bools _ _ (ends_there s p us up) back
  where
    back : ends_with eqb (chars s) (chars p) ≡ true → ends_with eqb s p ≡ true
    back h =
        let x = take (length (chars s) - length (chars p)) (chars s) in
        let is = spelled s p x [] us up (ends-parts (chars s) (chars p) h ∙ ap (λ (t : List ℕ). x ++ t) (sym (append-nil (chars p)))) in
        ends-true s p (encode_utf8_all x) (is ∙ ap (λ (t : List ℕ). encode_utf8_all x ++ t) (append-nil p))

-- ---- what stands around the first occurrence

-- the text is cut at the first place of the part
pub record FirstCut (s p front rest : List ℕ) : Type 0 where
  pub is : s ≡ front ++ (p ++ rest)
  pub none : (i : ℕ) → i < length front → LacksTextAt p s i

-- what the first cut says of the characters
record CutFacts (s p front rest : List ℕ) : Type 0 where
  front_is : encode_utf8_all (chars front) ≡ front
  rest_is : encode_utf8_all (chars rest) ≡ rest
  parts : chars s ≡ chars front ++ (chars p ++ chars rest)
  place : place_of (chars p) (chars s) ≡ Some (length (chars front))

nil_from_length : (xs : List ℕ) → (0 < length xs → ⊥) → xs ≡ []
nil_from_length [] h = refl
nil_from_length (x ∷ xs) h = absurd (h (omega arith))

no_earlier : (s p front rest : List ℕ) → IsUtf8 p → Around front p rest → FirstCut s p front rest → NoEarlier (chars front) (chars p) (chars rest)
no_earlier s p front rest up h cut x y other is some same =
    let front_is : front ≡ encode_utf8_all x ++ encode_utf8_all y = sym (encodes-chars front h.before_utf8) ∙ ap encode_utf8_all is ∙ encodes-append x y in
    let whole : s ≡ encode_utf8_all x ++ (encode_utf8_all y ++ (p ++ rest)) = cut.is ∙ ap (λ (t : List ℕ). t ++ (p ++ rest)) front_is ∙ append_assoc (encode_utf8_all x) (encode_utf8_all y) (p ++ rest) in
    let tail : encode_utf8_all y ++ (p ++ rest) ≡ p ++ encode_utf8_all other =
    ap (λ (t : List ℕ). encode_utf8_all y ++ t) (sym (encodes-append (chars p) (chars rest) ∙ ap₂ (λ (a b : List ℕ). a ++ b) (encodes-chars p up) (encodes-chars rest h.behind_utf8))) ∙ sym (encodes-append y (chars p ++ chars rest))
    ∙ ap encode_utf8_all same ∙ encodes-append (chars p) other ∙ ap (λ (t : List ℕ). t ++ encode_utf8_all other) (encodes-chars p up) in
    let l1 = ap length front_is ∙ length-append (encode_utf8_all x) (encode_utf8_all y) in
    let l2 = length-le-encodes y in
    cut.none (length (encode_utf8_all x)) (omega (arith, l1, l2)) (encode_utf8_all other) (ap (λ (t : List ℕ). drop (length (encode_utf8_all x)) t) whole ∙ drop-append_seam (encode_utf8_all x) (encode_utf8_all y ++ (p ++ rest)) ∙ tail)

cut_facts : (s p front rest : List ℕ) → IsUtf8 s → IsUtf8 p → FirstCut s p front rest → CutFacts s p front rest
cut_facts s [] front rest us up cut =
    let none : front ≡ [] = nil_from_length front (λ some. cut.none 0 some s refl) in
    let is : s ≡ rest = cut.is ∙ ap (λ (t : List ℕ). t ++ rest) none in
    record {
      front_is = ap (λ (t : List ℕ). encode_utf8_all (chars t)) none ∙ ap encode_utf8_all chars-nil ∙ sym none;
      rest_is = encodes-chars rest (subst (λ (t : List ℕ). IsUtf8 t) is us);
      parts = ap chars is ∙ sym (ap₂ (λ (a b : List ℕ). a ++ (b ++ chars rest)) (ap chars none ∙ chars-nil) chars-nil);
      place = rw chars-nil (first (chars s) ∙ ap (λ (t : List ℕ). Some (length t)) (sym (ap chars none ∙ chars-nil)));
    }
  where
    first : (cs : List ℕ) → place_of [] cs ≡ Some 0
    first [] = refl
    first (c ∷ cs) = refl
cut_facts s (n ∷ p) front rest us up cut =
    let h = around front (n ∷ p) rest (subst (λ (t : List ℕ). IsUtf8 t) cut.is us) up (omega arith) in
    let parts = ap chars cut.is ∙ chars-around front (n ∷ p) rest h in
    record {
      front_is = encodes-chars front h.before_utf8;
      rest_is = encodes-chars rest h.behind_utf8;
      parts = parts;
      place = ap (λ (cs : List ℕ). place_of (chars (n ∷ p)) cs) parts ∙ place-first (chars front) (chars (n ∷ p)) (chars rest) (no_earlier s (n ∷ p) front rest up h cut);
    }

pub before-cut : (s p front rest : List ℕ) → IsUtf8 s → IsUtf8 p → FirstCut s p front rest → front ≡ encode_utf8_all (before (chars s) (chars p))
before-cut s p front rest us up cut =
    let h = cut_facts s p front rest us up cut in
    rw h.place (sym (ap (λ (cs : List ℕ). encode_utf8_all (take (length (chars front)) cs)) h.parts ∙ ap encode_utf8_all (take-append_seam (chars front) (chars p ++ chars rest)) ∙ h.front_is))

pub behind-cut : (s p front rest : List ℕ) → IsUtf8 s → IsUtf8 p → FirstCut s p front rest → rest ≡ encode_utf8_all (behind (chars s) (chars p))
behind-cut s p front rest us up cut =
    let h = cut_facts s p front rest us up cut in
    rw h.place (sym (ap (λ (cs : List ℕ). encode_utf8_all (drop (length (chars front) + length (chars p)) cs)) h.parts ∙ ap encode_utf8_all (drop-append-add (chars front) (chars p ++ chars rest) (length (chars p)) ∙ drop-append_seam (chars p) (chars rest)) ∙ h.rest_is))

-- where the part stands nowhere
pub no_place : (s p : List ℕ) → IsUtf8 s → IsUtf8 p → ((i : ℕ) → i ≤ length s → LacksTextAt p s i) → place_of (chars p) (chars s) ≡ None
no_place s p us up lacks = go (place_of (chars p) (chars s)) refl
  where
    go : (o : Option ℕ) → place_of (chars p) (chars s) ≡ o → o ≡ None
    go None e = refl
    go (Some k) e =
        let x = take k (chars s) in
        let is = spelled s p x (drop (k + length (chars p)) (chars s)) us up (place-parts (chars p) (chars s) k e) in
        let l = ap length is ∙ length-append (encode_utf8_all x) (p ++ encode_utf8_all (drop (k + length (chars p)) (chars s))) in
        absurd (lacks (length (encode_utf8_all x)) (omega (arith, l)) (encode_utf8_all (drop (k + length (chars p)) (chars s))) (ap (λ (t : List ℕ). drop (length (encode_utf8_all x)) t) is ∙ drop-append_seam (encode_utf8_all x) (p ++ encode_utf8_all (drop (k + length (chars p)) (chars s)))))

pub before-nowhere : (s p : List ℕ) → IsUtf8 s → IsUtf8 p → ((i : ℕ) → i ≤ length s → LacksTextAt p s i) → [] ≡ encode_utf8_all (before (chars s) (chars p))
before-nowhere s p us up lacks = rw (no_place s p us up lacks) refl

pub behind-nowhere : (s p : List ℕ) → IsUtf8 s → IsUtf8 p → ((i : ℕ) → i ≤ length s → LacksTextAt p s i) → [] ≡ encode_utf8_all (behind (chars s) (chars p))
behind-nowhere s p us up lacks = rw (no_place s p us up lacks) refl

-- what `split_once` says
pub split-cut : (s p front rest : List ℕ) (i j : ℕ) → ((k : ℕ) → k < i → LacksTextAt p s k) → HasTextAt p s i j → front ≡ take i s → rest ≡ drop j s → length front ≡ i → FirstCut s p front rest
split-cut s p front rest i j none there f r l = record {
  is = sym (take-append-drop i s) ∙ ap₂ (λ (a b : List ℕ). a ++ b) (sym f) (there.split ∙ ap (λ (t : List ℕ). p ++ t) (sym r));
  none = λ k lt. none k (omega arith);
}
