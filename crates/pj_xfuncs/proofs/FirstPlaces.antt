-- First places of characters, put into a map one after the other.
use Rattle.std.proofs.Common.{◌≡◌, ◌∙◌, ℕ, ◌+◌, ◌<◌, ◌≤◌, Bool, true, false, cond, eqb, ltb, List, [], ◌∷◌, ◌++◌, length, get_or, take, refl, sym, ap, ap₂, Option, Some, None, arith}
use Rattle.std.specs.Prelude.{nat_eq, nat_lt, not, position}
use Rattle.std.specs.BTreeMap.{BTreeMap}
use Rattle.std.specs.List.{position_or_len}
use Rattle.std.proofs.lemmas.Bool.Decides.{nat_tests}
use Rattle.std.proofs.lemmas.List.{take_more, length-append, length-take}
use Rattle.std.proofs.lemmas.List.Folds.{position_or_len_push}
use Rattle.std.proofs.lemmas.List.Sums.{prefix_len-le-length}
use Rattle.pj_xfuncs.specs.Translate.{AreFirstPlaces, or_here, place_in}

-- a place among so many
abbrev among : ℕ → ℕ → Option ℕ
among place count = cond (nat_lt place count) (Some place) None

-- the place that is there, or else the last, where the last passes
abbrev or_last : Option ℕ → Bool → ℕ → Option ℕ
or_last (Some before) passes last = Some before
or_last None passes last = cond passes (Some last) None

one-more : (place count : ℕ) (passes : Bool) → place ≤ count → among (cond (eqb place count) (count + cond passes 0 1) place) (count + 1) ≡ or_last (among place count) passes count
one-more place count passes within = go (ltb place count) refl passes
  where
    go : (t : Bool) → ltb place count ≡ t → (b : Bool) → among (cond (eqb place count) (count + cond b 0 1) place) (count + 1) ≡ or_last (among place count) b count
    go true h b =
        let apart : eqb place count ≡ false = grind (arith, nat_tests) in
        let inside : ltb place (count + 1) ≡ true = grind (arith, nat_tests) in
        ap (λ (e : Bool). among (cond e (count + cond b 0 1) place) (count + 1)) apart ∙ ap (λ (t : Bool). cond t (Some place) None) inside
        ∙ sym (ap (λ (t : Bool). or_last (cond t (Some place) None) b count) h)
    go false h true =
        let same : eqb place count ≡ true = grind (arith, nat_tests) in
        let last : count + 0 ≡ count = omega arith in
        let inside : ltb count (count + 1) ≡ true = grind (arith, nat_tests) in
        ap (λ (e : Bool). among (cond e (count + 0) place) (count + 1)) same ∙ ap (λ (n : ℕ). among n (count + 1)) last ∙ ap (λ (t : Bool). cond t (Some count) None) inside
        ∙ sym (ap (λ (t : Bool). or_last (cond t (Some place) None) true count) h)
    go false h false =
        let same : eqb place count ≡ true = grind (arith, nat_tests) in
        let outside : ltb (count + 1) (count + 1) ≡ false = grind (arith, nat_tests) in
        ap (λ (e : Bool). among (cond e (count + 1) place) (count + 1)) same ∙ ap (λ (t : Bool). cond t (Some (count + 1)) None) outside
        ∙ sym (ap (λ (t : Bool). or_last (cond t (Some place) None) false count) h)

length-more : (xs : List ℕ) (y : ℕ) → length (xs ++ y ∷ []) ≡ length xs + 1
length-more xs y = length-append xs (y ∷ [])

place-push : (c : ℕ) (xs : List ℕ) (y : ℕ) → position (nat_eq c) (xs ++ y ∷ []) ≡ or_last (position (nat_eq c) xs) (nat_eq c y) (length xs)
place-push c xs y =
    let p = nat_eq c in
    ap₂ (λ (k n : ℕ). among k n) (position_or_len_push p xs y) (length-more xs y)
    ∙ one-more (position_or_len p xs) (length xs) (p y) (prefix_len-le-length (λ x. not (p x)) xs)

same-or : (o : Option ℕ) (c key place : ℕ) → or_last o (nat_eq c key) place ≡ or_here o c key place
same-or (Some before) c key place = refl
same-or None c key place = refl

-- the first places among one character more
pub places-more : (places new : BTreeMap ℕ ℕ) (characters : List ℕ) (i key : ℕ) → i < length characters → key ≡ get_or characters i key
    → AreFirstPlaces places (take i characters) → ((c : ℕ) → place_in new c ≡ or_here (place_in places c) c key i) → AreFirstPlaces new (take (i + 1) characters)
places-more places new characters i key lt is before put c =
    let count : length (take i characters) ≡ i = grind (arith, length-take {A = ℕ}) in
    put c ∙ ap (λ (o : Option ℕ). or_here o c key i) (before c)
    ∙ sym (same-or (position (nat_eq c) (take i characters)) c key i)
    ∙ ap (λ (n : ℕ). or_last (position (nat_eq c) (take i characters)) (nat_eq c key) n) (sym count)
    ∙ sym (place-push c (take i characters) key)
    ∙ ap (λ (y : ℕ). position (nat_eq c) (take i characters ++ y ∷ [])) is
    ∙ ap (position (nat_eq c)) (sym (take_more characters i key lt))
