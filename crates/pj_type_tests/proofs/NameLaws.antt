-- Names of types, tested one after another.
use Rattle.std.proofs.Common.{◌≡◌, ℕ, Bool, true, false, List, [], ◌∷◌, ◌++◌, map, ap, refl, sym, ◌∙◌, append_assoc}
use Rattle.std.specs.Prelude.{◌&&◌, ◌||◌, nat_eq, codes, Some, None}
use Rattle.std.specs.List.{list_any}
use Rattle.std.specs.Cmp.Lexicographic.{pointwise}
use Rattle.std.proofs.lemmas.Bool.{eq-eqb}
use Rattle.pj_signature_patterns.specs.TypeNames.{component_of}
use Rattle.pj_signature_patterns.proofs.ArrayNames.{component_again, component_from}
use Rattle.pj_signature_patterns.proofs.Free.{same_text}

pub alone : (b : Bool) → b ≡ (b || false)
alone true = refl
alone false = refl

pub two : (a b : Bool) → (a || b) ≡ (a || (b || false))
two true b = refl
two false b = alone b

itself : (text : List ℕ) → pointwise nat_eq text text ≡ true
itself [] = refl
itself (b ∷ bs) = ap (λ t. t && pointwise nat_eq bs bs) (eq-eqb b b refl) ∙ itself bs

alike : (a b : Bool) → (a ≡ true → b ≡ true) → (b ≡ true → a ≡ true) → a ≡ b
alike true b to from = sym (to refl)
alike false true to from = from refl
alike false false to from = refl

-- a name of an array is told by what stands before its last pair of brackets
bracketed : (name : List ℕ) → name ++ codes "[]" ≡ (name ++ 91 ∷ []) ++ 93 ∷ []
bracketed name = sym (append_assoc name (91 ∷ []) (93 ∷ []))

one_array : (name text inner : List ℕ) → component_of text ≡ Some inner → pointwise nat_eq (name ++ codes "[]") text ≡ pointwise nat_eq name inner
one_array name text inner e =
    alike (pointwise nat_eq (name ++ codes "[]") text) (pointwise nat_eq name inner)
    (λ same.
    let is : name ++ codes "[]" ≡ text = same_text (name ++ codes "[]") text same in
    let found : Some name ≡ Some inner = sym (component_again name) ∙ ap component_of (sym (bracketed name) ∙ is) ∙ e in
    let names : name ≡ inner = cc in
    ap (pointwise nat_eq name) (sym names) ∙ itself name)
    (λ same.
    let is : name ≡ inner = same_text name inner same in
    let whole : text ≡ name ++ codes "[]" = component_from text inner e ∙ sym (bracketed inner) ∙ ap (λ t. t ++ codes "[]") (sym is) in
    ap (pointwise nat_eq (name ++ codes "[]")) whole ∙ itself (name ++ codes "[]"))

pub array_some : (names : List (List ℕ)) (text inner : List ℕ) → component_of text ≡ Some inner
    → list_any (λ name. pointwise nat_eq name text) (map (λ name. name ++ codes "[]") names) ≡ list_any (λ name. pointwise nat_eq name inner) names
array_some [] text inner e = refl
array_some (name ∷ names) text inner e =
    ap (λ b. b || list_any (λ n. pointwise nat_eq n text) (map (λ n. n ++ codes "[]") names)) (one_array name text inner e)
    ∙ ap (λ b. pointwise nat_eq name inner || b) (array_some names text inner e)

no_array : (name text : List ℕ) → component_of text ≡ None → pointwise nat_eq (name ++ codes "[]") text ≡ false
no_array name text e = at (pointwise nat_eq (name ++ codes "[]") text) refl
  where
    at : (test : Bool) → pointwise nat_eq (name ++ codes "[]") text ≡ test → test ≡ false
    at false is = refl
    at true is =
        let whole : name ++ codes "[]" ≡ text = same_text (name ++ codes "[]") text is in
        let clash : Some name ≡ None = sym (component_again name) ∙ ap component_of (sym (bracketed name) ∙ whole) ∙ e in
        absurd cc

pub array_none : (names : List (List ℕ)) (text : List ℕ) → component_of text ≡ None
    → list_any (λ name. pointwise nat_eq name text) (map (λ name. name ++ codes "[]") names) ≡ false
array_none [] text e = refl
array_none (name ∷ names) text e =
    ap (λ b. b || list_any (λ n. pointwise nat_eq n text) (map (λ n. n ++ codes "[]") names)) (no_array name text e) ∙ array_none names text e
