-- Where `rsplit_once` cuts at a slash.
use Rattle.std.proofs.Common.{◌≡◌, ◌≢◌, ℕ, suc, ◌<◌, ◌≤◌, ◌+◌, List, [], ◌∷◌, ◌++◌, length, drop, take, get_or, Option, Some, None, refl, sym, ap, ◌∙◌, arith, ne_eqb, lit<, MatchOption}
use Rattle.std.specs.Option.{option_map}
use Rattle.std.specs.Str.Pattern.{RFindsChar}
use Rattle.std.proofs.lemmas.List.{take-append-drop}
use Rattle.std.proofs.lemmas.Str.Pattern.{NoCharPasses-char, drop_at_char}
use denote.Ref.{Bor}
use Rattle.pj_rule_texts.specs.References.{around_last_slash, or_here}
use Rattle.pj_rule_texts.specs.Seen.{parts_of}

abbrev HasNone : List ℕ → Type 0
HasNone text = (i : ℕ) → i < length text → get_or text i 0 ≢ 47

pub without : (text : List ℕ) → HasNone text → around_last_slash text ≡ None
without [] none = refl
without (c ∷ cs) none = ap (or_here c cs) (without cs (λ i h. none (suc i) (omega arith))) ∙ rw (ne_eqb c 47 (none 0 (omega arith))) refl

pub at_slash : (front behind : List ℕ) → HasNone behind → around_last_slash (front ++ 47 ∷ behind) ≡ Some (front, behind)
at_slash [] behind none = ap (or_here 47 behind) (without behind none)
at_slash (c ∷ cs) behind none = ap (or_here c (cs ++ 47 ∷ behind)) (at_slash cs behind none)

abbrev pub IsSplit : List ℕ → Option (Bor (List ℕ) × Bor (List ℕ)) → Type 0
IsSplit bs r = MatchOption r (RFindsChar 47 bs None) (λ x. (i : ℕ) × (j : ℕ) × RFindsChar 47 bs (Some (i, j)) × (x.0.now ≡ take i bs) × (x.1.now ≡ drop j bs)
    × (i ≤ j) × (length x.0.now ≡ i) × (length x.1.now + j ≡ length bs))

pub split : (bs : List ℕ) (r : Option (Bor (List ℕ) × Bor (List ℕ))) → IsSplit bs r → option_map parts_of r ≡ around_last_slash bs
split bs None h = sym (without bs (λ i below. NoCharPasses-char 47 bs i h (lit< tt) below))
split bs (Some x) h =
    let i = h.0 in let j = h.1 in
    let stands : bs ≡ take i bs ++ 47 ∷ drop j bs = sym (take-append-drop i bs) ∙ ap (λ t. take i bs ++ t) (drop_at_char 47 bs i j h.2.1 (lit< tt)) in
    let at = at_slash (take i bs) (drop j bs) (λ k below. NoCharPasses-char 47 (drop j bs) k h.2.0 (lit< tt) below) in
    sym (ap around_last_slash stands ∙ at ∙ ap Some (λ k. (sym h.3 k, sym h.4 k)))
