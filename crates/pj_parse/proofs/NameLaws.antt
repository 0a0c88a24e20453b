-- Names that are borrowed.
use Rattle.std.proofs.Common.{ℕ, ◌≡◌, ◌-◌, ◌==◌, List, [], ◌∷◌, ◌++◌, length, take, Some, false, refl, ap, sym, ◌∙◌, rules, Bor}
use Rattle.std.proofs.lemmas.List.{length-map, take-map}
use Rattle.std.specs.List.{flat_map, join_by}
use Rattle.pj_parse.specs.Names.{dotted, dotted_if_any, dotted_qualifier, texts_of}

pub flat_map-texts_of : (sep : List ℕ) (ts : List (Bor (List ℕ))) → flat_map (λ (t : Bor (List ℕ)). sep ++ t.now) ts ≡ flat_map (λ name. sep ++ name) (texts_of ts)
flat_map-texts_of sep [] = refl
flat_map-texts_of sep (t ∷ ts) = ap (λ (rest : List ℕ). (sep ++ t.now) ++ rest) (flat_map-texts_of sep ts)

pub join_by-texts_of : (sep : List ℕ) (ts : List (Bor (List ℕ))) → join_by (λ (t : Bor (List ℕ)). t.now) sep ts ≡ join_by (λ name. name) sep (texts_of ts)
join_by-texts_of sep [] = refl
join_by-texts_of sep (t ∷ ts) = ap (λ (rest : List ℕ). t.now ++ rest) (flat_map-texts_of sep ts)

-- ---- qualifiers

if_any : (front : List (Bor (List ℕ))) (text : List ℕ) → false ≡ (length front == 0) → text ≡ dotted (texts_of front) → Some text ≡ dotted_if_any (texts_of front)
if_any [] text some is = absurd (search (rules, some))
if_any (t ∷ ts) text some is = ap (λ (x : List ℕ). Some x) is

texts_of-take : (k : ℕ) (ts : List (Bor (List ℕ))) → k ≡ length ts - 1 → take (length (texts_of ts) - 1) (texts_of ts) ≡ texts_of (take k ts)
texts_of-take k ts is = ap (λ n. take n (texts_of ts)) (ap (λ n. n - 1) (length-map ts (λ (t : Bor (List ℕ)). t.now)) ∙ sym is) ∙ take-map (λ (t : Bor (List ℕ)). t.now) k ts

-- what stands before the last of the names, where that is something
pub qualifier_is : (ts : List (Bor (List ℕ))) (k : ℕ) (text : List ℕ) → k ≡ length ts - 1 → false ≡ (length (take k ts) == 0) → text ≡ dotted (texts_of (take k ts)) → Some text ≡ dotted_qualifier (texts_of ts)
qualifier_is ts k text last some is = if_any (take k ts) text some is ∙ ap dotted_if_any (sym (texts_of-take k ts last))
