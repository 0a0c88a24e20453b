-- What a turn along the candidates of a name comes to, and one along hits.
use Rattle.std.proofs.Common.{◌≡◌, ℕ, ◌<◌, ◌-◌, ◌+◌, suc, List, [], ◌∷◌, Option, None, Some, ap, arith, drop, get_or, length, subst, sym, ◌∙◌}
use Rattle.std.specs.Option.{option_map_or}
use Rattle.pj_names.specs.ClassName.{Name}
use Rattle.pj_names.specs.Asking.{Asking, bind, first_hit, or_else}
use Rattle.pj_names.proofs.AskingLaws.{ComesTo, left_from}
use Rattle.pj_names.specs.Told.{Told}
use Rattle.pj_symbols.specs.declared.class.Class.{Class as DeclaredClass}
use Rattle.pj_written.specs.Names.{next_candidate}
use Rattle.pj_outer_names.specs.Candidates.{candidates_from, first_candidate, found_class}
use Rattle.pj_outer_names.specs.Imports.{one_among}

-- what is left to look at, where so many candidates may still come
abbrev pub rest_from : List DeclaredClass → ℕ → List ℕ → Asking (Option Name)
rest_from classes left text = first_hit (found_class classes) (candidates_from left text)

-- the candidates behind one
abbrev pub behind : ℕ → Option (List ℕ) → List (List ℕ)
behind left next = option_map_or (candidates_from left) next []

-- what is left to look at behind one
abbrev pub rest_behind : List DeclaredClass → ℕ → Option (List ℕ) → Asking (Option Name)
rest_behind classes left next = first_hit (found_class classes) (behind left next)

-- the beginning
pub candidate-begin : (classes : List DeclaredClass) (text candidate : List ℕ) → candidate ≡ text → first_candidate classes text ≡ rest_from classes (length text + 1 - 0) candidate
candidate-begin classes text candidate is =
    let all : length text + 1 ≡ length text + 1 - 0 = omega arith in
    ap (λ n. rest_from classes n text) all ∙ ap (λ first. rest_from classes (length text + 1 - 0) first) (sym is)

one_more : (left : ℕ) (text : List ℕ) → 0 < left → candidates_from left text ≡ text ∷ behind (left - 1) (next_candidate text)
one_more left text some = let more : left ≡ suc (left - 1) = omega (arith, some) in ap (λ n. candidates_from n text) more

-- a candidate is looked up
pub candidate-turn : {K : Type 0} {m : Asking (Option Name)} {t u : Told K} (classes : List DeclaredClass) (left : ℕ) (text : List ℕ) → 0 < left →
    ComesTo m t (rest_from classes left text) u →
    ComesTo m t (bind (found_class classes text) (λ hit. or_else hit (rest_behind classes (left - 1) (next_candidate text)))) u
candidate-turn {m = m} {t = t} {u = u} classes left text some so_far =
    subst (λ (texts : List (List ℕ)). ComesTo m t (first_hit (found_class classes) texts) u) (one_more left text some) so_far

-- the next candidate, where there is one
pub candidate-next : {K : Type 0} {m : Asking (Option Name)} {t u : Told K} (classes : List DeclaredClass) (left fewer : ℕ) (next : Option (List ℕ)) (text : List ℕ) →
    next ≡ Some text → left ≡ fewer → ComesTo m t (rest_behind classes left next) u → ComesTo m t (rest_from classes fewer text) u
candidate-next {m = m} {t = t} {u = u} classes left fewer next text is same so_far =
    subst (λ (n : ℕ). ComesTo m t (rest_from classes n text) u) same (subst (λ (o : Option (List ℕ)). ComesTo m t (rest_behind classes left o) u) is so_far)

-- and where there is none
pub candidate-none : {K : Type 0} {m : Asking (Option Name)} {t u : Told K} (classes : List DeclaredClass) (left : ℕ) (next : Option (List ℕ)) →
    next ≡ None → ComesTo m t (rest_behind classes left next) u → ComesTo m t (rest_behind classes left None) u
candidate-none {m = m} {t = t} {u = u} classes left next is so_far =
    subst (λ (o : Option (List ℕ)). ComesTo m t (rest_behind classes left o) u) is so_far

-- along hits
pub hit-turn : (hits : List (Option Name)) (i : ℕ) (hit : Option Name) → i < length hits → hit ≡ get_or hits i hit → one_among (drop i hits) ≡ one_among (hit ∷ drop (i + 1) hits)
hit-turn hits i hit below is = ap (λ (l : List (Option Name)). one_among l) (left_from hits i hit below ∙ ap (λ x. x ∷ drop (i + 1) hits) (sym is))

pub ruleset hit_turns = (hit-turn)
