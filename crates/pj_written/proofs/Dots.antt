-- Texts that are cut at a dot.
use Rattle.std.proofs.Common.{◌≡◌, ℕ, zero, suc, ◌+◌, ◌-◌, ◌≤◌, ◌<◌, true, false, eqb, List, [], ◌∷◌, ◌++◌, length, get_or, take, drop, Option, Some, None, MatchOption, refl, sym, ap, ◌∙◌, append_assoc, ⊎_elim, arith, Bor, eq-eqb, ne_eqb, length-drop, get_or-drop}
use Rattle.std.specs.Str.Pattern.{RFindsChar}
use Rattle.std.specs.Option.{option_map}
use Rattle.std.specs.Path.{rfind_below, rsplit_once}
use Rattle.std.proofs.lemmas.Str.Pattern.{NoCharPasses-char}
use Rattle.std.proofs.lemmas.Bool.{cases_eq, cond-true, cond-false}
use Rattle.std.proofs.lemmas.Str.{len_utf8_ascii}
use Rattle.pj_names.specs.ClassName.{in_first_part, parts}
use Rattle.pj_written.specs.Seen.{pair_of}
use Rattle.pj_written.specs.Spelling.{internal}

below-None : (c : ℕ) (text : List ℕ) (n : ℕ) → ((i : ℕ) → i < n → get_or text i 0 ≡ c → ⊥) → rfind_below c text n ≡ None
below-None c text zero h = refl
below-None c text (suc n) h = cond-false _ _ _ (ne_eqb _ c (h n (omega arith))) ∙ below-None c text n (λ i l. h i (omega arith))

below-Some : (c : ℕ) (text : List ℕ) (k n : ℕ) → k < n → get_or text k 0 ≡ c → ((i : ℕ) → k < i → i < n → get_or text i 0 ≡ c → ⊥) → rfind_below c text n ≡ Some k
below-Some c text k zero l at h = absurd (omega arith)
below-Some c text k (suc n) l at h =
    ⊎_elim
    (λ e. cond-true _ _ _ (eq-eqb _ c (ap (λ j. get_or text j 0) (sym e) ∙ at)) ∙ ap (λ j. Some j) (sym e))
    (λ other. cond-false _ _ _ (ne_eqb _ c (h n (omega arith) (omega arith))) ∙ below-Some c text k n (omega arith) at (λ i a b. h i a (omega arith)))
    (cases_eq k n)

-- takes the clause of `rsplit_once` at an ASCII character
pub split_is : (c : ℕ) (text : List ℕ) (r : Option (Bor (List ℕ) × Bor (List ℕ)))
    → MatchOption r (RFindsChar c text None) (λ x. (i : ℕ) × (j : ℕ) × RFindsChar c text (Some (i, j)) × (x.0.now ≡ take i text) × (x.1.now ≡ drop j text) × (i ≤ j) × (length x.0.now ≡ i) × (length x.1.now + j ≡ length text))
    → c < 128 → option_map pair_of r ≡ rsplit_once c text
unfolding rsplit_once
split_is c text None h low =
    sym (ap (option_map (λ i. (take i text, drop (i + 1) text))) (below-None c text (length text) (λ i. NoCharPasses-char c text i h low)))
split_is c text (Some x) h low =
    let i = h.0 in
    let j = h.1 in
    let next : j ≡ i + 1 = omega (arith, h.2.1.ends, len_utf8_ascii c low) in
    let later : (k : ℕ) → i < k → k < length text → get_or text k 0 ≡ c → ⊥ = λ k a l e.
    let back : j + (k - j) ≡ k = omega arith in
    NoCharPasses-char c (drop j text) (k - j) h.2.0 low (omega (arith, length-drop j text)) (get_or-drop j text (k - j) 0 ∙ ap (λ n. get_or text n 0) back ∙ e) in
    let found = below-Some c text i (length text) (omega (arith, h.7)) (h.2.1.byte low) later in
    let second = h.4 ∙ ap (λ n. drop n text) next in
    (λ t. Some (h.3 t, second t)) ∙ sym (ap (option_map (λ k. (take k text, drop (k + 1) text))) found)

-- ---- at the first dot

abbrev pub HasNoDot : List ℕ → Type 0
HasNoDot text = (i : ℕ) → i < length text → get_or text i 0 ≡ 46 → ⊥

-- a text without a dot is one part
pub parts-one : (text : List ℕ) → ((i : ℕ) → i < length text → get_or text i 0 ≡ 46 → ⊥) → parts text ≡ text ∷ []
parts-one [] none = refl
parts-one (b ∷ bs) none = cond-false _ _ _ (ne_eqb b 46 (none 0 (omega arith))) ∙ ap (in_first_part b) (parts-one bs (λ i l. none (suc i) (omega (arith, l))))

pub parts-cut : (front rest : List ℕ) → ((i : ℕ) → i < length front → get_or front i 0 ≡ 46 → ⊥) → parts (front ++ (46 ∷ rest)) ≡ front ∷ parts rest
parts-cut [] rest none = refl
parts-cut (b ∷ bs) rest none = cond-false _ _ _ (ne_eqb b 46 (none 0 (omega arith))) ∙ ap (in_first_part b) (parts-cut bs rest (λ i l. none (suc i) (omega (arith, l))))

pub internal-one : (text : List ℕ) → ((i : ℕ) → i < length text → get_or text i 0 ≡ 46 → ⊥) → internal text ≡ text
internal-one [] none = refl
internal-one (b ∷ bs) none = (λ k. cond-false _ 47 b (ne_eqb b 46 (none 0 (omega arith))) k ∷ internal-one bs (λ i l. none (suc i) (omega (arith, l))) k)

pub internal-cut : (front rest : List ℕ) → ((i : ℕ) → i < length front → get_or front i 0 ≡ 46 → ⊥) → internal (front ++ (46 ∷ rest)) ≡ front ++ (47 ∷ internal rest)
internal-cut [] rest none = refl
internal-cut (b ∷ bs) rest none = (λ k. cond-false _ 47 b (ne_eqb b 46 (none 0 (omega arith))) k ∷ internal-cut bs rest (λ i l. none (suc i) (omega (arith, l))) k)

-- one part more
pub parts-turn : (names : List (List ℕ)) (left part rest : List ℕ) (whole : List (List ℕ)) → left ≡ part ++ (46 ∷ rest) → HasNoDot part → names ++ parts left ≡ whole → (names ++ part ∷ []) ++ parts rest ≡ whole
parts-turn names left part rest whole cut none is =
    append_assoc names (part ∷ []) (parts rest) ∙ ap (λ ps. names ++ ps) (sym (ap parts cut ∙ parts-cut part rest none)) ∙ is

pub internal-turn : (text left part rest whole : List ℕ) → left ≡ part ++ (46 ∷ rest) → HasNoDot part → text ++ internal left ≡ whole → ((text ++ part) ++ 47 ∷ []) ++ internal rest ≡ whole
internal-turn text left part rest whole cut none is =
    append_assoc (text ++ part) (47 ∷ []) (internal rest) ∙ append_assoc text part (47 ∷ internal rest)
    ∙ ap (λ bs. text ++ bs) (sym (ap internal cut ∙ internal-cut part rest none)) ∙ is
