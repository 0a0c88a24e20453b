-- The lines of a text from a place in it on.
use Rattle.std.proofs.Common.{◌≡◌, ◌≢◌, ℕ, ◌+◌, ◌≤◌, ◌<◌, List, [], ◌∷◌, ◌++◌, true, false, cond, eqb, length, get_or, take, drop, sym, refl, ap, ◌∙◌, arith, append_assoc}
use Rattle.std.proofs.lemmas.List.{append-nil, take_more, drop_more, drop_all, take_all}
use Rattle.std.proofs.lemmas.Bool.Decides.{nat_tests}
use Rattle.pj_literals.specs.Lines.{normalized, onto_first, between_feeds, lines_of, behind_return}

-- the first line with these characters before it
abbrev pub prepend : List ℕ → List (List ℕ) → List (List ℕ)
prepend xs [] = xs ∷ []
prepend xs (l ∷ ls) = (xs ++ l) ∷ ls

onto_first_some : (c : ℕ) (ls : List (List ℕ)) → 0 < length (onto_first c ls)
onto_first_some c [] = omega arith
onto_first_some c (l ∷ ls) = omega arith

pub lines_some : (cs : List ℕ) → 0 < length (between_feeds cs)
lines_some [] = omega arith
lines_some (c ∷ cs) =
    elim (eqb c 10) as (λ b. 0 < length (cond b ([] ∷ between_feeds cs) (onto_first c (between_feeds cs)))) [
      | true ↦ omega arith
      | false ↦ onto_first_some c (between_feeds cs)
    ]

pub lines_left_none : (ls : List (List ℕ)) → 0 < length ls → false ≡ eqb (length ls) 0
lines_left_none [] h = absurd (omega arith)
lines_left_none (l ∷ ls) h = grind (arith, nat_tests)

prepend_nil : (ls : List (List ℕ)) → 0 < length ls → ls ≡ prepend [] ls
prepend_nil [] h = absurd (omega arith)
prepend_nil (l ∷ ls) h = refl

prepend_more : (xs : List ℕ) (c : ℕ) (ls : List (List ℕ)) → prepend xs (onto_first c ls) ≡ prepend (xs ++ c ∷ []) ls
prepend_more xs c [] = refl
prepend_more xs c (l ∷ ls) = ap (λ (x : List ℕ). x ∷ ls) (sym (append_assoc xs (c ∷ []) l))

lines_other : (c : ℕ) (cs : List ℕ) → c ≢ 10 → c ≢ 13 → lines_of (c ∷ cs) ≡ onto_first c (lines_of cs)
lines_other c cs n r =
    let other : eqb c 13 ≡ false = grind (arith, nat_tests) in
    let same : eqb c 10 ≡ false = grind (arith, nat_tests) in
    rw other (rw same refl)

lines_feed : (c : ℕ) (cs : List ℕ) → c ≡ 10 → lines_of (c ∷ cs) ≡ [] ∷ lines_of cs
lines_feed c cs e = rw e refl

lines_return : (c : ℕ) (cs : List ℕ) → c ≡ 13 → lines_of (c ∷ cs) ≡ [] ∷ lines_of (behind_return cs)
lines_return c [] e = rw e refl
lines_return c (d ∷ cs) e =
    rw e ((elim (eqb d 10) as (λ b. eqb d 10 ≡ b → between_feeds (cond b (normalized (d ∷ cs)) (10 ∷ normalized (d ∷ cs))) ≡ [] ∷ lines_of (cond b cs (d ∷ cs))) [
      | true ↦ λ same. let ten : d ≡ 10 = grind (arith, nat_tests) in lines_feed d cs ten
      | false ↦ λ _. refl
    ]) refl)

-- how far a walk over the text has come
abbrev pub Reached : List ℕ → ℕ → Type 0
Reached text i = lines_of text ≡ prepend (take i text) (lines_of (drop i text))

pub reached_none : (text : List ℕ) → Reached text 0
reached_none text = prepend_nil (lines_of text) (lines_some (normalized text))

split : (text : List ℕ) (i c : ℕ) → i < length text → c ≡ get_or text i c → drop i text ≡ c ∷ drop (i + 1) text
split text i c h is = drop_more text i c h ∙ ap (λ x. x ∷ drop (i + 1) text) (sym is)

pub reached_more : (text : List ℕ) (i c : ℕ) → i < length text → c ≡ get_or text i c → c ≢ 10 → c ≢ 13 → Reached text i → Reached text (i + 1)
reached_more text i c h is n r at =
    at ∙ ap (λ (cs : List ℕ). prepend (take i text) (lines_of cs)) (split text i c h is)
    ∙ ap (prepend (take i text)) (lines_other c (drop (i + 1) text) n r)
    ∙ prepend_more (take i text) c (lines_of (drop (i + 1) text))
    ∙ ap (λ (xs : List ℕ). prepend xs (lines_of (drop (i + 1) text))) (sym (take_more text i c h ∙ ap (λ x. take i text ++ x ∷ []) (sym is)))

ended : (text : List ℕ) (i c : ℕ) (ls : List (List ℕ)) → i < length text → c ≡ get_or text i c → Reached text i → lines_of (c ∷ drop (i + 1) text) ≡ [] ∷ ls → lines_of text ≡ take i text ∷ ls
ended text i c ls h is at e =
    at ∙ ap (λ (cs : List ℕ). prepend (take i text) (lines_of cs)) (split text i c h is) ∙ ap (prepend (take i text)) e ∙ ap (λ (x : List ℕ). x ∷ ls) (append-nil (take i text))

pub reached_feed : (text : List ℕ) (i c : ℕ) → i < length text → c ≡ get_or text i c → c ≡ 10 → Reached text i → lines_of text ≡ take i text ∷ lines_of (drop (i + 1) text)
reached_feed text i c h is e at = ended text i c (lines_of (drop (i + 1) text)) h is at (lines_feed c (drop (i + 1) text) e)

pub reached_return : (text : List ℕ) (i c : ℕ) → i < length text → c ≡ get_or text i c → c ≡ 13 → Reached text i → lines_of text ≡ take i text ∷ lines_of (behind_return (drop (i + 1) text))
reached_return text i c h is e at = ended text i c (lines_of (behind_return (drop (i + 1) text))) h is at (lines_return c (drop (i + 1) text) e)

pub reached_all : (text : List ℕ) (i : ℕ) → length text ≤ i → Reached text i → lines_of text ≡ text ∷ []
reached_all text i h at =
    at ∙ ap (λ (cs : List ℕ). prepend (take i text) (lines_of cs)) (drop_all i text h) ∙ ap (λ (x : List ℕ). x ∷ []) (append-nil (take i text) ∙ take_all i text h)
