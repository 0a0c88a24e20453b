-- Lines that have lost their incidental white space keep what is left.
use Rattle.std.proofs.Common.{◌≡◌, ℕ, zero, suc, ◌+◌, ◌≤◌, List, [], ◌∷◌, true, false, cond, ◌&&◌, ◌⊎◌, inl, inr, min, map, drop, sym, refl, ap, ◌∙◌, subst, arith}
use Rattle.std.proofs.lemmas.Bool.{cases_lt}
use Rattle.pj_literals.specs.TextBlock.{is_white_space, is_blank, indentation_of, significant, least, common_indentation, without_trailing, stripped, without_incidental}

-- trailing white space
blank_trailing : (l : List ℕ) → is_blank (without_trailing l) ≡ is_blank l
blank_trailing [] = refl
blank_trailing (c ∷ cs) =
    (elim (is_blank (c ∷ cs)) as (λ b. is_blank (c ∷ cs) ≡ b → is_blank (cond b [] (c ∷ without_trailing cs)) ≡ b) [
      | true ↦ λ _. refl
      | false ↦ λ (h : is_blank (c ∷ cs) ≡ false). ap (λ b. is_white_space c && b) (blank_trailing cs) ∙ h
    ]) refl

trailing_twice : (l : List ℕ) → without_trailing (without_trailing l) ≡ without_trailing l
trailing_twice [] = refl
trailing_twice (c ∷ cs) =
    (elim (is_blank (c ∷ cs)) as (λ b. is_blank (c ∷ cs) ≡ b → without_trailing (cond b [] (c ∷ without_trailing cs)) ≡ cond b [] (c ∷ without_trailing cs)) [
      | true ↦ λ _. refl
      | false ↦ λ (h : is_blank (c ∷ cs) ≡ false).
          ap (λ b. cond b [] (c ∷ without_trailing (without_trailing cs))) (ap (λ b. is_white_space c && b) (blank_trailing cs) ∙ h)
          ∙ ap (λ (x : List ℕ). c ∷ x) (trailing_twice cs)
    ]) refl

-- a blank line stays blank, and no other becomes one by losing as much as it is indented
blank_dropped : (n : ℕ) (l : List ℕ) → is_blank l ≡ true → is_blank (drop n l) ≡ true
blank_dropped zero l h = h
blank_dropped (suc n) [] h = refl
blank_dropped (suc n) (c ∷ cs) h =
    (elim (is_white_space c) as (λ b. (b && is_blank cs) ≡ true → is_blank (drop n cs) ≡ true) [
      | true ↦ λ (g : is_blank cs ≡ true). blank_dropped n cs g
      | false ↦ λ (g : false ≡ true). absurd (cc)
    ]) h

full_dropped : (n : ℕ) (l : List ℕ) → n ≤ indentation_of l → is_blank (drop n l) ≡ is_blank l
full_dropped zero l h = refl
full_dropped (suc n) [] h = refl
full_dropped (suc n) (c ∷ cs) h =
    (elim (is_white_space c) as (λ b. suc n ≤ cond b (1 + indentation_of cs) 0 → is_blank (drop n cs) ≡ (b && is_blank cs)) [
      | true ↦ λ (g : suc n ≤ 1 + indentation_of cs). full_dropped n cs (omega arith)
      | false ↦ λ (g : suc n ≤ 0). absurd (omega arith)
    ]) h

-- a line that is indented by just as much is not indented any more
unindented : (l : List ℕ) → indentation_of (stripped (indentation_of l) l) ≡ 0
unindented [] = refl
unindented (c ∷ cs) =
    (elim (is_white_space c) as (λ b. is_white_space c ≡ b → indentation_of (without_trailing (drop (cond b (1 + indentation_of cs) 0) (c ∷ cs))) ≡ 0) [
      | true ↦ λ _. ap (λ n. indentation_of (without_trailing (drop n (c ∷ cs)))) (let next : 1 + indentation_of cs ≡ suc (indentation_of cs) = omega arith in next) ∙ unindented cs
      | false ↦ λ (h : is_white_space c ≡ false).
          ap (λ b. indentation_of (cond (b && is_blank cs) [] (c ∷ without_trailing cs))) h ∙ ap (λ b. cond b (1 + indentation_of (without_trailing cs)) 0) h
    ]) refl

-- some line is significant
first_significant : (l : List ℕ) (ls : List (List ℕ)) → (k : List ℕ) × ((ks : List (List ℕ)) × (significant (l ∷ ls) ≡ k ∷ ks))
first_significant l [] = (l, ([], refl))
first_significant l (m ∷ ls) =
    elim (is_blank l) as (λ b. (k : List ℕ) × ((ks : List (List ℕ)) × (cond b (significant (m ∷ ls)) (l ∷ significant (m ∷ ls)) ≡ k ∷ ks))) [
      | true ↦ first_significant m ls
      | false ↦ (l, (significant (m ∷ ls), refl))
    ]

least_parts : (n k : ℕ) (ks : List ℕ) → (least (n ∷ k ∷ ks) ≤ n) × (least (n ∷ k ∷ ks) ≤ least (k ∷ ks))
least_parts n k ks = let further = least (k ∷ ks) in (omega arith, omega arith)

min_cases : (a b n : ℕ) → min a b ≡ n → (a ≡ n) ⊎ (b ≡ n)
min_cases a b n e = elim (cases_lt a b) [ inl h ↦ inl (omega arith) | inr h ↦ inr (omega arith) ]

-- the significant lines are the same ones
module _ (n : ℕ) where
  abbrev strip : List ℕ → List ℕ
  strip l = stripped n l

  blank_stripped : (l : List ℕ) → is_blank l ≡ true → is_blank (strip l) ≡ true
  blank_stripped l h = blank_trailing (drop n l) ∙ blank_dropped n l h

  full_stripped : (l : List ℕ) → n ≤ indentation_of l → is_blank (strip l) ≡ is_blank l
  full_stripped l h = blank_trailing (drop n l) ∙ full_dropped n l h

  abbrev above : List (List ℕ) → ℕ
  above ls = least (map indentation_of (significant ls))

  full_bound : (l m : List ℕ) (ls : List (List ℕ)) → n ≤ least (map indentation_of (l ∷ significant (m ∷ ls))) → (n ≤ indentation_of l) × (n ≤ above (m ∷ ls))
  full_bound l m ls h =
      let some = first_significant m ls in
      let is = some.1.1 in
      let bound : n ≤ least (indentation_of l ∷ indentation_of some.0 ∷ map indentation_of some.1.0) = subst (λ (x : List (List ℕ)). n ≤ least (map indentation_of (l ∷ x))) is h in
      let parts = least_parts (indentation_of l) (indentation_of some.0) (map indentation_of some.1.0) in
      (omega (arith, parts.0, bound), subst (λ (x : List (List ℕ)). n ≤ least (map indentation_of x)) (sym is) (omega (arith, parts.1, bound)))

  significant_stripped : (l : List ℕ) (ls : List (List ℕ)) → n ≤ above (l ∷ ls) → significant (map strip (l ∷ ls)) ≡ map strip (significant (l ∷ ls))
  significant_stripped l [] h = refl
  significant_stripped l (m ∷ ls) h =
      (elim (is_blank l) as (λ b. is_blank l ≡ b → n ≤ least (map indentation_of (cond b (significant (m ∷ ls)) (l ∷ significant (m ∷ ls))))
      → cond (is_blank (strip l)) (significant (map strip (m ∷ ls))) (strip l ∷ significant (map strip (m ∷ ls))) ≡ map strip (cond b (significant (m ∷ ls)) (l ∷ significant (m ∷ ls)))) [
        | true ↦ λ (e : is_blank l ≡ true) (g : n ≤ above (m ∷ ls)).
            ap (λ b. cond b (significant (map strip (m ∷ ls))) (strip l ∷ significant (map strip (m ∷ ls)))) (blank_stripped l e) ∙ significant_stripped m ls g
        | false ↦ λ (e : is_blank l ≡ false) (g : n ≤ least (map indentation_of (l ∷ significant (m ∷ ls)))).
            let bounds = full_bound l m ls g in
            ap (λ b. cond b (significant (map strip (m ∷ ls))) (strip l ∷ significant (map strip (m ∷ ls)))) (full_stripped l bounds.0 ∙ e)
            ∙ ap (λ (x : List (List ℕ)). strip l ∷ x) (significant_stripped m ls bounds.1)
      ]) refl h

  -- where n is the least indentation, nothing is left of it
  nothing_left : (l : List ℕ) (ls : List (List ℕ)) → least (map indentation_of (l ∷ ls)) ≡ n → least (map indentation_of (map strip (l ∷ ls))) ≡ 0
  nothing_left l [] e = ap (λ k. indentation_of (stripped k l)) (sym e) ∙ unindented l
  nothing_left l (m ∷ ls) e =
      let further = least (map indentation_of (m ∷ ls)) in
      let left = least (map indentation_of (map strip (m ∷ ls))) in
      let cases : (indentation_of l ≡ n) ⊎ (further ≡ n) = min_cases (indentation_of l) further n e in
      elim cases [
        | inl h ↦ let none : indentation_of (strip l) ≡ 0 = ap (λ k. indentation_of (stripped k l)) (sym h) ∙ unindented l in omega arith
        | inr h ↦ let none : left ≡ 0 = nothing_left m ls h in omega arith
      ]

strip_zero : (n : ℕ) (l : List ℕ) → stripped 0 (stripped n l) ≡ stripped n l
strip_zero n l = trailing_twice (drop n l)

strip_all : (n : ℕ) (ls : List (List ℕ)) → map (λ l. stripped 0 l) (map (λ l. stripped n l) ls) ≡ map (λ l. stripped n l) ls
strip_all n [] = refl
strip_all n (l ∷ ls) = ap (λ (x : List ℕ). x ∷ map (λ k. stripped 0 k) (map (λ k. stripped n k) ls)) (strip_zero n l) ∙ ap (λ (x : List (List ℕ)). stripped n l ∷ x) (strip_all n ls)

none_common : (l : List ℕ) (ls : List (List ℕ)) → common_indentation (without_incidental (l ∷ ls)) ≡ 0
none_common l ls =
    let n = common_indentation (l ∷ ls) in
    let some = first_significant l ls in
    let is = some.1.1 in
    ap (λ (x : List (List ℕ)). least (map indentation_of x)) (significant_stripped n l ls (omega arith) ∙ ap (map (λ k. stripped n k)) is)
    ∙ nothing_left n some.0 some.1.0 (ap (λ (x : List (List ℕ)). least (map indentation_of x)) (sym is))

pub stripping_twice : (ls : List (List ℕ)) → without_incidental (without_incidental ls) ≡ without_incidental ls
stripping_twice [] = refl
stripping_twice (l ∷ ls) =
    ap (λ n. map (λ k. stripped n k) (without_incidental (l ∷ ls))) (none_common l ls) ∙ strip_all (common_indentation (l ∷ ls)) (l ∷ ls)
