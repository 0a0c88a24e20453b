-- White space at the ends of lines, and the indentation of lines.
use Rattle.std.proofs.Common.{◌≡◌, ℕ, ◌+◌, ◌≤◌, ◌<◌, List, [], ◌∷◌, ◌++◌, Bool, true, false, cond, eqb, ◌&&◌, length, min, map, Option, Some, None, unwrap_or, sym, refl, ap, ◌∙◌, arith}
use Rattle.std.proofs.lemmas.Bool.{false≢true}
use Rattle.std.proofs.lemmas.Bool.Decides.{nat_tests}
use Rattle.pj_literals.specs.TextBlock.{is_white_space, is_blank, indentation_of, significant, least, least_of, without_trailing}

blank_push : (xs : List ℕ) (c : ℕ) → is_white_space c ≡ true → is_blank (xs ++ c ∷ []) ≡ is_blank xs
blank_push [] c h = ap (λ b. b && true) h
blank_push (x ∷ xs) c h = ap (λ b. is_white_space x && b) (blank_push xs c h)

and_false : (b : Bool) → (b && false) ≡ false
and_false true = refl
and_false false = refl

not_blank_push : (xs : List ℕ) (c : ℕ) → is_white_space c ≡ false → is_blank (xs ++ c ∷ []) ≡ false
not_blank_push [] c h = ap (λ b. b && true) h
not_blank_push (x ∷ xs) c h = ap (λ b. is_white_space x && b) (not_blank_push xs c h) ∙ and_false (is_white_space x)

pub trailing_white : (xs : List ℕ) (c : ℕ) → is_white_space c ≡ true → without_trailing (xs ++ c ∷ []) ≡ without_trailing xs
trailing_white [] c h = ap (λ b. cond (b && true) [] (c ∷ [])) h
trailing_white (x ∷ xs) c h =
    ap (λ (r : List ℕ). cond (is_blank (x ∷ (xs ++ c ∷ []))) [] (x ∷ r)) (trailing_white xs c h)
    ∙ ap (λ b. cond (is_white_space x && b) [] (x ∷ without_trailing xs)) (blank_push xs c h)

pub trailing_other : (xs : List ℕ) (c : ℕ) → is_white_space c ≡ false → without_trailing (xs ++ c ∷ []) ≡ xs ++ c ∷ []
trailing_other [] c h = ap (λ b. cond (b && true) [] (c ∷ [])) h
trailing_other (x ∷ xs) c h =
    ap (λ b. cond b [] (x ∷ without_trailing (xs ++ c ∷ []))) (not_blank_push (x ∷ xs) c h)
    ∙ ap (λ (r : List ℕ). x ∷ r) (trailing_other xs c h)

-- a line whose indentation ends within it is not blank
pub short_indentation : (l : List ℕ) → indentation_of l < length l → is_blank l ≡ false
short_indentation [] h = absurd (omega arith)
short_indentation (c ∷ cs) h =
    (elim (is_white_space c) as (λ b. cond b (1 + indentation_of cs) 0 < length (c ∷ cs) → (b && is_blank cs) ≡ false) [
      | true ↦ λ (s : 1 + indentation_of cs < length (c ∷ cs)). short_indentation cs (omega arith)
      | false ↦ λ _. refl
    ]) h

pub full_indentation : (l : List ℕ) → length l ≤ indentation_of l → is_blank l ≡ true
full_indentation [] h = refl
full_indentation (c ∷ cs) h =
    (elim (is_white_space c) as (λ b. length (c ∷ cs) ≤ cond b (1 + indentation_of cs) 0 → (b && is_blank cs) ≡ true) [
      | true ↦ λ (s : length (c ∷ cs) ≤ 1 + indentation_of cs). full_indentation cs (omega arith)
      | false ↦ λ (s : length (c ∷ cs) ≤ 0). absurd (omega arith)
    ]) h

-- a line that counts, and one that does not
pub significant_full : (l : List ℕ) (ls : List (List ℕ)) → is_blank l ≡ false → significant (l ∷ ls) ≡ l ∷ significant ls
significant_full l [] h = refl
significant_full l (m ∷ ls) h = ap (λ b. cond b (significant (m ∷ ls)) (l ∷ significant (m ∷ ls))) h

pub significant_last : (l : List ℕ) (ls : List (List ℕ)) → eqb (length ls) 0 ≡ true → significant (l ∷ ls) ≡ l ∷ significant ls
significant_last l [] h = refl
significant_last l (m ∷ ls) h = absurd (grind (arith, nat_tests))

pub significant_blank : (l : List ℕ) (ls : List (List ℕ)) → is_blank l ≡ true → eqb (length ls) 0 ≡ false → significant (l ∷ ls) ≡ significant ls
significant_blank l [] h n = absurd (false≢true (sym n))
significant_blank l (m ∷ ls) h n = ap (λ b. cond b (significant (m ∷ ls)) (l ∷ significant (m ∷ ls))) h

-- the least of further numbers, and of one before them if there is one
abbrev pub least_behind : Option ℕ → List ℕ → ℕ
least_behind None ns = least ns
least_behind (Some m) [] = m
least_behind (Some m) (n ∷ ns) = least_behind (Some (min m n)) ns

least_min : (m n : ℕ) (ns : List ℕ) → least (min m n ∷ ns) ≡ min m (least (n ∷ ns))
least_min m n [] = refl
least_min m n (k ∷ ns) = let least_further = least (k ∷ ns) in omega arith

least_some : (n : ℕ) (ns : List ℕ) → least_behind (Some n) ns ≡ least (n ∷ ns)
least_some n [] = refl
least_some n (m ∷ ns) = least_some (min n m) ns ∙ least_min n m ns

least_more : (o : Option ℕ) (n : ℕ) (ns : List ℕ) → least_behind o (n ∷ ns) ≡ least_behind (Some (least_of o n)) ns
least_more None n ns = sym (least_some n ns)
least_more (Some m) n ns = refl

pub least_end : (o : Option ℕ) → least_behind o [] ≡ unwrap_or o 0
least_end None = refl
least_end (Some m) = refl

-- how far a walk over the lines has come
abbrev pub left_indentation : Option ℕ → List (List ℕ) → ℕ
left_indentation o ls = least_behind o (map indentation_of (significant ls))

pub left_counts : (o : Option ℕ) (l : List ℕ) (ls : List (List ℕ)) → significant (l ∷ ls) ≡ l ∷ significant ls
    → left_indentation o (l ∷ ls) ≡ left_indentation (Some (least_of o (indentation_of l))) ls
left_counts o l ls e = ap (λ (x : List (List ℕ)). least_behind o (map indentation_of x)) e ∙ least_more o (indentation_of l) (map indentation_of (significant ls))

pub left_skips : (o : Option ℕ) (l : List ℕ) (ls : List (List ℕ)) → significant (l ∷ ls) ≡ significant ls → left_indentation o (l ∷ ls) ≡ left_indentation o ls
left_skips o l ls e = ap (λ (x : List (List ℕ)). least_behind o (map indentation_of x)) e
