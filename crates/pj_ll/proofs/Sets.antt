-- What is given for the rules, of symbols one behind the other.
use Rattle.std.proofs.Common.{◌≡◌, ℕ, ◌+◌, ◌⊎◌, Bool, true, false, List, [], ◌∷◌, ◌++◌, refl, inl, inr, ⊎_elim, arith}
use Rattle.std.specs.Prelude.{◌&&◌, cond}
use Rattle.pj_ll.specs.declared.grammar.Symbol.{Symbol}
use Rattle.pj_ll.specs.declared.grammar.Symbol.TheVariants.{Terminal, Rule, LeftOut, Close}
use Rattle.pj_ll.specs.Predictive.{RuleFacts, fact_at, IsIn, nullable_of, first_of, weight_of}
use Rattle.pj_ll.proofs.Lists.{and_first, and_second, and_both, in_left, in_right, in_cases, in_cond, cond_in}

weigh : (b c : Bool) (w x y z : ℕ) → z ≡ x + cond c y 0 → w + cond b z 0 ≡ (w + cond b x 0) + cond (b && c) y 0
weigh true true w x y z e = omega arith
weigh true false w x y z e = omega arith
weigh false c w x y z e = omega arith

module _ (fs : List RuleFacts) where
  pub nullable_both : (xs ys : List Symbol) → nullable_of fs (xs ++ ys) ≡ true → (nullable_of fs xs ≡ true) × (nullable_of fs ys ≡ true)
  nullable_both [] ys e = (refl, e)
  nullable_both (Terminal t ∷ xs) ys e = absurd (let z = e in cc)
  nullable_both (LeftOut t ∷ xs) ys e = absurd (let z = e in cc)
  nullable_both (Close ∷ xs) ys e = nullable_both xs ys e
  nullable_both (Rule n ∷ xs) ys e =
      let (p, q) = nullable_both xs ys (and_second (fact_at fs n).nullable _ e) in
      (and_both (fact_at fs n).nullable _ (and_first _ _ e) p, q)

  pub first_append : (xs ys : List Symbol) (a : ℕ) → IsIn (first_of fs (xs ++ ys)) a →
      IsIn (first_of fs xs) a ⊎ ((nullable_of fs xs ≡ true) × IsIn (first_of fs ys) a)
  first_append [] ys a h = inr (refl, h)
  first_append (Terminal t ∷ xs) ys a h = inl h
  first_append (LeftOut t ∷ xs) ys a h = inl h
  first_append (Close ∷ xs) ys a h = first_append xs ys a h
  first_append (Rule n ∷ xs) ys a h = ⊎_elim
      (λ (k : IsIn (fact_at fs n).first a). inl (in_left (fact_at fs n).first _ a k))
      (λ (k : IsIn (cond (fact_at fs n).nullable (first_of fs (xs ++ ys)) []) a).
      let (null, within) = in_cond (fact_at fs n).nullable _ a k in
      ⊎_elim
      (λ (l : IsIn (first_of fs xs) a). inl (in_right (fact_at fs n).first _ a (cond_in (fact_at fs n).nullable _ a null l)))
      (λ (l : (nullable_of fs xs ≡ true) × IsIn (first_of fs ys) a). inr (and_both (fact_at fs n).nullable _ null l.0, l.1))
      (first_append xs ys a within))
      (in_cases (fact_at fs n).first _ a h)

  pub weight_append : (xs ys : List Symbol) → weight_of fs (xs ++ ys) ≡ weight_of fs xs + cond (nullable_of fs xs) (weight_of fs ys) 0
  weight_append [] ys = omega arith
  weight_append (Terminal t ∷ xs) ys = refl
  weight_append (LeftOut t ∷ xs) ys = refl
  weight_append (Close ∷ xs) ys = let e = weight_append xs ys in omega arith
  weight_append (Rule n ∷ xs) ys =
      weigh (fact_at fs n).nullable (nullable_of fs xs) (fact_at fs n).weight (weight_of fs xs) (weight_of fs ys) _ (weight_append xs ys)
