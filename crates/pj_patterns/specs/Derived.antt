-- What a pattern matches behind a character its derivative matches, and what rules spell behind one the rules that are left spell.
use Rattle.std.proofs.Common.{◌≡◌, ℕ, Bool, true, false, cond, ◌||◌, ◌⊎◌, inl, inr, ⊎_elim, List, [], ◌∷◌, ◌++◌, Some, sym, refl, ap, ◌∙◌, subst}
use Rattle.std.proofs.lemmas.Bool.{false≢true, and_parts, and_from}
use Rattle.pj_patterns.specs.Pattern.{Pattern, Nothing, Empty, One, Then, Either, Many, Repeats, none, more, Matches}
use Rattle.pj_patterns.specs.Rules.{Rule, rule, FirstOf}
use Rattle.pj_patterns.specs.Derivatives.{takes_none, joined, or_first, either, derive, keep, derive_rules, spells_none}

or_left : (a b : Bool) → a ≡ true → (a || b) ≡ true
or_left a b h = ap (λ x. x || b) h

or_right : (a b : Bool) → b ≡ true → (a || b) ≡ true
or_right true b h = refl
or_right false b h = h

or_parts : (a b : Bool) → (a || b) ≡ true → (a ≡ true) ⊎ (b ≡ true)
or_parts true b h = inl refl
or_parts false b h = inr h

-- where the test tells whether a set holds a character
module _ {Set : Type 0} (holds : Set → ℕ → Bool) where
  joined_from : (p q : Pattern Set) (w : List ℕ) → Matches holds (Then p q) w → Matches holds (joined p q) w
  joined_from Nothing q w (u, (v, s, a, b)) = absurd a
  joined_from Empty q w (u, (v, s, a, b)) = subst (Matches holds q) (sym (s ∙ ap (λ (x : List ℕ). x ++ v) a)) b
  joined_from p q w m = m

  joined_to : (p q : Pattern Set) (w : List ℕ) → Matches holds (joined p q) w → Matches holds (Then p q) w
  joined_to Nothing q w m = absurd m
  joined_to Empty q w m = ([], (w, refl, refl, m))
  joined_to p q w m = m

  or_first_from : (p q : Pattern Set) (w : List ℕ) → Matches holds p w ⊎ Matches holds q w → Matches holds (or_first p q) w
  or_first_from p Nothing w (inl m) = m
  or_first_from p Nothing w (inr m) = absurd m
  or_first_from p q w m = m

  or_first_to : (p q : Pattern Set) (w : List ℕ) → Matches holds (or_first p q) w → Matches holds p w ⊎ Matches holds q w
  or_first_to p Nothing w m = inl m
  or_first_to p q w m = m

  either_from : (p q : Pattern Set) (w : List ℕ) → Matches holds p w ⊎ Matches holds q w → Matches holds (either p q) w
  either_from Nothing q w (inl m) = absurd m
  either_from Nothing q w (inr m) = m
  either_from p q w m = or_first_from p q w m

  either_to : (p q : Pattern Set) (w : List ℕ) → Matches holds (either p q) w → Matches holds p w ⊎ Matches holds q w
  either_to Nothing q w m = inr m
  either_to p q w m = or_first_to p q w m

  pub none_from : (p : Pattern Set) (w : List ℕ) → w ≡ [] → Matches holds p w → takes_none p ≡ true
  none_from Nothing w e m = absurd m
  none_from Empty w e m = refl
  none_from (One s) w e (d, f, h) = let z : [] ≡ d ∷ [] = sym e ∙ f in absurd (cc)
  none_from (Then p q) w e ([], (v, s, a, b)) = and_from _ _ (none_from p [] refl a) (none_from q v (sym s ∙ e) b)
  none_from (Then p q) w e (d ∷ u, (v, s, a, b)) = let z : [] ≡ d ∷ (u ++ v) = sym e ∙ s in absurd (cc)
  none_from (Either p q) w e (inl m) = or_left _ _ (none_from p w e m)
  none_from (Either p q) w e (inr m) = or_right (takes_none p) _ (none_from q w e m)
  none_from (Many p) w e m = refl

  pub none_to : (p : Pattern Set) → takes_none p ≡ true → Matches holds p []
  none_to Nothing h = absurd (false≢true h)
  none_to Empty h = refl
  none_to (One s) h = absurd (false≢true h)
  none_to (Then p q) h = let a = and_parts _ _ h in ([], ([], refl, none_to p a.0, none_to q a.1))
  none_to (Either p q) h = ⊎_elim (λ (a : takes_none p ≡ true). inl (none_to p a)) (λ (b : takes_none q ≡ true). inr (none_to q b)) (or_parts _ _ h)
  none_to (Many p) h = none [] refl

  -- what a pattern matches behind a character, its derivative matches
  module _ (c : ℕ) where
    abbrev here : Set → Bool
    here s = holds s c

    abbrev Derives : Pattern Set → Type 0
    Derives p = (w : List ℕ) → Matches holds p (c ∷ w) → Matches holds (derive here p) w

    abbrev Integrates : Pattern Set → Type 0
    Integrates p = (w : List ℕ) → Matches holds (derive here p) w → Matches holds p (c ∷ w)

    in_first : (p q : Pattern Set) (b : Bool) (x y : Pattern Set) (w : List ℕ) → Matches holds x w → Matches holds (cond b (either x y) x) w
    in_first p q true x y w m = either_from x y w (inl m)
    in_first p q false x y w m = m

    then_from : (p q : Pattern Set) → Derives p → Derives q → Derives (Then p q)
    then_from p q f g w ([], (v, s, a, b)) =
        let e = none_from p [] refl a in
        let x = joined (derive here p) q in
        subst (λ t. Matches holds (cond t (either x (derive here q)) x) w) (sym e)
        (either_from x (derive here q) w (inr (g w (subst (Matches holds q) (sym s) b))))
    then_from p q f g w (d ∷ u, (v, s, a, b)) =
        let heads : c ≡ d = cc in
        let tails : w ≡ u ++ v = cc in
        in_first p q (takes_none p) (joined (derive here p) q) (derive here q) w
        (joined_from (derive here p) q w (u, (v, tails, f u (subst (λ x. Matches holds p (x ∷ u)) (sym heads) a), b)))

    many_from : (p : Pattern Set) → Derives p → (x : List ℕ) → Repeats (Matches holds p) x → (w : List ℕ) → x ≡ c ∷ w → Matches holds (joined (derive here p) (Many p)) w
    many_from p f _ (none x e) w s = let z : [] ≡ c ∷ w = sym e ∙ s in absurd (cc)
    many_from p f _ (more x [] v e a b) w s = many_from p f v b w (sym e ∙ s)
    many_from p f _ (more x (d ∷ u) v e a b) w s =
        let all : c ∷ w ≡ d ∷ (u ++ v) = sym s ∙ e in
        let heads : c ≡ d = cc in
        let tails : w ≡ u ++ v = cc in
        joined_from (derive here p) (Many p) w (u, (v, tails, f u (subst (λ y. Matches holds p (y ∷ u)) (sym heads) a), b))

    pub derive_from : (p : Pattern Set) → Derives p
    derive_from Nothing w m = absurd m
    derive_from Empty w m = absurd (cc)
    derive_from (One s) w (d, e, h) =
        let heads : c ≡ d = cc in
        let tails : w ≡ [] = cc in
        subst (λ t. Matches holds (cond t Empty Nothing) w) (sym (ap (holds s) heads ∙ h)) tails
    derive_from (Then p q) w m = then_from p q (derive_from p) (derive_from q) w m
    derive_from (Either p q) w (inl m) = either_from (derive here p) (derive here q) w (inl (derive_from p w m))
    derive_from (Either p q) w (inr m) = either_from (derive here p) (derive here q) w (inr (derive_from q w m))
    derive_from (Many p) w m = many_from p (derive_from p) (c ∷ w) m w refl

    one_to : (s : Set) (w : List ℕ) (t : Bool) → holds s c ≡ t → Matches holds (cond t Empty Nothing) w → Matches holds (One s) (c ∷ w)
    one_to s w true h m = (c, ap (λ (x : List ℕ). c ∷ x) m, h)
    one_to s w false h m = absurd m

    first_to : (p q : Pattern Set) → Integrates p → (w : List ℕ) → Matches holds (joined (derive here p) q) w → Matches holds (Then p q) (c ∷ w)
    first_to p q f w m =
        let x = joined_to (derive here p) q w m in
        (c ∷ x.0, (x.1.0, ap (λ (y : List ℕ). c ∷ y) x.1.1, f x.0 x.1.2, x.1.3))

    then_to : (p q : Pattern Set) → Integrates p → Integrates q → (w : List ℕ) (t : Bool) → takes_none p ≡ t
        → Matches holds (cond t (either (joined (derive here p) q) (derive here q)) (joined (derive here p) q)) w → Matches holds (Then p q) (c ∷ w)
    then_to p q f g w true h m = ⊎_elim
        (λ (a : Matches holds (joined (derive here p) q) w). first_to p q f w a)
        (λ (b : Matches holds (derive here q) w). ([], (c ∷ w, refl, none_to p h, g w b)))
        (either_to (joined (derive here p) q) (derive here q) w m)
    then_to p q f g w false h m = first_to p q f w m

    pub derive_to : (p : Pattern Set) → Integrates p
    derive_to Nothing w m = absurd m
    derive_to Empty w m = absurd m
    derive_to (One s) w m = one_to s w (holds s c) refl m
    derive_to (Then p q) w m = then_to p q (derive_to p) (derive_to q) w (takes_none p) refl m
    derive_to (Either p q) w m = ⊎_elim
        (λ (a : Matches holds (derive here p) w). inl (derive_to p w a))
        (λ (b : Matches holds (derive here q) w). inr (derive_to q w b))
        (either_to (derive here p) (derive here q) w m)
    derive_to (Many p) w m =
        let x = joined_to (derive here p) (Many p) w m in
        more (c ∷ w) (c ∷ x.0) x.1.0 (ap (λ (y : List ℕ). c ∷ y) x.1.1) (derive_to p x.0 x.1.2) x.1.3

  -- ---- rules

  module _ {Kind : Type 0} where
    keep_from : (s : Kind) (p : Pattern Set) (rs : List (Rule Kind Set)) (w : List ℕ) (t : Kind) → FirstOf holds (rule s p ∷ rs) w t → FirstOf holds (keep s p rs) w t
    keep_from s Nothing rs w t (inl (m, e)) = absurd m
    keep_from s Nothing rs w t (inr (n, f)) = f
    keep_from s p rs w t f = f

    keep_to : (s : Kind) (p : Pattern Set) (rs : List (Rule Kind Set)) (w : List ℕ) (t : Kind) → FirstOf holds (keep s p rs) w t → FirstOf holds (rule s p ∷ rs) w t
    keep_to s Nothing rs w t f = inr (λ m. m, f)
    keep_to s p rs w t f = f

    pub first_of_from : (c : ℕ) (rs : List (Rule Kind Set)) (w : List ℕ) (t : Kind) → FirstOf holds rs (c ∷ w) t → FirstOf holds (derive_rules (λ s. holds s c) rs) w t
    first_of_from c [] w t f = f
    first_of_from c (r ∷ rs) w t (inl (m, e)) = keep_from r.kind (derive (λ s. holds s c) r.pattern) (derive_rules (λ s. holds s c) rs) w t (inl (derive_from c r.pattern w m, e))
    first_of_from c (r ∷ rs) w t (inr (n, f)) =
        keep_from r.kind (derive (λ s. holds s c) r.pattern) (derive_rules (λ s. holds s c) rs) w t (inr (λ m. n (derive_to c r.pattern w m), first_of_from c rs w t f))

    first_of_back : (c : ℕ) (r : Rule Kind Set) (rs : List (Rule Kind Set)) (w : List ℕ) (t : Kind) → (FirstOf holds (derive_rules (λ s. holds s c) rs) w t → FirstOf holds rs (c ∷ w) t)
        → FirstOf holds (rule r.kind (derive (λ s. holds s c) r.pattern) ∷ derive_rules (λ s. holds s c) rs) w t → FirstOf holds (r ∷ rs) (c ∷ w) t
    first_of_back c r rs w t go (inl (m, e)) = inl (derive_to c r.pattern w m, e)
    first_of_back c r rs w t go (inr (n, f)) = inr (λ m. n (derive_from c r.pattern w m), go f)

    pub first_of_to : (c : ℕ) (rs : List (Rule Kind Set)) (w : List ℕ) (t : Kind) → FirstOf holds (derive_rules (λ s. holds s c) rs) w t → FirstOf holds rs (c ∷ w) t
    first_of_to c [] w t f = f
    first_of_to c (r ∷ rs) w t f =
        first_of_back c r rs w t (first_of_to c rs w t) (keep_to r.kind (derive (λ s. holds s c) r.pattern) (derive_rules (λ s. holds s c) rs) w t f)

    spelled_other : (r : Rule Kind Set) (rs : List (Rule Kind Set)) (t : Kind) (b : Bool) → takes_none r.pattern ≡ b → (Matches holds r.pattern [] → ⊥) → spells_none rs ≡ Some t → cond b (Some r.kind) (spells_none rs) ≡ Some t
    spelled_other r rs t true h n e = absurd (n (none_to r.pattern h))
    spelled_other r rs t false h n e = e

    pub spelled_from : (rs : List (Rule Kind Set)) (t : Kind) → FirstOf holds rs [] t → spells_none rs ≡ Some t
    spelled_from [] t f = absurd f
    spelled_from (r ∷ rs) t (inl (m, e)) = ap (λ b. cond b (Some r.kind) (spells_none rs)) (none_from r.pattern [] refl m) ∙ ap (λ x. Some x) (sym e)
    spelled_from (r ∷ rs) t (inr (n, f)) = spelled_other r rs t (takes_none r.pattern) refl n (spelled_from rs t f)

    spelled_back : (r : Rule Kind Set) (rs : List (Rule Kind Set)) (t : Kind) (b : Bool) → takes_none r.pattern ≡ b → (spells_none rs ≡ Some t → FirstOf holds rs [] t) → cond b (Some r.kind) (spells_none rs) ≡ Some t → FirstOf holds (r ∷ rs) [] t
    spelled_back r rs t true h go e = let same : t ≡ r.kind = cc in inl (none_to r.pattern h, same)
    spelled_back r rs t false h go e = inr (λ m. false≢true (sym h ∙ none_from r.pattern [] refl m), go e)

    pub spelled_to : (rs : List (Rule Kind Set)) (t : Kind) → spells_none rs ≡ Some t → FirstOf holds rs [] t
    spelled_to [] t e = absurd (cc)
    spelled_to (r ∷ rs) t e = spelled_back r rs t (takes_none r.pattern) refl (spelled_to rs t) e

    -- a word spells one thing
    pub first_of_unique : (rs : List (Rule Kind Set)) (w : List ℕ) (s t : Kind) → FirstOf holds rs w s → FirstOf holds rs w t → s ≡ t
    first_of_unique [] w s t f g = absurd f
    first_of_unique (r ∷ rs) w s t (inl (m, e)) (inl (n, d)) = e ∙ sym d
    first_of_unique (r ∷ rs) w s t (inl (m, e)) (inr (n, g)) = absurd (n m)
    first_of_unique (r ∷ rs) w s t (inr (n, f)) (inl (m, d)) = absurd (n m)
    first_of_unique (r ∷ rs) w s t (inr (n, f)) (inr (o, g)) = first_of_unique rs w s t f g
