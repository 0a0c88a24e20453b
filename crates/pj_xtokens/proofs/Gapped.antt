-- Comments and gaps, step by step, and that there is one of each.
use Rattle.std.proofs.Common.{◌≡◌, ℕ, suc, zero, true, false, List, [], ◌∷◌, Option, Some, None, MatchOption, sym, refl, ap, ◌∙◌, subst, arith}
use denote.Bor.{Bor}
use Rattle.std.specs.Str.{chars}
use Rattle.std.proofs.lemmas.Bool.{false≢true, and_from, eq-eqb}
use Rattle.pj_xtokens.specs.Characters.{is_white, heads}
use Rattle.pj_xtokens.specs.Gaps.{begins_with, opens, closes, Comment, ended, closed, opened, other, Past, here, white, comment, IsSolid}
use Rattle.pj_xtokens.specs.Scanning.{IsBehind}

pub begins_pair : (a b : ℕ) (text rest : List ℕ) → text ≡ a ∷ b ∷ rest → begins_with a b text ≡ true
begins_pair a b text rest e = ap (begins_with a b) e ∙ and_from _ _ (eq-eqb a a refl) (eq-eqb b b refl)

-- (: is no :) and the other way round
open_not_close : (text rest : List ℕ) → text ≡ 40 ∷ 58 ∷ rest → closes text ≡ true → ⊥
open_not_close text rest e h = false≢true (sym (ap closes e) ∙ h)

close_not_open : (r s : List ℕ) → ◌≡◌ {A = List ℕ} (58 ∷ 41 ∷ r) (40 ∷ 58 ∷ s) → ⊥
close_not_open r s e = let h : ◌≡◌ {A = ℕ} 58 40 = cc in omega (arith, h)

same_behind : (a b : ℕ) (r s : List ℕ) → a ∷ b ∷ r ≡ a ∷ b ∷ s → r ≡ s
same_behind a b r s e = cc

pub nothing_open : (n : ℕ) (text t : List ℕ) → text ≡ [] → Comment n text t → ⊥
nothing_open _ text t h (ended _ _ e) = let x : [] ≡ 58 ∷ 41 ∷ t = sym h ∙ e in cc
nothing_open _ text t h (closed n _ r _ e k) = let x : [] ≡ 58 ∷ 41 ∷ r = sym h ∙ e in cc
nothing_open _ text t h (opened n _ r _ e k) = let x : [] ≡ 40 ∷ 58 ∷ r = sym h ∙ e in cc
nothing_open _ text t h (other n c _ r _ e p q k) = let x : [] ≡ c ∷ r = sym h ∙ e in cc

-- at a :) of the outermost comment
pub at_end : (n : ℕ) (text rest t : List ℕ) → text ≡ 58 ∷ 41 ∷ rest → n ≡ 0 → Comment n text t → t ≡ rest
at_end _ text rest t s z (ended _ _ e) = same_behind 58 41 t rest (sym e ∙ s)
at_end _ text rest t s z (closed n _ r _ e k) = absurd (omega (arith, z))
at_end _ text rest t s z (opened n _ r _ e k) = absurd (close_not_open rest r (sym s ∙ e))
at_end _ text rest t s z (other n c _ r _ e p q k) = absurd (false≢true (sym q ∙ begins_pair 58 41 text rest s))

-- at another :)
pub at_close : (n m : ℕ) (text rest t : List ℕ) → text ≡ 58 ∷ 41 ∷ rest → n ≡ suc m → Comment n text t → Comment m rest t
at_close _ m text rest t s z (ended _ _ e) = absurd (omega (arith, z))
at_close _ m text rest t s z (closed n _ r _ e k) =
    let same : n ≡ m = omega (arith, z) in
    subst (λ x. Comment x rest t) same (subst (λ x. Comment n x t) (same_behind 58 41 r rest (sym e ∙ s)) k)
at_close _ m text rest t s z (opened n _ r _ e k) = absurd (close_not_open rest r (sym s ∙ e))
at_close _ m text rest t s z (other n c _ r _ e p q k) = absurd (false≢true (sym q ∙ begins_pair 58 41 text rest s))

pub at_open : (n : ℕ) (text rest t : List ℕ) → text ≡ 40 ∷ 58 ∷ rest → Comment n text t → Comment (suc n) rest t
at_open _ text rest t s (ended _ _ e) = absurd (close_not_open t rest (sym e ∙ s))
at_open _ text rest t s (closed n _ r _ e k) = absurd (close_not_open r rest (sym e ∙ s))
at_open _ text rest t s (opened n _ r _ e k) = subst (λ x. Comment (suc n) x t) (same_behind 40 58 r rest (sym e ∙ s)) k
at_open _ text rest t s (other n c _ r _ e p q k) = absurd (false≢true (sym p ∙ begins_pair 40 58 text rest s))

pub at_other : (n c : ℕ) (text rest t : List ℕ) → text ≡ c ∷ rest → opens text ≡ false → closes text ≡ false → Comment n text t → Comment n rest t
at_other _ c text rest t s p q (ended _ _ e) = absurd (false≢true (sym q ∙ begins_pair 58 41 text t e))
at_other _ c text rest t s p q (closed n _ r _ e k) = absurd (false≢true (sym q ∙ begins_pair 58 41 text r e))
at_other _ c text rest t s p q (opened n _ r _ e k) = absurd (false≢true (sym p ∙ begins_pair 40 58 text r e))
at_other _ c text rest t s p q (other n d _ r _ e _ _ k) = let same : r ≡ rest = cc in subst (λ x. Comment n x t) same k

-- what stands behind a comment is an end of the text
pub comment_behind : (n : ℕ) (text t : List ℕ) → Comment n text t → IsBehind t text
comment_behind _ text t (ended _ _ e) = (58 ∷ 41 ∷ [], e)
comment_behind _ text t (closed n _ r _ e k) = let q = comment_behind n r t k in (58 ∷ 41 ∷ q.0, e ∙ ap (λ (x : List ℕ). 58 ∷ 41 ∷ x) q.1)
comment_behind _ text t (opened n _ r _ e k) = let q = comment_behind (suc n) r t k in (40 ∷ 58 ∷ q.0, e ∙ ap (λ (x : List ℕ). 40 ∷ 58 ∷ x) q.1)
comment_behind _ text t (other n c _ r _ e o l k) = let q = comment_behind n r t k in (c ∷ q.0, e ∙ ap (λ (x : List ℕ). c ∷ x) q.1)

-- a comment ends at one place
pub comment_one : (n : ℕ) (text t : List ℕ) → Comment n text t → (u : List ℕ) → Comment n text u → t ≡ u
comment_one _ text t (ended _ _ e) u k = sym (at_end zero text t u e refl k)
comment_one _ text t (closed n _ r _ e h) u k = comment_one n r t h u (at_close (suc n) n text r u e refl k)
comment_one _ text t (opened n _ r _ e h) u k = comment_one (suc n) r t h u (at_open n text r u e k)
comment_one _ text t (other n c _ r _ e p q h) u k = comment_one n r t h u (at_other n c text r u e p q k)

-- a solid text begins no gap
solid_stays : (text body : List ℕ) → IsSolid text → Past text body → text ≡ body
solid_stays text body s (here _ _ e) = e
solid_stays text body s (white c _ r _ e w p) = absurd (false≢true (sym s.not_white ∙ ap (heads is_white) e ∙ w))
solid_stays text body s (comment _ i r _ e k p) = absurd (s.no_comment i r e k)

past_white : (c : ℕ) (text rest body : List ℕ) → text ≡ c ∷ rest → is_white c ≡ true → IsSolid body → Past text body → Past rest body
past_white c text rest body e w s (here _ _ h) = absurd (false≢true (sym s.not_white ∙ ap (heads is_white) (sym h ∙ e) ∙ w))
past_white c text rest body e w s (white d _ r _ h _ p) = let same : r ≡ rest = cc in subst (λ x. Past x body) same p
past_white c text rest body e w s (comment _ i r _ h k p) = let same : c ≡ 40 = cc in absurd (false≢true (ap is_white (sym same) ∙ w))

past_comment : (text inside rest body : List ℕ) → text ≡ 40 ∷ 58 ∷ inside → Comment zero inside rest → IsSolid body → Past text body → Past rest body
past_comment text inside rest body e k s (here _ _ h) = absurd (s.no_comment inside rest (sym h ∙ e) k)
past_comment text inside rest body e k s (white d _ r _ h w p) = let same : d ≡ 40 = cc in absurd (false≢true (ap is_white (sym same) ∙ w))
past_comment text inside rest body e k s (comment _ i r _ h l p) =
    let insides : i ≡ inside = same_behind 40 58 i inside (sym h ∙ e) in
    let rests : r ≡ rest = comment_one zero inside r (subst (λ x. Comment zero x r) insides l) rest k in
    subst (λ x. Past x body) rests p

-- what stands behind a gap is one
pub past_one : (text body : List ℕ) → Past text body → IsSolid body → (other : List ℕ) → Past text other → IsSolid other → body ≡ other
past_one text body (here _ _ e) s u q z = sym e ∙ solid_stays text u (subst IsSolid (sym e) s) q
past_one text body (white c _ r _ e w p) s u q z = past_one r body p s u (past_white c text r u e w z q) z
past_one text body (comment _ i r _ e k p) s u q z = past_one r body p s u (past_comment text i r u e k z q) z

-- the end of a text is solid
pub solid_end : IsSolid []
solid_end = record { not_white = refl; no_comment = λ i b e k. cc }

pub solid_nothing : (text : List ℕ) → text ≡ [] → IsSolid text
solid_nothing text e = subst IsSolid (sym e) solid_end

pub solid_plain : (c : ℕ) (text rest : List ℕ) → text ≡ c ∷ rest → is_white c ≡ false → opens text ≡ false → IsSolid text
solid_plain c text rest e w o = record {
  not_white = ap (heads is_white) e ∙ w;
  no_comment = λ i b h k. false≢true (sym o ∙ begins_pair 40 58 text i h);
}

-- where the text opens a comment: what stands behind it, where it ends
pub comment_passed : (c : ℕ) (text rest inside : List ℕ) → text ≡ c ∷ rest → is_white c ≡ false → text ≡ 40 ∷ 58 ∷ inside
    → (found : Option (Bor (List ℕ)))
    → MatchOption found ((behind : List ℕ) → Comment 0 inside behind → ⊥) (λ behind. Comment 0 inside (chars behind.now))
    → MatchOption found (IsSolid text) (λ behind. (body : List ℕ) → Past (chars behind.now) body → Past text body)
comment_passed c text rest inside e w h None k = record {
  not_white = ap (heads is_white) e ∙ w;
  no_comment = λ i b g m. k b (subst (λ x. Comment 0 x b) (same_behind 40 58 i inside (sym g ∙ h)) m);
}
comment_passed c text rest inside e w h (Some behind) k = λ body p. comment text inside (chars behind.now) body h k p
