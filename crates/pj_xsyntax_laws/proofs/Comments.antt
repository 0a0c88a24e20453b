-- White space and comments are what they are whatever stands behind them, and begin with what ends a token.
use Rattle.std.proofs.Common.{◌≡◌, ℕ, zero, true, ◌||◌, ◌==◌, List, [], ◌∷◌, ◌++◌, refl, sym, ap, ◌∙◌}
use Rattle.pj_xtokens.specs.Gaps.{begins_with, Comment, ended, closed, opened, other, Past, here, white, comment}
use Rattle.pj_xsyntax_laws.specs.Gapped.{IsGap}
use Rattle.pj_xsyntax_laws.proofs.Stopping.{is_break, breaks}

-- a comment that goes on has a character
nothing_open : (n : ℕ) (text behind : List ℕ) → text ≡ [] → Comment n text behind → ⊥
nothing_open _ text behind h (ended _ _ e) = let x : [] ≡ 58 ∷ 41 ∷ behind = sym h ∙ e in cc
nothing_open _ text behind h (closed n _ r _ e k) = let x : [] ≡ 58 ∷ 41 ∷ r = sym h ∙ e in cc
nothing_open _ text behind h (opened n _ r _ e k) = let x : [] ≡ 40 ∷ 58 ∷ r = sym h ∙ e in cc
nothing_open _ text behind h (other n c _ r _ e o l k) = let x : [] ≡ c ∷ r = sym h ∙ e in cc

-- the first two characters of a text stay
begins_still : (a b c : ℕ) (text rest more : List ℕ) → text ≡ c ∷ rest → (rest ≡ [] → ⊥) → begins_with a b (text ++ more) ≡ begins_with a b text
begins_still a b c text [] more e n = absurd (n refl)
begins_still a b c text (d ∷ rest) more e n = ap (λ (x : List ℕ). begins_with a b (x ++ more)) e ∙ sym (ap (begins_with a b) e)

module _ (more : List ℕ) where
  abbrev and_more : List ℕ → List ℕ
  and_more text = text ++ more

  comment_still : (n : ℕ) (text behind : List ℕ) → Comment n text behind → Comment n (text ++ more) (behind ++ more)
  comment_still _ text behind (ended _ _ e) = ended (text ++ more) (behind ++ more) (ap and_more e)
  comment_still _ text behind (closed n _ r _ e k) = closed n (text ++ more) (r ++ more) (behind ++ more) (ap and_more e) (comment_still n r behind k)
  comment_still _ text behind (opened n _ r _ e k) = opened n (text ++ more) (r ++ more) (behind ++ more) (ap and_more e) (comment_still _ r behind k)
  comment_still _ text behind (other n c _ r _ e o l k) =
      let goes_on = λ (x : r ≡ []). nothing_open n r behind x k in
      other n c (text ++ more) (r ++ more) (behind ++ more) (ap and_more e)
      (begins_still 40 58 c text r more e goes_on ∙ o) (begins_still 58 41 c text r more e goes_on ∙ l) (comment_still n r behind k)

  pub past_still : (text body : List ℕ) → Past text body → Past (text ++ more) (body ++ more)
  past_still text body (here _ _ e) = here (text ++ more) (body ++ more) (ap and_more e)
  past_still text body (white c _ r _ e w p) = white c (text ++ more) (r ++ more) (body ++ more) (ap and_more e) w (past_still r body p)
  past_still text body (comment _ i r _ e k p) = comment (text ++ more) (i ++ more) (r ++ more) (body ++ more) (ap and_more e) (comment_still zero i r k) (past_still r body p)

-- a gap stands before any text
pub gap_before : (gap more : List ℕ) → IsGap gap → Past (gap ++ more) more
gap_before gap more g = past_still more gap [] g

gap_begins : (c : ℕ) (gap text body : List ℕ) → text ≡ c ∷ gap → body ≡ [] → Past text body → is_break c ≡ true
gap_begins c gap text body e n (here _ _ h) = let x : c ∷ gap ≡ [] = sym e ∙ h ∙ n in absurd (cc)
gap_begins c gap text body e n (white d _ r _ h w p) = let x : c ∷ gap ≡ d ∷ r = sym e ∙ h in let same : c ≡ d = cc in ap is_break same ∙ ap (λ b. b || (d == 40)) w
gap_begins c gap text body e n (comment _ i r _ h k p) = let x : c ∷ gap ≡ 40 ∷ 58 ∷ i = sym e ∙ h in let same : c ≡ 40 = cc in ap is_break same

-- a token ends before a gap, which is empty only where nothing more stands behind it
pub gap_breaks : (gap more : List ℕ) → IsGap gap → (gap ≡ [] → more ≡ []) → breaks (gap ++ more) ≡ true
gap_breaks [] more g last = ap breaks (last refl)
gap_breaks (c ∷ gap) more g last = gap_begins c gap (c ∷ gap) [] refl refl g
