-- What stands at the front of a text that begins with a token, behind which it ends, or white space or a comment stands.
use Rattle.std.proofs.Common.{◌≡◌, ℕ, true, false, ◌⊎◌, List, [], ◌∷◌, ◌++◌, Some, None, refl, sym, ap, ◌∙◌, subst, arith, ⊎_elim}
use Rattle.std.specs.Prelude.{IsFalse}
use Rattle.std.proofs.lemmas.Bool.{cases_Bool, and_parts, and_right, eqb-true, false≢true}
use Rattle.std.proofs.lemmas.Bool.Decides.{nat_tests}
use Rattle.pj_xtokens.specs.Characters.{is_white, starts_name, heads, holds}
use Rattle.pj_xtokens.specs.Gaps.{opens, IsSolid}
use Rattle.pj_xtokens.specs.Rules.{Spells}
use Rattle.pj_xtokens.specs.States.{step, first_step, sign_step}
use Rattle.pj_xtokens.specs.Tokens.{is_number, is_joined}
use Rattle.pj_xtokens.specs.declared.token.TokenKind.{TokenKind}
use Rattle.pj_xtokens.specs.declared.token.Sign.TheVariants.{LeftParenthesis}
use Rattle.pj_xtokens.specs.declared.state.State.TheVariants as s
use Rattle.pj_xsyntax_laws.proofs.Stopping.{is_break, breaks}
use Rattle.pj_xsyntax_laws.proofs.WordKinds.{SpelledAreTold, kind_next, kind_stops}

space_starts_none : step (λ s. holds s 32) s.Start ≡ None
unfolding first_step
space_starts_none = refl

tab_starts_none : step (λ s. holds s 9) s.Start ≡ None
unfolding first_step
tab_starts_none = refl

line_feed_starts_none : step (λ s. holds s 10) s.Start ≡ None
unfolding first_step
line_feed_starts_none = refl

return_starts_none : step (λ s. holds s 13) s.Start ≡ None
unfolding first_step
return_starts_none = refl

which_white : (c : ℕ) → is_white c ≡ true → (c ≡ 32) ⊎ ((c ≡ 9) ⊎ ((c ≡ 10) ⊎ (c ≡ 13)))
which_white c h = grind (arith, nat_tests, h)

white_starts_none : (c : ℕ) → is_white c ≡ true → step (λ s. holds s c) s.Start ≡ None
white_starts_none c h =
    let at = λ (d : ℕ) (n : step (λ s. holds s d) s.Start ≡ None) (e : c ≡ d). subst (λ x. step (λ s. holds s x) s.Start ≡ None) (sym e) n in
    ⊎_elim (at 32 space_starts_none) (⊎_elim (at 9 tab_starts_none) (⊎_elim (at 10 line_feed_starts_none) (at 13 return_starts_none))) (which_white c h)

parenthesis_starts : step (λ s. holds s 40) s.Start ≡ Some (s.Sign LeftParenthesis)
unfolding first_step
parenthesis_starts = refl

parenthesis_stops : step (λ s. holds s 58) (s.Sign LeftParenthesis) ≡ None
unfolding sign_step
parenthesis_stops = refl

-- where the scanner's states tell what each token is
module _ (told : SpelledAreTold) where
  pub none_empty : (k : TokenKind) → Spells k [] → ⊥
  none_empty k f = let none : None ≡ Some k = told k [] f in absurd (cc)

  -- no token begins with a character at which the scanner does not start
  no_start : (c : ℕ) (w : List ℕ) (k : TokenKind) → step (λ s. holds s c) s.Start ≡ None → Spells k (c ∷ w) → ⊥
  no_start c w k e f = let none : None ≡ Some k = sym (kind_stops c w s.Start e) ∙ told k (c ∷ w) f in absurd (cc)

  not_white : (c : ℕ) (w : List ℕ) (k : TokenKind) → Spells k (c ∷ w) → is_white c ≡ false
  not_white c w k f =
      ⊎_elim (λ (h : is_white c ≡ true). absurd (no_start c w k (white_starts_none c h) f)) (λ (h : is_white c ≡ false). h) (cases_Bool (is_white c))

  -- no token begins with (:
  no_comment : (w : List ℕ) (k : TokenKind) → Spells k (40 ∷ 58 ∷ w) → ⊥
  no_comment w k f =
      let first = kind_next 40 (58 ∷ w) s.Start (s.Sign LeftParenthesis) parenthesis_starts in
      let second = kind_stops 58 w (s.Sign LeftParenthesis) parenthesis_stops in
      let none : None ≡ Some k = sym (first ∙ second) ∙ told k (40 ∷ 58 ∷ w) f in
      absurd (cc)

  no_opening : (w behind : List ℕ) (k : TokenKind) → breaks behind ≡ true → Spells k w → opens (w ++ behind) ≡ true → ⊥
  no_opening [] behind k b f h = none_empty k f
  no_opening (c ∷ []) [] k b f h = false≢true (and_parts _ _ h).1
  no_opening (c ∷ []) (d ∷ behind) k b f h = let second : d ≡ 58 = eqb-true _ _ (and_parts _ _ h).1 in false≢true (sym (ap is_break second) ∙ b)
  no_opening (c ∷ d ∷ w) behind k b f h =
      let e = and_parts _ _ h in
      let first : c ≡ 40 = eqb-true _ _ e.0 in
      let second : d ≡ 58 = eqb-true _ _ e.1 in
      no_comment w k (subst (λ x. Spells k (x ∷ 58 ∷ w)) first (subst (λ x. Spells k (c ∷ x ∷ w)) second f))

  -- no comment begins at a token, also not at the sign ( before one
  pub opens_none : (w behind : List ℕ) (k : TokenKind) → breaks behind ≡ true → Spells k w → IsFalse (opens (w ++ behind))
  opens_none w behind k b f = ⊎_elim
      (λ (h : opens (w ++ behind) ≡ true). absurd (no_opening w behind k b f h))
      (λ (h : opens (w ++ behind) ≡ false). h)
      (cases_Bool (opens (w ++ behind)))

  pub solid_front : (w behind : List ℕ) (k : TokenKind) → breaks behind ≡ true → Spells k w → IsSolid (w ++ behind)
  solid_front [] behind k b f = absurd (none_empty k f)
  solid_front (c ∷ w) behind k b f = record {
    not_white = not_white c w k f;
    no_comment = λ inside rest e m. false≢true (sym (opens_none (c ∷ w) behind k b f) ∙ ap opens e);
  }

no_name : (behind : List ℕ) → breaks behind ≡ true → heads starts_name behind ≡ false
no_name [] b = refl
no_name (c ∷ behind) b = grind (arith, nat_tests, b)

-- no number is joined to what stands there
pub not_joined : (k : TokenKind) (behind : List ℕ) → breaks behind ≡ true → IsFalse (is_joined k behind)
not_joined k behind b = and_right (is_number k) (heads starts_name behind) (no_name behind b)
