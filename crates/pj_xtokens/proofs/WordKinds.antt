-- What the scanner's states say of a word is what the rules say of it.
use Rattle.std.proofs.Common.{◌≡◌, ℕ, List, [], ◌∷◌, Option, Some, None, refl, sym, ◌∙◌, subst}
use Rattle.pj_xtokens.specs.Characters.{holds}
use Rattle.pj_xtokens.specs.Rules.{Rule, rules, FirstOf, Spells}
use Rattle.pj_xtokens.specs.Scanning.{kind_from, kind_of}
use Rattle.pj_xtokens.specs.States.{step}
use Rattle.pj_xtokens.specs.declared.token.TokenKind.{TokenKind}
use Rattle.pj_xtokens.specs.declared.state.State.{State}
use Rattle.pj_xtokens.specs.declared.state.State.TheVariants as s
use Rattle.pj_patterns.specs.Derivatives.{derive_rules, spells_none}
use Rattle.pj_xtokens.proofs.Meaning.{meaning, meaning_of}
use Rattle.pj_xtokens.proofs.Follows.{goes_on, spells}

start_is : meaning s.Start ≡ rules
unfolding meaning
start_is = refl

-- where rules say of a word what those say of its rest that are left behind its first character, and what they say of the empty word is computed
module _ (behind : (c : ℕ) (rs : List Rule) (w : List ℕ) (k : TokenKind) → FirstOf rs (c ∷ w) k → FirstOf (derive_rules (λ s. holds s c) rs) w k)
    (none : (rs : List Rule) (k : TokenKind) → FirstOf rs [] k → spells_none rs ≡ Some k) where
  told_on : (o : Option State) (w : List ℕ) (k : TokenKind) → ((r : State) → FirstOf (meaning r) w k → kind_from w r ≡ Some k)
      → FirstOf (meaning_of o) w k → elim o as (λ z. Option TokenKind) [ None ↦ None | Some r ↦ kind_from w r ] ≡ Some k
  told_on None w k go f = absurd f
  told_on (Some r) w k go f = go r f

  told_from : (w : List ℕ) (k : TokenKind) (q : State) → FirstOf (meaning q) w k → kind_from w q ≡ Some k
  told_from [] k q f = sym (spells q) ∙ none (meaning q) k f
  told_from (c ∷ w) k q f =
      told_on (step (λ s. holds s c) q) w k (told_from w k) (subst (λ (rs : List Rule). FirstOf rs w k) (goes_on c q) (behind c (meaning q) w k f))

  pub told : (k : TokenKind) (w : List ℕ) → Spells k w → kind_of w ≡ Some k
  told k w f = told_from w k s.Start (subst (λ (rs : List Rule). FirstOf rs w k) (sym start_is) f)

module _ (before : (c : ℕ) (rs : List Rule) (w : List ℕ) (k : TokenKind) → FirstOf (derive_rules (λ s. holds s c) rs) w k → FirstOf rs (c ∷ w) k)
    (nothing : (rs : List Rule) (k : TokenKind) → spells_none rs ≡ Some k → FirstOf rs [] k) where
  spelled_on : (o : Option State) (w : List ℕ) (k : TokenKind) → ((r : State) → kind_from w r ≡ Some k → FirstOf (meaning r) w k)
      → elim o as (λ z. Option TokenKind) [ None ↦ None | Some r ↦ kind_from w r ] ≡ Some k → FirstOf (meaning_of o) w k
  spelled_on None w k go e = absurd (cc)
  spelled_on (Some r) w k go e = go r e

  spelled_from : (w : List ℕ) (k : TokenKind) (q : State) → kind_from w q ≡ Some k → FirstOf (meaning q) w k
  spelled_from [] k q e = nothing (meaning q) k (spells q ∙ e)
  spelled_from (c ∷ w) k q e =
      before c (meaning q) w k (subst (λ (rs : List Rule). FirstOf rs w k) (sym (goes_on c q)) (spelled_on (step (λ s. holds s c) q) w k (spelled_from w k) e))

  pub spells_kind : (k : TokenKind) (w : List ℕ) → kind_of w ≡ Some k → Spells k w
  spells_kind k w e = subst (λ (rs : List Rule). FirstOf rs w k) start_is (spelled_from w k s.Start e)
