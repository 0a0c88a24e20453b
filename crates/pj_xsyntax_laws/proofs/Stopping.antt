-- A token ends before white space and before a comment: no word that spells a token goes on with either.
use Rattle.std.proofs.Common.{◌≡◌, ℕ, ◌≤◌, Bool, true, ◌||◌, ◌==◌, ◌⊎◌, inl, inr, ⊎_elim, List, [], ◌∷◌, ◌++◌, length, length-append, Option, Some, None, refl, sym, ap, ◌∙◌, subst, arith}
use Rattle.std.proofs.lemmas.Bool.Decides.{nat_tests}
use Rattle.pj_xtokens.specs.Characters.{is_white, holds}
use Rattle.pj_xtokens.specs.Rules.{Spells}
use Rattle.pj_xtokens.specs.Scanning.{kind_from}
use Rattle.pj_xtokens.specs.States.{step, spelled, sign_step}
use Rattle.pj_xtokens.specs.Tokens.{IsLongest}
use Rattle.pj_xtokens.specs.declared.token.TokenKind.{TokenKind}
use Rattle.pj_xtokens.specs.declared.state.State.{State}
use Rattle.pj_xtokens.specs.declared.state.State.TheVariants as s
use Rattle.pj_xtokens.specs.declared.token.Sign.{Sign}
use Rattle.pj_xtokens.specs.declared.token.Sign.TheVariants as sign
use Rattle.pj_xsyntax_laws.proofs.WordKinds.{SpelledAreTold, kind_stops}

-- white space, or the ( with which a comment begins
abbrev pub is_break : ℕ → Bool
is_break c = is_white c || (c == 40)

-- the text is empty, or begins with one of these
abbrev pub breaks : List ℕ → Bool
breaks [] = true
breaks (c ∷ cs) = is_break c

-- what a function says of each of these
abbrev pub at_each : (ℕ → Option State) → List (Option State)
at_each f = f 32 ∷ f 9 ∷ f 10 ∷ f 13 ∷ f 40 ∷ []

abbrev pub no_state : List (Option State)
no_state = None ∷ None ∷ None ∷ None ∷ None ∷ []

which_break : (c : ℕ) → is_break c ≡ true → (c ≡ 32) ⊎ ((c ≡ 9) ⊎ ((c ≡ 10) ⊎ ((c ≡ 13) ⊎ (c ≡ 40))))
which_break c h = grind (arith, nat_tests, h)

pub none_at : (f : ℕ → Option State) → at_each f ≡ no_state → (c : ℕ) → is_break c ≡ true → f c ≡ None
none_at f e c h =
    let space : f 32 ≡ None = cc in
    let tab : f 9 ≡ None = cc in
    let line_feed : f 10 ≡ None = cc in
    let return : f 13 ≡ None = cc in
    let parenthesis : f 40 ≡ None = cc in
    let at = λ (d : ℕ) (n : f d ≡ None) (q : c ≡ d). ap f q ∙ n in
    ⊎_elim (at 32 space) (⊎_elim (at 9 tab) (⊎_elim (at 10 line_feed) (⊎_elim (at 13 return) (at 40 parenthesis)))) (which_break c h)

pub sign_stops : (q : Sign) → at_each (λ c. sign_step (λ s. holds s c) q) ≡ no_state
unfolding sign_step
sign_stops sign.LeftParenthesis = refl
sign_stops sign.RightParenthesis = refl
sign_stops sign.LeftBracket = refl
sign_stops sign.RightBracket = refl
sign_stops sign.LeftBrace = refl
sign_stops sign.RightBrace = refl
sign_stops sign.Comma = refl
sign_stops sign.Dot = refl
sign_stops sign.DotDot = refl
sign_stops sign.Slash = refl
sign_stops sign.SlashSlash = refl
sign_stops sign.Colon = refl
sign_stops sign.ColonColon = refl
sign_stops sign.ColonEqual = refl
sign_stops sign.Bang = refl
sign_stops sign.BangEqual = refl
sign_stops sign.Dollar = refl
sign_stops sign.Star = refl
sign_stops sign.Plus = refl
sign_stops sign.Minus = refl
sign_stops sign.Less = refl
sign_stops sign.LessLess = refl
sign_stops sign.LessEqual = refl
sign_stops sign.Equal = refl
sign_stops sign.Arrow = refl
sign_stops sign.Greater = refl
sign_stops sign.GreaterGreater = refl
sign_stops sign.GreaterEqual = refl
sign_stops sign.Question = refl
sign_stops sign.At = refl
sign_stops sign.Bar = refl
sign_stops sign.BarBar = refl
sign_stops sign.Hash = refl

-- a state in which the word read so far spells something goes on with none of these
stops : (q : State) (k : TokenKind) → spelled q ≡ Some k → at_each (λ c. step (λ s. holds s c) q) ≡ no_state
stops s.Start k e = absurd (cc)
stops s.Name k e = refl
stops s.NameColon k e = absurd (cc)
stops s.PrefixedName k e = refl
stops s.Integer k e = refl
stops s.Decimal k e = refl
stops s.ExponentMark k e = absurd (cc)
stops s.ExponentSign k e = absurd (cc)
stops s.Double k e = refl
stops s.QuoteBody k e = absurd (cc)
stops s.QuoteEnd k e = refl
stops s.ApostropheBody k e = absurd (cc)
stops s.ApostropheEnd k e = refl
stops (s.Sign q) k e = sign_stops q

at_next : (o : Option State) (w v : List ℕ) (j k : TokenKind) → ((r : State) → kind_from w r ≡ Some k → kind_from v r ≡ Some j → ⊥)
    → elim o as (λ z. Option TokenKind) [ None ↦ None | Some r ↦ kind_from w r ] ≡ Some k → elim o as (λ z. Option TokenKind) [ None ↦ None | Some r ↦ kind_from v r ] ≡ Some j → ⊥
at_next None w v j k go f g = absurd (cc)
at_next (Some r) w v j k go f g = go r f g

module _ (d : ℕ) (h : is_break d ≡ true) where
  at_break : (q : State) (v : List ℕ) (j k : TokenKind) → spelled q ≡ Some k → kind_from (d ∷ v) q ≡ Some j → ⊥
  at_break q v j k e g = let none : None ≡ Some j = sym (kind_stops d v q (none_at (λ c. step (λ s. holds s c) q) (stops q k e) d h)) ∙ g in absurd (cc)

  -- no word that leads on from a state to one where it spells something goes on with the character to another one
  word_stops : (w v : List ℕ) (j k : TokenKind) (q : State) → kind_from w q ≡ Some k → kind_from (w ++ d ∷ v) q ≡ Some j → ⊥
  word_stops [] v j k q f g = at_break q v j k f g
  word_stops (c ∷ w) v j k q f g = at_next (step (λ s. holds s c) q) w (w ++ d ∷ v) j k (word_stops w v j k) f g

  token_stops : SpelledAreTold → (w v : List ℕ) (j k : TokenKind) → Spells k w → Spells j (w ++ d ∷ v) → ⊥
  token_stops told w v j k f g = word_stops w v j k s.Start (told k w f) (told j (w ++ d ∷ v) g)

-- a prefix of a text that is longer than another one goes on from that with the next character
pub longer : (d : ℕ) (w rest v behind : List ℕ) → w ++ d ∷ rest ≡ v ++ behind → (length v ≤ length w) ⊎ ((u : List ℕ) × (v ≡ w ++ d ∷ u))
longer d w rest [] behind e = inl (omega arith)
longer d [] rest (c ∷ v) behind e = let first : c ≡ d = cc in inr (v, ap (λ x. x ∷ v) first)
longer d (b ∷ w) rest (c ∷ v) behind e =
    let first : b ≡ c = cc in
    let tails : w ++ d ∷ rest ≡ v ++ behind = cc in
    ⊎_elim
    (λ (h : length v ≤ length w). inl (omega (arith, h)))
    (λ (h : (u : List ℕ) × (v ≡ w ++ d ∷ u)). inr (h.0, λ i. sym first i ∷ h.1 i))
    (longer d w rest v behind tails)

within_whole : (w v behind : List ℕ) → w ++ [] ≡ v ++ behind → length v ≤ length w
within_whole w v behind e =
    let a = length-append w [] in
    let b = length-append v behind in
    let same : length (w ++ []) ≡ length (v ++ behind) = ap length e in
    omega (arith, a, b, same)

-- what spells a token is the longest prefix that does where the text ends behind it, or white space or a comment stands there
pub longest_before : SpelledAreTold → (w behind : List ℕ) (k : TokenKind) → breaks behind ≡ true → Spells k w → IsLongest (w ++ behind) k w
longest_before told w [] k h f = record { spells = f; none_longer = λ j v behind e g. within_whole w v behind e }
longest_before told w (d ∷ rest) k h f = record {
  spells = f;
  none_longer = λ j v behind e g. ⊎_elim
      (λ (n : length v ≤ length w). n)
      (λ (n : (u : List ℕ) × (v ≡ w ++ d ∷ u)). absurd (token_stops d h told w n.0 j k f (subst (λ (x : List ℕ). Spells j x) n.1 g)))
      (longer d w rest v behind e);
}
