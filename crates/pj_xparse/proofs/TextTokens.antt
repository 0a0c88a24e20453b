-- The tokens of every text are well spelled.
use Rattle.std.proofs.Common.{◌≡◌, ℕ, true, List, [], ◌∷◌, ◌++◌, refl, subst}
use Rattle.std.specs.Str.{all_scalars}
use Rattle.pj_xtokens.specs.Tokens as t
use Rattle.pj_xtokens.specs.Tokens.{Lexed, Tokens}
use Rattle.pj_xtokens.specs.Gaps.{Past}
use Rattle.pj_xtokens.specs.Scanning.{IsBehind}
use Rattle.pj_xtokens.specs.declared.token.End.{End}
use Rattle.pj_xparse.specs.WellSpelled.{AreWellSpelled}
use Rattle.pj_xparse.proofs.SpelledTokens.{scalars_parts, scalars_join}

scalars_both : (cs ds : List ℕ) → all_scalars (cs ++ ds) ≡ true → (all_scalars cs ≡ true) × (all_scalars ds ≡ true)
scalars_both [] ds h = (refl, h)
scalars_both (c ∷ cs) ds h =
    let (here, more) = scalars_parts c (cs ++ ds) h in
    let (left, right) = scalars_both cs ds more in
    (scalars_join c cs here left, right)

-- where what stands behind a gap is an end of the text
module _ (past_behind : (text body : List ℕ) → Past text body → IsBehind body text) where
  -- the characters of a token, and those behind it
  word_scalars : (text body w behind : List ℕ) → Past text body → body ≡ w ++ behind → all_scalars text ≡ true → (all_scalars w ≡ true) × (all_scalars behind ≡ true)
  word_scalars text body w behind past is h =
      let (before, same) = past_behind text body past in
      let (left, right) = scalars_both before body (subst (λ (l : List ℕ). all_scalars l ≡ true) same h) in
      scalars_both w behind (subst (λ (l : List ℕ). all_scalars l ≡ true) is right)

  pub tokens_spelled : {total : ℕ} {text : List ℕ} {ts : List Lexed} {e : End} → all_scalars text ≡ true → Tokens total text ts e → AreWellSpelled ts
  tokens_spelled h (t.ended text past) = tt
  tokens_spelled h (t.token text body w behind k from more e past solid opens is longest at apart rest) =
      let (here, further) = word_scalars text body w behind past is h in
      (record { characters = here; spells = longest.spells }, tokens_spelled further rest)
  tokens_spelled h (t.joined text body w behind k from to past solid opens is longest at joined end) =
      let (here, further) = word_scalars text body w behind past is h in
      (record { characters = here; spells = longest.spells }, tt)
  tokens_spelled h (t.unspelled c text rest from past solid none at) = tt
