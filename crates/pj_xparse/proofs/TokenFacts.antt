-- The tokens of a text: there are no more of them than bytes, and what ends at the end of the text ends at its length.
use Rattle.std.proofs.Common.{◌≡◌, ℕ, ◌+◌, ◌≤◌, ◌<◌, List, ◌++◌, length, ap, ◌∙◌, arith}
use Rattle.std.proofs.lemmas.Str.{length-le-encodes}
use Rattle.pj_xtokens.specs.Gaps.{Past}
use Rattle.pj_xtokens.specs.Rules.{Spells}
use Rattle.pj_xtokens.specs.Scanning.{IsBehind}
use Rattle.pj_xtokens.specs.Size.{size}
use Rattle.pj_xtokens.specs.Tokens.{Lexed, Tokens, ended, token, joined, unspelled}
use Rattle.pj_xtokens.specs.declared.token.TokenKind.{TokenKind}
use Rattle.pj_xtokens.specs.declared.token.End.{End}
use Rattle.pj_xtokens.specs.declared.token.End.TheVariants as ends
use Rattle.pj_xparse.proofs.Sizes.{size-append}

-- what has a character has a byte
some_bytes : (w : List ℕ) → 0 < length w → 0 < size w
some_bytes w h = omega (arith, h, length-le-encodes w)

-- where what stands behind a gap is an end of the text, and each token has a character
module _ (past_behind : (text body : List ℕ) → Past text body → IsBehind body text) (not_empty : (k : TokenKind) (w : List ℕ) → Spells k w → 0 < length w) where
  -- a token leaves less of the text
  behind_smaller : (text body w behind : List ℕ) (k : TokenKind) → Past text body → body ≡ w ++ behind → Spells k w → size behind < size text
  behind_smaller text body w behind k p split spells =
      let q = past_behind text body p in
      let all : size text ≡ size q.0 + size body = ap size q.1 ∙ size-append q.0 body in
      let front : size body ≡ size w + size behind = ap size split ∙ size-append w behind in
      omega (arith, all, front, some_bytes w (not_empty k w spells))

  -- there are no more tokens than bytes
  pub token_count : (total : ℕ) (text : List ℕ) (ls : List Lexed) (e : End) → Tokens total text ls e → length ls ≤ size text
  token_count total _ _ _ (ended t p) = omega arith
  token_count total _ _ _ (token t body w b k from more e p s o split l f j rest) =
      omega (arith, token_count total b more e rest, behind_smaller t body w b k p split l.spells)
  token_count total _ _ _ (joined t body w b k from to p s o split l f j g) = omega (arith, behind_smaller t body w b k p split l.spells)
  token_count total _ _ _ (unspelled c t r from p s u f) = omega arith

-- the end of the text is its length
pub text_end : (total : ℕ) (text : List ℕ) (ls : List Lexed) (e : End) → Tokens total text ls e → (n : ℕ) → e ≡ ends.Text n → n ≡ total
text_end total _ _ _ (ended t p) n x = cc
text_end total _ _ _ (token t body w b k from more e p s o split l f j rest) n x = text_end total b more e rest n x
text_end total _ _ _ (joined t body w b k from to p s o split l f j g) n x = absurd (cc)
text_end total _ _ _ (unspelled c t r from p s u f) n x = absurd (cc)
