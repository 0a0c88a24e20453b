-- A text has no more tokens than characters.
use Rattle.std.proofs.Common.{◌≡◌, ◌<◌, ◌≤◌, ℕ, List, ◌++◌, length, ap, arith, length-append}
use Rattle.pj_xtokens.specs.Gaps.{Past}
use Rattle.pj_xtokens.specs.Rules.{Spells}
use Rattle.pj_xtokens.specs.Scanning.{IsBehind}
use Rattle.pj_xtokens.specs.Tokens.{Lexed, Tokens, ended, token, joined, unspelled}
use Rattle.pj_xtokens.specs.declared.token.End.{End}
use Rattle.pj_xtokens.specs.declared.token.TokenKind.{TokenKind}

module _ (full : (kind : TokenKind) (word : List ℕ) → Spells kind word → 0 < length word) (in_front : (text body : List ℕ) → Past text body → IsBehind body text) where
  -- what stands behind a token is shorter
  shorter : (text body word behind : List ℕ) (kind : TokenKind) → Past text body → body ≡ word ++ behind → Spells kind word → length behind < length text
  shorter text body word behind kind past split spells =
      let gap = in_front text body past in
      let whole : length text ≡ length (gap.0 ++ body) = ap length gap.1 in
      let parts : length body ≡ length (word ++ behind) = ap length split in
      omega (arith, whole, parts, length-append gap.0 body, length-append word behind, full kind word spells)

  pub few_tokens : {total : ℕ} {text : List ℕ} {tokens : List Lexed} {end : End} → Tokens total text tokens end → length tokens ≤ length text
  few_tokens (ended text past) = omega arith
  few_tokens (token text body w behind k from more e past solid not_open split longest at apart rest) =
      let less = shorter text body w behind k past split longest.spells in let so_far = few_tokens rest in omega (arith, less, so_far)
  few_tokens (joined text body w behind k from to past solid not_open split longest at close_by there) =
      let less = shorter text body w behind k past split longest.spells in omega (arith, less)
  few_tokens (unspelled c text rest from past solid none at) = omega arith
