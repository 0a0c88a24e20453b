-- The offsets of the tokens of a text ascend.
use Rattle.std.proofs.Common.{◌≡◌, ℕ, zero, suc, ◌+◌, ◌*◌, ◌<◌, ◌≤◌, List, [], ◌∷◌, ◌++◌, length, drop, refl, ap, ◌∙◌, arith}
use Rattle.std.specs.Prelude.{⊤}
use Rattle.std.proofs.lemmas.Str.{length-le-encodes}
use Rattle.pj_xtokens.specs.Gaps.{Past}
use Rattle.pj_xtokens.specs.Rules.{Spells}
use Rattle.pj_xtokens.specs.Scanning.{IsBehind}
use Rattle.pj_xtokens.specs.Size.{size}
use Rattle.pj_xtokens.specs.Tokens.{IsLongest, Lexed, Tokens, ended, token, joined, unspelled}
use Rattle.pj_xtokens.specs.declared.token.TokenKind.{TokenKind}
use Rattle.pj_xtokens.specs.declared.token.End.{End}
use Rattle.pj_xsyntax_laws.proofs.Sizes.{size-append}
use Rattle.pj_xsyntax_laws.specs.Order.{offset_of_end, offset_at}

-- twice the offset of the first token, or of the end
abbrev pub at : ℕ → List Lexed → ℕ
at end [] = 2 * end
at end (x ∷ xs) = 2 * x.from

-- each token begins before the next one, and before the end
abbrev pub AreAscending : ℕ → List Lexed → Type 0
AreAscending end [] = ⊤
AreAscending end (x ∷ xs) = (2 * x.from + 2 ≤ at end xs) × AreAscending end xs

-- what stands behind a gap is an end of the text
abbrev pub GapsStandInFront : Type 0
GapsStandInFront = (text body : List ℕ) → Past text body → IsBehind body text

-- each token has a character
abbrev pub TokensAreNotEmpty : Type 0
TokensAreNotEmpty = (kind : TokenKind) (word : List ℕ) → Spells kind word → 0 < length word

-- the tokens, and the first one behind so much of the text
record Ascending (total : ℕ) (text : List ℕ) (ts : List Lexed) (e : End) : Type 0 where
  each : AreAscending (offset_of_end e) ts
  first : 2 * total ≤ at (offset_of_end e) ts + 2 * size text

module _ (past_behind : GapsStandInFront) (not_empty : TokensAreNotEmpty) where
  past_size : (text body : List ℕ) → Past text body → size body ≤ size text
  past_size text body p =
      let (w, is) = past_behind text body p in
      let e : size text ≡ size w + size body = ap size is ∙ size-append w body in
      omega arith

  -- the token has a byte
  word_size : (body w behind : List ℕ) (k : TokenKind) → body ≡ w ++ behind → IsLongest body k w → size behind + 1 ≤ size body
  word_size body w behind k is longest =
      let e : size body ≡ size w + size behind = ap size is ∙ size-append w behind in
      let some = not_empty k w longest.spells in
      let le : length w ≤ size w = length-le-encodes w in
      omega arith

  ascending : (total : ℕ) (text : List ℕ) (ts : List Lexed) (e : End) → Tokens total text ts e → Ascending total text ts e
  ascending total _ _ _ (ended text p) = record { each = tt; first = omega arith }
  ascending total _ _ _ (token text body w behind k from more e p solid plain split longest offset apart rest) =
      let r = ascending total behind more e rest in
      let gap = past_size text body p in
      let one = word_size body w behind k split longest in
      let first = r.first in
      record { each = (omega arith, r.each); first = omega arith }
  ascending total _ _ _ (joined text body w behind k from to p solid plain split longest offset together end) =
      let gap = past_size text body p in
      let one = word_size body w behind k split longest in
      record { each = (omega arith, tt); first = omega arith }
  ascending total _ _ _ (unspelled c text rest from p solid none offset) =
      let gap = past_size text (c ∷ rest) p in
      record { each = tt; first = omega arith }

  pub tokens_ascend : (total : ℕ) (text : List ℕ) (ts : List Lexed) (e : End) → Tokens total text ts e → AreAscending (offset_of_end e) ts
  tokens_ascend total text ts e t = (ascending total text ts e t).each

-- ---- places

pub at_place : (e : End) (ts : List Lexed) (k : ℕ) → at (offset_of_end e) (drop k ts) ≡ 2 * offset_at ts e k
at_place e [] zero = refl
at_place e [] (suc k) = refl
at_place e (x ∷ ts) zero = refl
at_place e (x ∷ ts) (suc k) = at_place e ts k

first_below : (end : ℕ) (ts : List Lexed) (k : ℕ) → AreAscending end ts → at end ts ≤ at end (drop k ts)
first_below end ts zero a = omega arith
first_below end [] (suc k) a = omega arith
first_below end (x ∷ ts) (suc k) (lt, a) = let le = first_below end ts k a in omega arith

pub places_ascend : (end : ℕ) (ts : List Lexed) (j k : ℕ) → AreAscending end ts → j ≤ k → at end (drop j ts) ≤ at end (drop k ts)
places_ascend end ts zero k a le = first_below end ts k a
places_ascend end ts (suc j) zero a le = absurd (omega arith)
places_ascend end [] (suc j) (suc k) a le = omega arith
places_ascend end (x ∷ ts) (suc j) (suc k) (lt, a) le = places_ascend end ts j k a (omega arith)
