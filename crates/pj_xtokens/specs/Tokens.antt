-- The tokens of a text.
use Rattle.std.specs.Prelude.{ℕ, ◌≡◌, ◌≤◌, ◌+◌, ◌⊎◌, Bool, true, false, ◌&&◌, IsTrue, IsFalse, List, [], ◌∷◌, ◌++◌, length}
use Rattle.pj_xtokens.specs.Size.{size}
use Rattle.pj_xtokens.specs.Characters.{starts_name, heads}
use Rattle.pj_xtokens.specs.Gaps.{Past, IsSolid, opens}
use Rattle.pj_xtokens.specs.Rules.{Spells}
use Rattle.pj_xtokens.specs.declared.token.TokenKind.{TokenKind}
use Rattle.pj_xtokens.specs.declared.token.TokenKind.TheVariants as t
use Rattle.pj_xtokens.specs.declared.token.End.{End}
use Rattle.pj_xtokens.specs.declared.token.End.TheVariants as ends

-- XPath 2.0, A.2: a token is the longest prefix of the text that spells one
pub record IsLongest (text : List ℕ) (k : TokenKind) (w : List ℕ) : Type 0 where
  pub spells : Spells k w
  pub none_longer : (j : TokenKind) (v behind : List ℕ) → text ≡ v ++ behind → Spells j v → length v ≤ length w

-- no prefix spells a token
abbrev pub IsUnspelled : List ℕ → Type 0
IsUnspelled text = (j : TokenKind) (v behind : List ℕ) → text ≡ v ++ behind → Spells j v → ⊥

abbrev pub is_number : TokenKind → Bool
is_number t.Name = false
is_number t.Integer = true
is_number t.Decimal = true
is_number t.Double = true
is_number t.String = false
is_number (t.Sign s) = false

-- XPath 2.0, A.2.2: a name may not follow a number with nothing between them
abbrev pub is_joined : TokenKind → List ℕ → Bool
is_joined k behind = is_number k && heads starts_name behind

-- a token: its kind, its characters and the offset in bytes at which it begins
pub record Lexed : Type 0 where
  pub kind : TokenKind
  pub text : List ℕ
  pub from : ℕ

abbrev pub lexed : TokenKind → List ℕ → ℕ → Lexed
lexed k w from = record { kind = k; text = w; from = from }

-- `Tokens total text ts e`: of a text of `total` bytes this is left, and its tokens are these, up to its end or up to the first place where no token
-- begins. A place is known by what is left of the text there: its offset and the bytes from there on are the whole. A comment that does not end is no
-- token, also where its ( could be one.
pub data Tokens (total : ℕ) : List ℕ → List Lexed → End → Type 0 where
  ended : (text : List ℕ) → Past text [] → Tokens total text [] (ends.Text total)
  token : (text body w behind : List ℕ) (k : TokenKind) (from : ℕ) (more : List Lexed) (e : End) →
      Past text body → IsSolid body → IsFalse (opens body) → body ≡ w ++ behind → IsLongest body k w → from + size body ≡ total →
      IsFalse (is_joined k behind) → Tokens total behind more e →
      Tokens total text (lexed k w from ∷ more) e
  joined : (text body w behind : List ℕ) (k : TokenKind) (from to : ℕ) →
      Past text body → IsSolid body → IsFalse (opens body) → body ≡ w ++ behind → IsLongest body k w → from + size body ≡ total →
      IsTrue (is_joined k behind) → to + size behind ≡ total →
      Tokens total text (lexed k w from ∷ []) (ends.Fault to)
  unspelled : (c : ℕ) (text rest : List ℕ) (from : ℕ) →
      Past text (c ∷ rest) → IsSolid (c ∷ rest) → IsTrue (opens (c ∷ rest)) ⊎ IsUnspelled (c ∷ rest) → from + size (c ∷ rest) ≡ total →
      Tokens total text [] (ends.Fault from)

-- the text of each token is the slice of the whole text that begins at its offset
abbrev pub IsSlice : List ℕ → Lexed → Type 0
IsSlice whole l = (before : List ℕ) × ((after : List ℕ) × (whole ≡ before ++ (l.text ++ after)) × (l.from ≡ size before))

abbrev pub AreSlices : List ℕ → List Lexed → Type 0
AreSlices whole [] = Unit {0}
AreSlices whole (l ∷ ls) = IsSlice whole l × AreSlices whole ls
