-- The tokens of a text.
use Rattle.std.specs.Prelude.{ℕ, ◌≡◌, ◌≤◌, ◌+◌, IsTrue, IsFalse, List, [], ◌∷◌, ◌++◌, length, Ok, Err}
use Rattle.std.specs.List.{list_all}
use Rattle.pj_lex.specs.Size.{size}
use Rattle.pj_lex.specs.Characters.{is_white}
use Rattle.pj_lex.specs.Rules.{Outcome, Spells}
use Rattle.pj_lex.specs.declared.token.TokenKind.{TokenKind}

-- JLS 3.6: what can stand between tokens
abbrev pub IsGap : List ℕ → Type 0
IsGap cs = IsTrue (list_all is_white cs)

-- no prefix of the text that spells something is longer than n characters
abbrev pub NoneLonger : List ℕ → ℕ → Type 0
NoneLonger text n = (l : Outcome) (w behind : List ℕ) → text ≡ w ++ behind → Spells behind l w → length w ≤ n

-- what the text begins with, and what stands behind it: the longest prefix that spells something, or fault 1
pub data Begins (text : List ℕ) (l : Outcome) (behind : List ℕ) : Type 0 where
  longest : (w : List ℕ) → text ≡ w ++ behind → Spells behind l w → NoneLonger text (length w) → Begins text l behind
  nothing : ((j : Outcome) (w t : List ℕ) → text ≡ w ++ t → Spells t j w → ⊥) → l ≡ Err 1 → Begins text l behind

-- a token's kind, its text and its span in bytes; or the kind of a fault and where it stands
pub record Lexed : Type 0 where
  pub what : Outcome
  pub text : List ℕ
  pub from : ℕ
  pub to : ℕ

-- the text and span of what is lexed: a token's, or none at a fault
abbrev pub token_of : TokenKind → List ℕ → ℕ → Lexed
token_of k w from = record { what = Ok k; text = w; from = from; to = from + size w }

abbrev pub fault_of : ℕ → ℕ → Lexed
fault_of f from = record { what = Err f; text = []; from = from; to = from }

-- the tokens of the text that begins at this offset, up to the first fault; JLS 3.6: between tokens stands white space
pub data Tokens : ℕ → List ℕ → List Lexed → Type 0 where
  ended : (at : ℕ) (text : List ℕ) → IsGap text → Tokens at text []
  token : (at : ℕ) (text gap w behind : List ℕ) (k : TokenKind) (more : List Lexed) →
      text ≡ gap ++ (w ++ behind) → IsGap gap → Begins (w ++ behind) (Ok k) behind →
      Tokens (at + size (gap ++ w)) behind more →
      Tokens at text (token_of k w (at + size gap) ∷ more)
  fault : (at : ℕ) (text gap behind rest : List ℕ) (c f : ℕ) →
      text ≡ gap ++ (c ∷ rest) → IsGap gap → IsFalse (is_white c) → Begins (c ∷ rest) (Err f) behind →
      Tokens at text (fault_of f (at + size gap) ∷ [])

-- where a lexer stands: the offset in bytes, and the text that is left
pub record Position : Type 0 where
  pub at : ℕ
  pub text : List ℕ

abbrev pub position : ℕ → List ℕ → Position
position n cs = record { at = n; text = cs }

-- from one position to the next this was taken: white space, and then the token's text, which stands at its span
pub record Took (old new : Position) (l : Lexed) : Type 0 where
  pub gap : List ℕ
  pub split : old.text ≡ gap ++ (l.text ++ new.text)
  pub white : IsGap gap
  pub from_is : l.from ≡ old.at + size gap
  pub to_is : l.to ≡ l.from + size l.text
  pub next_is : new.at ≡ l.to

-- the text of what is lexed is the slice of the whole text at its span, in bytes; of a fault it is an empty one
abbrev pub IsSlice : List ℕ → Lexed → Type 0
IsSlice whole l = (before : List ℕ) × ((after : List ℕ) × (whole ≡ before ++ (l.text ++ after)) × (l.from ≡ size before) × (l.to ≡ l.from + size l.text))

abbrev pub AreSlices : List ℕ → List Lexed → Type 0
AreSlices whole [] = Unit {0}
AreSlices whole (l ∷ ls) = IsSlice whole l × AreSlices whole ls

-- a fault is of a kind from 1 to 5
abbrev pub HasKind : Outcome → Type 0
HasKind (Ok k) = Unit {0}
HasKind (Err f) = (1 ≤ f) × (f ≤ 5)

abbrev pub HaveKinds : List Lexed → Type 0
HaveKinds [] = Unit {0}
HaveKinds (l ∷ ls) = HasKind l.what × HaveKinds ls
