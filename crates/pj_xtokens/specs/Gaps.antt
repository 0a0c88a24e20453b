-- White space and comments between tokens.
use Rattle.std.specs.Prelude.{ℕ, suc, zero, ◌≡◌, Bool, false, ◌==◌, ◌&&◌, IsTrue, IsFalse, List, [], ◌∷◌}
use Rattle.pj_xtokens.specs.Characters.{is_white, heads}

-- the text begins with these two characters
abbrev pub begins_with : ℕ → ℕ → List ℕ → Bool
begins_with a b [] = false
begins_with a b (c ∷ cs) = (c == a) && heads (λ d. d == b) cs

-- XPath 2.0, 2.6: a comment begins with (: and ends with :)
abbrev pub opens : List ℕ → Bool
opens text = begins_with 40 58 text

abbrev pub closes : List ℕ → Bool
closes text = begins_with 58 41 text

-- `Comment n text behind`: the text goes on inside a comment, around which n more are open, and `behind` stands behind the outermost one. It is read from
-- left to right: comments nest, and each (: opens one and each :) closes the innermost.
pub data Comment : ℕ → List ℕ → List ℕ → Type 0 where
  ended : (text behind : List ℕ) → text ≡ 58 ∷ 41 ∷ behind → Comment zero text behind
  closed : (n : ℕ) (text rest behind : List ℕ) → text ≡ 58 ∷ 41 ∷ rest → Comment n rest behind → Comment (suc n) text behind
  opened : (n : ℕ) (text rest behind : List ℕ) → text ≡ 40 ∷ 58 ∷ rest → Comment (suc n) rest behind → Comment n text behind
  other : (n c : ℕ) (text rest behind : List ℕ) → text ≡ c ∷ rest → IsFalse (opens text) → IsFalse (closes text) → Comment n rest behind → Comment n text behind

-- `Past text body`: before the body stands nothing but white space and comments, which XPath 2.0, A.2.4.1, allows before each token and at the end
pub data Past : List ℕ → List ℕ → Type 0 where
  here : (text body : List ℕ) → text ≡ body → Past text body
  white : (c : ℕ) (text rest body : List ℕ) → text ≡ c ∷ rest → IsTrue (is_white c) → Past rest body → Past text body
  comment : (text inside rest body : List ℕ) → text ≡ 40 ∷ 58 ∷ inside → Comment zero inside rest → Past rest body → Past text body

-- the text begins neither with white space nor with a comment that ends
pub record IsSolid (text : List ℕ) : Type 0 where
  pub not_white : IsFalse (heads is_white text)
  pub no_comment : (inside behind : List ℕ) → text ≡ 40 ∷ 58 ∷ inside → Comment zero inside behind → ⊥
