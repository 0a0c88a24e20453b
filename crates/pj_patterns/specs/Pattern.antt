-- Regular patterns, in which grammars of tokens are written, and the words that they match. A character is a number, its code point; a grammar
-- names its own sets of characters.
use Rattle.std.specs.Prelude.{ℕ, ◌≡◌, ◌⊎◌, Bool, IsTrue, List, [], ◌∷◌, ◌++◌}

pub data Pattern (Set : Type 0) : Type 0 where
  -- no word
  Nothing : Pattern Set
  -- the empty word
  Empty : Pattern Set
  -- one character of the set
  One : Set → Pattern Set
  -- one behind the other
  Then : Pattern Set → Pattern Set → Pattern Set
  Either : Pattern Set → Pattern Set → Pattern Set
  -- any number of times, none included
  Many : Pattern Set → Pattern Set

-- words of P, any number of them, one behind the other
pub data Repeats (P : List ℕ → Type 0) : List ℕ → Type 0 where
  none : (w : List ℕ) → w ≡ [] → Repeats P w
  more : (w u v : List ℕ) → w ≡ u ++ v → P u → Repeats P v → Repeats P w

-- the pattern matches the word, where the test tells whether a set holds a character
abbrev pub Matches : {Set : Type 0} → (Set → ℕ → Bool) → Pattern Set → List ℕ → Type 0
Matches holds Nothing w = ⊥
Matches holds Empty w = w ≡ []
Matches holds (One s) w = (c : ℕ) × (w ≡ c ∷ []) × IsTrue (holds s c)
Matches holds (Then p q) w = (u : List ℕ) × ((v : List ℕ) × (w ≡ u ++ v) × Matches holds p u × Matches holds q v)
Matches holds (Either p q) w = Matches holds p w ⊎ Matches holds q w
Matches holds (Many p) w = Repeats (Matches holds p) w

-- these, one behind the other
abbrev pub sequence : {Set : Type 0} → List (Pattern Set) → Pattern Set
sequence [] = Empty
sequence (p ∷ []) = p
sequence (p ∷ q ∷ ps) = Then p (sequence (q ∷ ps))

-- one of these
abbrev pub choice : {Set : Type 0} → List (Pattern Set) → Pattern Set
choice [] = Nothing
choice (p ∷ []) = p
choice (p ∷ q ∷ ps) = Either p (choice (q ∷ ps))

-- once or not at all
abbrev pub maybe : {Set : Type 0} → Pattern Set → Pattern Set
maybe p = Either p Empty

-- once or more often
abbrev pub some : {Set : Type 0} → Pattern Set → Pattern Set
some p = Then p (Many p)

-- the one word, where each character is the one of a set
abbrev pub word_by : {Set : Type 0} → (ℕ → Set) → List ℕ → Pattern Set
word_by the [] = Empty
word_by the (c ∷ []) = One (the c)
word_by the (c ∷ d ∷ cs) = Then (One (the c)) (word_by the (d ∷ cs))
