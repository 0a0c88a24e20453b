-- The patterns in which the grammar of tokens is written: those over its sets of characters.
use Rattle.std.specs.Prelude.{ℕ, List}
use Rattle.pj_patterns.specs.Pattern as patterns
pub use Rattle.pj_patterns.specs.Pattern.{Nothing, Empty, One, Then, Either, Many, Repeats, none, more, sequence, choice, maybe, some}
use Rattle.pj_xtokens.specs.Characters.{CharSet, The, holds}

abbrev pub Pattern : Type 0
Pattern = patterns.Pattern CharSet

-- the pattern matches the word
abbrev pub Matches : Pattern → List ℕ → Type 0
Matches p w = patterns.Matches holds p w

-- the one character with this code
abbrev pub character : ℕ → Pattern
character n = patterns.One (The n)

-- the one word
abbrev pub word : List ℕ → Pattern
word cs = patterns.word_by The cs
