-- Words of a text, character by character.
use Rattle.std.specs.Prelude.{ℕ, [], ◌∷◌, if◌then◌else◌}
use Rattle.pj_xfuncs.specs.declared.spaces.Between.{Between}
use Rattle.pj_xfuncs.specs.declared.spaces.Between.TheVariants.{Start, Word, Spaces}
use Rattle.pj_xfuncs.specs.Strings.{Characters, is_space}

-- what stands between words behind white space
abbrev pub behind_space : Between → Between
behind_space Start = Start
behind_space Word = Spaces
behind_space Spaces = Spaces

-- a character of a word, behind the space before the word
abbrev pub with_space : Between → ℕ → Characters → Characters
with_space Start c rest = c ∷ rest
with_space Word c rest = c ∷ rest
with_space Spaces c rest = 32 ∷ c ∷ rest

-- the words of what is left, joined
abbrev pub joined_from : Between → Characters → Characters
joined_from state [] = []
joined_from state (c ∷ cs) = if is_space c then joined_from (behind_space state) cs else with_space state c (joined_from Word cs)
