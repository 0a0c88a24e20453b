-- JLS 3.7: comments.
use Rattle.std.specs.Prelude.{[], ◌∷◌}
use Rattle.pj_lex.specs.Characters.{InputCharacter, NotStar, NotStarNotSlash}
use Rattle.pj_lex.specs.Pattern.{Pattern, One, Then, Many, sequence, choice, some, character}

abbrev pub star : Pattern
star = character 42

abbrev pub slash : Pattern
slash = character 47

-- EndOfLineComment
abbrev pub line_comment : Pattern
line_comment = sequence (slash ∷ slash ∷ Many (One InputCharacter) ∷ [])

-- the opening of a TraditionalComment
abbrev pub comment_opening : Pattern
comment_opening = sequence (slash ∷ star ∷ [])

-- TraditionalComment: no * inside it is followed by /
abbrev pub traditional_comment : Pattern
traditional_comment = sequence (
    slash
    ∷ star
    ∷ Many (choice (One NotStar ∷ Then (some star) (One NotStarNotSlash) ∷ []))
    ∷ some star
    ∷ slash
    ∷ [])
