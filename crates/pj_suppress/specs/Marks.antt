-- The lines on which comments suppress findings.
use Rattle.std.specs.Prelude.{ℕ, Bool, ◌==◌, ◌&&◌, List, codes, nat_eq, slice_index_or}
use Rattle.std.specs.List.{list_any, starts_with}
use denote.Enum.Declared.{tag_of}
use Rattle.pj_source.specs.SourceText.{SourceText}
use Rattle.pj_lex.specs.contracts.token.TokenKind as kinds
use Rattle.pj_lex.specs.declared.token.Token.{Token}
use Rattle.pj_lex.specs.declared.token.TokenKind.{TokenKind}
use Rattle.pj_lex.specs.declared.token.TokenKind.TheVariants as kind
use Rattle.pj_tree.specs.Places.{first_place}
use Rattle.pj_suppress.specs.Words.{Text, contains}

-- whether a token is a comment
abbrev pub is_comment : TokenKind → Bool
is_comment given = tag_of kinds.the_type given == tag_of kinds.the_type kind.Comment

-- a comment to the end of its line, with the marker in it
abbrev pub is_mark : Text → Token → Bool
is_mark marker token = is_comment token.kind
    && (starts_with nat_eq token.text.now (codes "//") && contains marker token.text.now)

-- the line on which a token begins, in the file as it is
abbrev pub line_of : SourceText → Token → ℕ
line_of source token = (slice_index_or source.places token.span.from first_place).line

-- whether such a comment begins on the line
abbrev pub is_marked : SourceText → List Token → Text → ℕ → Bool
is_marked source tokens marker line = list_any (λ token. is_mark marker token && (line_of source token == line)) tokens
