-- The lines of a Java file on which comments suppress findings, as `pj_suppress` has them of the tokens of the program.
use Rattle.std.specs.Prelude.{ℕ, Bool, ◌==◌, ◌&&◌, codes, nat_eq, slice_index_or}
use Rattle.std.specs.List.{list_any, starts_with}
use Rattle.std.specs.Str.{encode_utf8_all}
use Rattle.pj_grammar.specs.Words.{TokenSeen}
use Rattle.pj_source.specs.SourceText.{SourceText}
use Rattle.pj_parse.specs.JavaFile.{JavaFile}
use Rattle.pj_suppress.specs.Marks.{is_comment}
use Rattle.pj_suppress.specs.Words.{Text, contains}
use Rattle.pj_tree.specs.Places.{first_place}

-- a comment to the end of its line, with the marker in it
abbrev pub is_mark : Text → TokenSeen → Bool
is_mark marker token = is_comment token.kind
    && (starts_with nat_eq (encode_utf8_all token.text) (codes "//") && contains marker (encode_utf8_all token.text))

-- the line on which a token begins, in the file as it is
abbrev pub line_of : SourceText → TokenSeen → ℕ
line_of source token = (slice_index_or source.places token.span.from first_place).line

-- whether such a comment begins on the line
abbrev pub is_marked : JavaFile → Text → ℕ → Bool
is_marked file marker line = list_any (λ token. is_mark marker token && (line_of file.source token == line)) file.tokens
