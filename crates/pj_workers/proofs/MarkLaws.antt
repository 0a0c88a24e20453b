-- The lines that are marked, by the tokens of the program.
use Rattle.std.proofs.Common.{◌≡◌, ◌∙◌, ◌==◌, ◌&&◌, ◌||◌, ℕ, List, [], ◌∷◌, ap, map, nat_eq, refl}
use Rattle.std.specs.Prelude.{codes}
use Rattle.std.specs.List.{AllByRecursion, list_any, starts_with}
use Rattle.std.specs.Str.{IsUtf8}
use Rattle.std.proofs.lemmas.Str.{encodes-chars}
use Rattle.pj_grammar.specs.Words.{TokenSeen, seen}
use Rattle.pj_source.specs.SourceText.{SourceText}
use Rattle.pj_lex.specs.declared.token.Token.{Token}
use Rattle.pj_parse.specs.JavaFile.{JavaFile}
use Rattle.pj_suppress.specs.Marks as marks
use Rattle.pj_suppress.specs.Words.{Text, contains}
use Rattle.pj_workers.specs.Marked.{is_mark, is_marked, line_of}

mark_same : (marker : Text) (token : Token) → IsUtf8 token.text.now → is_mark marker (seen token) ≡ marks.is_mark marker token
mark_same marker token utf8 = ap (λ text. marks.is_comment token.kind && (starts_with nat_eq text (codes "//") && contains marker text)) (encodes-chars token.text.now utf8)

by_tokens : (source : SourceText) (tokens : List Token) (marker : Text) (line : ℕ) → AllByRecursion (λ (token : Token). IsUtf8 token.text.now) tokens
    → list_any (λ (token : TokenSeen). is_mark marker token && (line_of source token == line)) (map seen tokens) ≡ marks.is_marked source tokens marker line
by_tokens source [] marker line utf8 = refl
by_tokens source (token ∷ tokens) marker line utf8 = λ i. (mark_same marker token utf8.0 i && (line_of source (seen token) == line)) || by_tokens source tokens marker line utf8.1 i

pub marks_are_one : (file : JavaFile) (tokens : List Token) (marker : Text) (line : ℕ) → file.tokens ≡ map seen tokens → AllByRecursion (λ (token : Token). IsUtf8 token.text.now) tokens
    → is_marked file marker line ≡ marks.is_marked file.source tokens marker line
marks_are_one file tokens marker line are utf8 =
    ap (λ l. list_any (λ (token : TokenSeen). is_mark marker token && (line_of file.source token == line)) l) are ∙ by_tokens file.source tokens marker line utf8
