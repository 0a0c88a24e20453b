-- What an answer of the lexer says.
use Rattle.std.specs.Prelude.{Result, Ok, Err, []}
use Rattle.std.specs.Str.{chars}
use Rattle.pj_lex.specs.Tokens.{Lexed}
use Rattle.pj_lex.specs.declared.token.Token.{Token}
use Rattle.pj_lex.specs.declared.token.LexFault.{LexFault}

abbrev pub lexed : Result Token LexFault → Lexed
lexed (Ok t) = record { what = Ok t.kind; text = chars t.text.now; from = t.span.from; to = t.span.to }
lexed (Err f) = record { what = Err f.kind; text = []; from = f.offset; to = f.offset }
