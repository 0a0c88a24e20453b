-- What a token of the code says.
use Rattle.std.specs.Str.{chars}
use Rattle.pj_xtokens.specs.Tokens.{Lexed}
use Rattle.pj_xtokens.specs.declared.token.Token.{Token}

abbrev pub lexed_of : Token → Lexed
lexed_of t = record { kind = t.kind; text = chars t.text.now; from = t.from }
