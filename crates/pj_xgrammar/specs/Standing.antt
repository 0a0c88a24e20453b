-- What a fault of tokens goes by beside what is read of them: which of them the language leaves out wherever they stand, and where white space or a
-- comment stands between two.
use Rattle.std.specs.Prelude.{ℕ, zero, suc, ◌+◌, Bool, true, false, nat_lt, List, Option, Some, None, slice_get}
use Rattle.pj_xtokens.specs.Size.{size}
use Rattle.pj_xtokens.specs.Tokens.{Lexed}
use Rattle.pj_xtokens.specs.declared.token.TokenKind.{TokenKind}
use Rattle.pj_xtokens.specs.declared.token.TokenKind.TheVariants as kind

-- decimal and double numbers
abbrev pub is_left_out_kind : TokenKind → Bool
is_left_out_kind kind.Decimal = true
is_left_out_kind kind.Double = true
is_left_out_kind _ = false

-- whether the token, if there is one, is such a number
abbrev pub is_left_out_token : Option Lexed → Bool
is_left_out_token None = false
is_left_out_token (Some x) = is_left_out_kind x.kind

-- whether white space or comments stand between the two, where both are there
abbrev pub are_apart : Option Lexed → Option Lexed → Bool
are_apart before None = false
are_apart None (Some y) = false
are_apart (Some x) (Some y) = nat_lt (x.from + size x.text) y.from

-- whether they stand before the token at the place, behind another one
abbrev pub stands_apart : List Lexed → ℕ → Bool
stands_apart tokens zero = false
stands_apart tokens (suc i) = are_apart (slice_get tokens i) (slice_get tokens (suc i))
