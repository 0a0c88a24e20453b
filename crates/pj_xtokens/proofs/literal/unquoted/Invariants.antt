use Rattle.std.proofs.Common.{◌≡◌, ◌++◌, false, length, string_bytes}
use Rattle.std.specs.Str.{encode_utf8_all}
use Rattle.pj_xtokens.specs.Literals.{unquoted}
use Rattle.pj_xtokens.proofs.literal.unquoted.Given as goal

abbrev pub invariant-content : goal.invariant-content
invariant-content l = string_bytes l.made ++ encode_utf8_all (unquoted l.mark l.half l.rest) ≡ encode_utf8_all (unquoted l.mark false l.content)

abbrev pub decreases-content : goal.decreases-content
decreases-content l = length l.rest
