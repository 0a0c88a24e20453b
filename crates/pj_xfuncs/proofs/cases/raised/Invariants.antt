use Rattle.std.proofs.Common.{◌≡◌, ◌++◌, length, map, string_bytes}
use Rattle.std.specs.Char.{to_ascii_uppercase}
use Rattle.std.specs.Str.{encode_utf8_all}
use Rattle.pj_xfuncs.proofs.cases.raised.Given as goal

abbrev pub invariant-content : goal.invariant-content
invariant-content l = string_bytes l.changed ++ encode_utf8_all (map to_ascii_uppercase l.rest) ≡ encode_utf8_all (map to_ascii_uppercase l.characters)

abbrev pub decreases-content : goal.decreases-content
decreases-content l = length l.rest
