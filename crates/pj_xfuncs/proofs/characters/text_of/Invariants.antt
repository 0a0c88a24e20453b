use Rattle.std.proofs.Common.{◌≡◌, ◌++◌, length, string_bytes}
use Rattle.std.specs.Str.{encode_utf8_all}
use Rattle.pj_xfuncs.proofs.characters.text_of.Given as goal

abbrev pub invariant-content : goal.invariant-content
invariant-content l = string_bytes l.text ++ encode_utf8_all l.rest ≡ encode_utf8_all l.characters

abbrev pub decreases-content : goal.decreases-content
decreases-content l = length l.rest
