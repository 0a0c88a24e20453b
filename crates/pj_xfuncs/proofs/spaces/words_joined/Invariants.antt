use Rattle.std.proofs.Common.{◌≡◌, ◌++◌, length, string_bytes}
use Rattle.std.specs.Str.{encode_utf8_all}
use Rattle.pj_xfuncs.specs.declared.spaces.Between.TheVariants.{Start}
use Rattle.pj_xfuncs.specs.Spaces.{joined_from}
use Rattle.pj_xfuncs.proofs.spaces.words_joined.Given as goal

abbrev pub invariant-content : goal.invariant-content
invariant-content l = string_bytes l.joined ++ encode_utf8_all (joined_from l.state l.rest) ≡ encode_utf8_all (joined_from Start l.characters)

abbrev pub decreases-content : goal.decreases-content
decreases-content l = length l.rest
