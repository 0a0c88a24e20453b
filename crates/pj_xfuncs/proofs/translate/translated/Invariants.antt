use Rattle.std.proofs.Common.{◌≡◌, ◌++◌, length, string_bytes}
use Rattle.std.specs.List.{flat_map}
use Rattle.std.specs.Str.{encode_utf8_all}
use Rattle.pj_xfuncs.specs.Strings.{other_of}
use Rattle.pj_xfuncs.proofs.translate.translated.Given as goal

abbrev pub invariant-content : goal.invariant-content
invariant-content l = string_bytes l.changed ++ encode_utf8_all (flat_map (other_of l.from l.to) l.rest) ≡ encode_utf8_all (flat_map (other_of l.from l.to) l.characters)

abbrev pub decreases-content : goal.decreases-content
decreases-content l = length l.rest
