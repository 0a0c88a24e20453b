use Rattle.std.proofs.Common.{◌≡◌, ◌++◌, length, string_bytes}
use Rattle.std.specs.Str.{encode_utf8_all}
use Rattle.pj_literals.specs.Escapes.{interpreted}
use Rattle.pj_literals.proofs.escape.interpreted.Given as goal

abbrev pub invariant-loop-front : goal.invariant-loop-front
invariant-loop-front l = string_bytes l.made ++ encode_utf8_all (interpreted l.rest) ≡ encode_utf8_all (interpreted l.content)

abbrev pub decreases-loop-front : goal.decreases-loop-front
decreases-loop-front l = length l.rest
