use Rattle.std.proofs.Common.{refl}
use Rattle.pj_signature_patterns.specs.Reading.{pattern_in}
use Rattle.pj_signature_patterns.proofs.Exact.{is_read, patterns_one}
use Rattle.pj_signature_patterns.proofs.laws.patterns_are_one.Goals as goal

pub returns : goal.returns
returns c = record { one = patterns_one; readings = λ text. is_read text (pattern_in text) refl }
