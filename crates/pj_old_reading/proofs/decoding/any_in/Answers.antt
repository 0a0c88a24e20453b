use Rattle.std.proofs.Common.{ap, sym, ◌∙◌}
use Rattle.pj_old_reading.specs.Spelled.{version_in}
use Rattle.pj_old_reading.proofs.AnyDecoded.{long_of, short_of}
use Rattle.pj_old_reading.proofs.decoding.any_in.Goals as goal

pub version_of-version-requires : goal.version_of-version-requires
version_of-version-requires c = long_of c.args.bytes.now c.args.content.now c.requires.is_sealed c.requires.content

pub first_in-requires-clause-small : goal.first_in-requires-clause-small
first_in-requires-clause-small c = short_of c.args.bytes.now c.args.content.now 4294967294 c.requires.content c.requires.small

pub first_in-requires-clause-version : goal.first_in-requires-clause-version
first_in-requires-clause-version c = sym c.version_of-version.ensures ∙ c.if-version-eq1.true

pub second_in-requires-clause-version : goal.second_in-requires-clause-version
second_in-requires-clause-version c = λ one. c.if-version-eq1.false (c.version_of-version.ensures ∙ ap version_in c.requires.content ∙ one)
