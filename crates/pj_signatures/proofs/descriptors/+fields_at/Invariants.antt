use Rattle.std.proofs.Common.{◌*◌, ◌+◌}
use Rattle.pj_signatures.proofs.descriptors.+fields_at.Given as goal

abbrev pub decreases-field_at : goal.decreases-field_at
decreases-field_at l = l.dimensions * 2 + 1

abbrev pub decreases-array_at : goal.decreases-array_at
decreases-array_at l = l.dimensions * 2
