use Rattle.std.proofs.Common.{◌≡◌, length}
use Rattle.pj_classfile.specs.ModifiedUtf8.{units_of}
use Rattle.pj_classfile.proofs.Units.{all_in_front}
use Rattle.pj_classfile.proofs.modified_utf8.units_of.Given as goal

abbrev pub invariant-loop-rest : goal.invariant-loop-rest
invariant-loop-rest l = all_in_front l.units.items (units_of l.rest) ≡ units_of l.bytes

abbrev pub decreases-loop-rest : goal.decreases-loop-rest
decreases-loop-rest l = length l.rest
