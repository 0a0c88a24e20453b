use Rattle.std.proofs.Common.{◌≡◌, drop}
use Rattle.pj_names.specs.ClassName.{is_class_name}
use Rattle.pj_names.proofs.Parts.{spells_from}
use Rattle.pj_names.proofs.class_name.spells_class_name.Given as goal

abbrev pub invariant-loop-byte : goal.invariant-loop-byte
invariant-loop-byte l = is_class_name l.text ≡ spells_from l.begun (drop l.byte-index l.byte-items)
