use Rattle.std.proofs.Common.{◌≡◌, ◌++◌, cond, drop}
use Rattle.pj_written.specs.Names.{further_parts, with_dots}
use Rattle.pj_written.proofs.names.with_dots.Given as goal

abbrev pub invariant-loop-part : goal.invariant-loop-part
invariant-loop-part l = l.text ++ cond l.is_first (with_dots (drop l.part-index l.part-items)) (further_parts (drop l.part-index l.part-items)) ≡ with_dots l.fn.parts
