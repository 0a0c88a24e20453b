use Rattle.std.proofs.Common.{◌≡◌, map, take}
use Rattle.pj_carrying.specs.ByRule.{rows_in}
use Rattle.pj_carrying.proofs.entries.group_by.Given as goal

abbrev pub invariant-loop-first : goal.invariant-loop-first
invariant-loop-first l = l.group ≡ map (rows_in l.all) (take l.first-index l.firsts)
