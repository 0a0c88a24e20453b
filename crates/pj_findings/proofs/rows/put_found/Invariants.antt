use Rattle.std.proofs.Common.{◌≡◌, ◌++◌, map, take}
use Rattle.pj_findings.specs.Merged.{finding_of}
use Rattle.pj_findings.proofs.rows.put_found.Given as goal

abbrev pub invariant-loop-one : goal.invariant-loop-one
invariant-loop-one l = l.findings.items ≡ l.initial.findings.items ++ map (finding_of l.rule) (take l.one-index l.found)
