use Rattle.std.proofs.Common.{◌≡◌, []}
use Rattle.std.specs.Prelude.{replicate}
use Rattle.pj_reports.specs.declared.ruled.Ruled.TheVariants.{Spots}
use Rattle.pj_carrying.proofs.rows.without_rows.Given as goal

abbrev pub invariant-loop : goal.invariant-loop
invariant-loop l = l.all.items ≡ replicate l.counter (Spots [])
