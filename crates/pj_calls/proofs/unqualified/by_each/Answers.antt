use Rattle.std.proofs.Common.{rules}
use Rattle.pj_scopes.proofs.Turns.{refused-at}
use Rattle.pj_calls.specs.Candidates.{of_import}
use Rattle.pj_calls.proofs.unqualified.by_each.Goals as goal

pub returns-in_err-hit : goal.returns-in_err-hit
returns-in_err-hit g c =
    refused-at (of_import c.args.file.now c.args.name.now) c.args.imports.now c.loop-import.import-index _ c.loop-import-test.true c.loop-import.invariant c.in_err-hit.ensures (search rules)
