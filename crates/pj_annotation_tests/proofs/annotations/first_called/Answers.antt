use Rattle.std.proofs.Common.{rules}
use Rattle.pj_annotation_tests.specs.Annotations.{annotation_called}
use Rattle.pj_annotation_tests.proofs.Turns.{refused-at}
use Rattle.pj_annotation_tests.proofs.annotations.first_called.Goals as goal

pub returns-in_err-hit : goal.returns-in_err-hit
returns-in_err-hit g c =
    refused-at (annotation_called c.args.file.now c.args.text.now) c.args.parts.now c.loop-part.part-index _ c.loop-part-test.true c.loop-part.invariant c.in_err-hit.ensures (search rules)
