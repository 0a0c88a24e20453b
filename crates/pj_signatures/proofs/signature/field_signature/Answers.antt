use Rattle.std.proofs.Common.{◌≡◌, [], rules}
use Rattle.pj_signatures.specs.Reading.{field_signature_of}
use Rattle.pj_signatures.specs.Seen.{seen_option}
use Rattle.pj_signatures.proofs.Exact.{type_exactly}
use Rattle.pj_signatures.proofs.signature.field_signature.Goals as goal

pub returns-clause-spelled : goal.returns-clause-spelled
returns-clause-spelled c =
    let read : seen_option c.in_ok-found.found ≡ field_signature_of [] c.args.text.now = search rules in
    type_exactly [] c.args.text.now (seen_option c.in_ok-found.found) read
