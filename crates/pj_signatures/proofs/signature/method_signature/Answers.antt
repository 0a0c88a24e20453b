use Rattle.std.proofs.Common.{◌≡◌, [], rules}
use Rattle.pj_signatures.specs.Reading.{method_signature_of}
use Rattle.pj_signatures.specs.Seen.{seen_method}
use Rattle.pj_signatures.proofs.Exact.{method_exactly}
use Rattle.pj_signatures.proofs.signature.method_signature.Goals as goal

pub returns-clause-spelled : goal.returns-clause-spelled
returns-clause-spelled c =
    let read : seen_method c.in_ok-found.found ≡ method_signature_of [] c.args.text.now = search rules in
    method_exactly [] c.args.text.now (seen_method c.in_ok-found.found) read
