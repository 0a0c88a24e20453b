use Rattle.std.proofs.Common.{◌≡◌, ◌++◌, [], sym, rules, Some, None}
use Rattle.pj_names.specs.JavaType.{bound_types}
use Rattle.pj_signatures.specs.Types.{types}
use Rattle.pj_signatures.specs.Reading.{whole, inside, parameters_at, supertypes_at}
use Rattle.pj_signatures.proofs.Turns.{class_signature_open}
use Rattle.pj_signatures.proofs.read.read_class_signature.Goals as goal

pub returns-in-None : goal.returns-in-None
returns-in-None c =
    let first : parameters_at (types []) (inside (types []) 255) c.args.text.now ≡ Some (bound_types c.in-Some.params, c.in-Some.after.now) = search rules in
    let above : whole (supertypes_at (types (bound_types c.in-Some.params ++ [])) 255 c.in-Some.after.now) ≡ None = search rules in
    sym (class_signature_open c.args.text.now c.in-Some.after.now (bound_types c.in-Some.params) first above)
