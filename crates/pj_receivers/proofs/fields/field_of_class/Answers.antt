use Rattle.std.proofs.Common.{rules}
use Rattle.pj_names.proofs.AskingLaws.{asks-refused, asks-then}
use Rattle.pj_receivers.specs.Fields.{field_of_class, field_or_member}
use Rattle.pj_receivers.proofs.fields.field_of_class.Goals as goal

pub returns-in_err-found : goal.returns-in_err-found
unfolding field_of_class
returns-in_err-found g c = asks-refused _ c.in_err-found.ensures (search rules)

pub returns : goal.returns
unfolding field_of_class
returns g c = asks-then (λ found. field_or_member c.args.file.now c.args.class.now c.args.name.now found) c.in_ok-found.ensures c.field_or_member.ensures
