use Rattle.std.proofs.Common.{◌≡◌, true, false, Ok, Err, nat_eq, refl, sym, rules}
use Rattle.std.specs.Cmp.Lexicographic.{pointwise}
use Rattle.pj_classfile.proofs.OneLaws.{is_found, is_other}
use Rattle.pj_classfile.proofs.answer.answer_of_bytes.Goals as goal

pub returns-then-eq : goal.returns-then-eq
returns-then-eq c =
    let same : pointwise nat_eq c.in-Ok.class.name c.args.name.now ≡ true = search rules in
    (Ok c.in-Ok.class, c.in-Ok.ensures, sym (is_found c.args.name.now c.in-Ok.class same))

pub returns-else-eq : goal.returns-else-eq
returns-else-eq c =
    let other : pointwise nat_eq c.in-Ok.class.name c.args.name.now ≡ false = search rules in
    (Ok c.in-Ok.class, c.in-Ok.ensures, sym (is_other c.args.name.now c.in-Ok.class other))

pub returns-in-Err-Fault : goal.returns-in-Err-Fault
returns-in-Err-Fault c =
    let e = rw c.in-Err-Fault.field-0-is at c.in-Err-Fault.ensures in (Err c.in-Err-Fault.fault, e, refl)
