use Rattle.std.proofs.Common.{◌≡◌, ◌<◌, length, sym, arith}
use Rattle.std.proofs.lemmas.Grind.{common_steps}
use Rattle.pj_classfile.proofs.Units.{units_stop, units_go_on, units_end}
use Rattle.pj_classfile.proofs.modified_utf8.units_of.Goals as goal

pub returns-in_default : goal.returns-in_default
returns-in_default c =
    let some : 0 < length c.loop-rest.rest.now = grind (arith, common_steps) in
    units_stop c.loop-rest.units.items c.loop-rest.rest.now c.args.bytes.now some (sym c.in_default.ensures.value) c.loop-rest.invariant

pub loop-rest-preserved : goal.loop-rest-preserved
loop-rest-preserved c =
    rw c.in_ok-push.ensures.items (units_go_on c.loop-rest.units.items c.loop-rest.rest.now c.args.bytes.now c.in-Some.unit c.in-Some.behind.now (sym c.in-Some.ensures.value) c.loop-rest.invariant)

pub returns : goal.returns
returns c =
    let none : length c.loop-rest.rest.now ≡ 0 = grind (arith, common_steps) in
    units_end c.loop-rest.units.items c.loop-rest.rest.now c.args.bytes.now none c.loop-rest.invariant
