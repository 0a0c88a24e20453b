use Rattle.std.proofs.Common.{◌≡◌, ◌-◌, true}
use Rattle.pj_format.specs.Format.{first}
use Rattle.pj_format.specs.Fields.{several_from}
use Rattle.pj_format.proofs.Loops.{with_front}
use Rattle.pj_classfile.specs.ClassFile.{views, slot}
use Rattle.pj_classfile.proofs.pool.pool_of.Given as goal

abbrev pub invariant-loop : goal.invariant-loop
invariant-loop l = with_front (views l.pool.items) (first (several_from slot (l.count - l.counter) l.taken) l.bytes l.place) ≡ first (several_from slot l.count true) l.bytes l.at
