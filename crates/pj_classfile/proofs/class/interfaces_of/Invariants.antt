use Rattle.std.proofs.Common.{◌≡◌, ◌-◌, map}
use Rattle.pj_format.specs.Format.{first}
use Rattle.pj_format.specs.Fields.{several, u16_as}
use Rattle.pj_format.proofs.Loops.{with_front}
use Rattle.pj_signatures.specs.Names.{is_internal_name}
use Rattle.pj_classfile.specs.ClassFile.{views, class_in}
use Rattle.pj_classfile.specs.Passed.{ArePassed, text_at}
use Rattle.pj_classfile.proofs.class.interfaces_of.Given as goal

abbrev pub invariant-loop : goal.invariant-loop
invariant-loop l = record {
  read : with_front (map (text_at (views l.pool)) l.list.items) (first (several (u16_as (class_in (views l.pool))) (l.count - l.counter)) l.bytes l.place) ≡ first (several (u16_as (class_in (views l.pool))) l.count) l.bytes l.at;
  passed : ArePassed is_internal_name (views l.pool) l.passed;
}
