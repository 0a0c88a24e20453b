use Rattle.std.proofs.Common.{◌≡◌, ◌-◌}
use Rattle.pj_format.specs.Format.{first}
use Rattle.pj_format.specs.Fields.{several}
use Rattle.pj_format.proofs.Loops.{with_front}
use Rattle.pj_classfile.specs.ClassFile.{views, member}
use Rattle.pj_classfile.specs.Passed.{AreJudged}
use Rattle.pj_classfile.proofs.member.member_list_of.Given as goal

abbrev pub invariant-loop : goal.invariant-loop
invariant-loop l = record {
  read : with_front l.list.items (first (several (member l.kind (views l.pool)) (l.count - l.counter)) l.bytes l.place) ≡ first (several (member l.kind (views l.pool)) l.count) l.bytes l.at;
  judged : AreJudged l.kind (views l.pool) l.judged;
}
