use Rattle.std.proofs.Common.{rules, List, subst, sym}
use Rattle.std.specs.declared.sync.Arc.{Arc}
use Rattle.std.specs.declared.alloc.Global.{Global}
use Rattle.pj_names.specs.ClassName.{Name}
use Rattle.pj_names.specs.declared.answer.Answer.{Answer}
use Rattle.pj_table.specs.Held.{AreHeldAnswers}
use Rattle.pj_table.proofs.OracleLaws.{count_begin}
use Rattle.pj_table.proofs.door_oracle.DoorOracle.new.Goals as goal

pub invariant_of-result : goal.invariant_of-result
invariant_of-result g c = record {
  held = subst (λ (l : List (Name × Arc Answer Global)). AreHeldAnswers (g.D.ClassDoor.holds c.args.door.now) c.new.result l) (sym c.new-2.ensures.empty) tt;
  counted = count_begin (g.D.ClassDoor.finds c.args.door.now) c.count_finds-finds.result c.new.result c.count_finds-finds.ensures c.new.ensures (search rules);
}
