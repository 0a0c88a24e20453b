use Rattle.std.proofs.Common.{rules}
use Rattle.std.specs.Prelude.{OnOk, Result, Ok, Err}
use Rattle.pj_tree.specs.Tree.{Tree}
use Rattle.pj_names.specs.declared.oracle.AskFault.{AskFault}
use Rattle.pj_names.specs.JavaType.{JavaType}
use Rattle.pj_names.specs.Asking.{Asking}
use Rattle.pj_names.specs.Told.{Worlds}
use Rattle.std.proofs.Common.{Bool, List}
use Rattle.pj_exprtypes.specs.declared.order.Pending.{Pending}
use Rattle.pj_exprtypes.specs.Order.{AddsParts}
use Rattle.pj_exprtypes.specs.TypeOf.{earlier, typed}
use Rattle.pj_exprtypes.proofs.Due.{adds-both, adds-nothing}
use Rattle.pj_exprtypes.proofs.Parts.{part-begin, part-stop}
use Rattle.pj_exprtypes.proofs.order.visit.Goals as goal

both-on : {A : Type 0} (t : Tree) (is_told : Bool) (w : Worlds) (whole : Asking JavaType) (old middle new : List Pending) (r : Result A AskFault) → AddsParts t is_told w whole old middle
    → OnOk r (AddsParts t is_told w whole middle new) → OnOk r (AddsParts t is_told w whole old new)
both-on t is_told w whole old middle new (Ok v) first second = adds-both t is_told w whole old middle new first second
both-on t is_told w whole old middle new (Err e) first second = tt

pub returns-then-is_some-clause-due : goal.returns-then-is_some-clause-due
returns-then-is_some-clause-due g c = adds-nothing _ _ _ _ _

pub returns-then-is_some-clause-asks : goal.returns-then-is_some-clause-asks
returns-then-is_some-clause-asks g c = part-begin

pub returns-in_err-put_pass-clause-asks : goal.returns-in_err-put_pass-clause-asks
returns-in_err-put_pass-clause-asks g c = part-stop (search rules)

pub returns-clause-due : goal.returns-clause-due
returns-clause-due g c =
    let t = c.args.file.now in
    let told = (g.O.Oracle.tells c.args.oracle.now).is_told in
    let w = (g.O.Oracle.tells c.args.oracle.now).world in
    both-on t told w (typed t (earlier t c.args.before) c.args.left c.args.n) c.args.all.now c.put_pass.new.all c.visit_operands.new.all c.visit_operands.result (c.in_ok-put_pass.ensures told w) c.visit_operands.ensures.due
