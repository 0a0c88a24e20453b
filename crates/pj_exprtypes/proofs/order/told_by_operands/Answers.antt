use Rattle.std.proofs.Common.{◌≡◌, rules}
use Rattle.pj_names.proofs.AskingLaws.{asks-refused, asks-stop, asks-then}
use Rattle.pj_exprtypes.specs.Operands.{operands}
use Rattle.pj_exprtypes.proofs.Tables.{keeps-on}
use Rattle.pj_exprtypes.proofs.order.told_by_operands.Goals as goal

pub returns-in_err-nodes-clause-asks : goal.returns-in_err-nodes-clause-asks
returns-in_err-nodes-clause-asks g c = asks-stop (search rules)

pub returns-in_err-operand_types-clause-asks : goal.returns-in_err-operand_types-clause-asks
returns-in_err-operand_types-clause-asks g c =
    let nodes : c.as_slice.result.now ≡ operands c.args.file.now c.args.n = search rules in
    let asked = rw nodes at c.in_err-operand_types.ensures.asks in
    asks-refused _ asked (search rules)

pub returns-clause-asks : goal.returns-clause-asks
returns-clause-asks g c =
    let nodes : c.as_slice.result.now ≡ operands c.args.file.now c.args.n = search rules in
    let asked = rw nodes at c.in_ok-operand_types.ensures.asks in
    asks-then _ asked c.type_with.ensures.asks

pub returns-clause-keeps : goal.returns-clause-keeps
returns-clause-keeps g c = keeps-on c.args.file.now _ c.type_with.ensures.asks c.in_ok-operand_types.ensures.keeps
