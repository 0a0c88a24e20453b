use Rattle.std.proofs.Common.{◌≡◌, ◌-◌, ◌+◌, ◌<◌, ℕ, [], length, ap, sym, ◌∙◌, subst, rules, arith}
use Rattle.std.specs.Prelude.{OnOk}
use Rattle.std.specs.List.{All}
use Rattle.pj_tree.specs.Tree.{Tree}
use Rattle.pj_tree.specs.declared.node.Node.{Node}
use Rattle.pj_exprtypes.specs.Operands.{operands}
use Rattle.pj_exprtypes.specs.Order.{AddsParts}
use Rattle.pj_exprtypes.specs.Parts.{AsksPart}
use Rattle.pj_exprtypes.specs.TypeOf.{earlier, typed}
use Rattle.pj_exprtypes.proofs.Due.{adds-nothing, adds-operands, none-left}
use Rattle.pj_exprtypes.proofs.Parts.{part-begin, part-stop}
use Rattle.pj_exprtypes.proofs.order.visit_operands.Goals as goal

pub returns-then-left-eq0-clause-due : goal.returns-then-left-eq0-clause-due
returns-then-left-eq0-clause-due g c = adds-nothing _ _ _ _ _

pub returns-then-left-eq0-clause-asks : goal.returns-then-left-eq0-clause-asks
returns-then-left-eq0-clause-asks g c = part-begin

pub returns-in_err-nodes-clause-asks : goal.returns-in_err-nodes-clause-asks
returns-in_err-nodes-clause-asks g c = part-stop (search rules)

pub visit_leaf-requires-clause-alone : goal.visit_leaf-requires-clause-alone
visit_leaf-requires-clause-alone g c =
    let none : c.in_ok-nodes.nodes ≡ [] = none-left c.in_ok-nodes.nodes (sym c.is_empty.ensures ∙ c.if-is_empty.true) in
    let same : c.in_ok-nodes.nodes ≡ operands c.args.file.now c.args.n = c.in_ok-nodes.ensures.value ∙ ap (λ (t : Tree). operands t c.args.n) c.tree.ensures in
    sym same ∙ none

pub returns-then-is_empty-clause-due : goal.returns-then-is_empty-clause-due
returns-then-is_empty-clause-due g c =
    let t = c.args.file.now in
    let more : c.args.left - 1 + 1 ≡ c.args.left = omega arith in
    subst (λ (k : ℕ). OnOk c.visit_leaf.result (AddsParts t (g.O.Oracle.tells c.args.oracle.now).is_told (g.O.Oracle.tells c.args.oracle.now).world (typed t (earlier t c.args.before) k c.args.n) c.args.all.now c.visit_leaf.new.all))
    more (c.visit_leaf.ensures.due (c.args.left - 1))

pub returns-then-is_empty-clause-asks : goal.returns-then-is_empty-clause-asks
returns-then-is_empty-clause-asks g c =
    let t = c.args.file.now in
    let more : c.args.left - 1 + 1 ≡ c.args.left = omega arith in
    subst (λ (k : ℕ). AsksPart (typed t (earlier t c.args.before) k c.args.n) (g.O.Oracle.tells c.args.oracle.now) (g.O.Oracle.tells c.visit_leaf.new.oracle) c.visit_leaf.result)
    more (c.visit_leaf.ensures.asks (c.args.left - 1))

pub returns-in_err-put_visits-clause-asks : goal.returns-in_err-put_visits-clause-asks
returns-in_err-put_visits-clause-asks g c = part-stop (search rules)

pub returns-clause-due : goal.returns-clause-due
returns-clause-due g c =
    let t = c.args.file.now in
    let told = (g.O.Oracle.tells c.args.oracle.now).is_told in
    let w = (g.O.Oracle.tells c.args.oracle.now).world in
    let more : c.args.left - 1 + 1 ≡ c.args.left = omega arith in
    let nodes = c.in_ok-nodes.nodes in
    let same : nodes ≡ operands t c.args.n = c.in_ok-nodes.ensures.value ∙ ap (λ (t : Tree). operands t c.args.n) c.tree.ensures in
    let inside = subst (λ (t : Tree). All (λ (m : Node). m.0 < length t.nodes) nodes) c.tree.ensures c.in_ok-nodes.ensures.inside in
    subst (λ (k : ℕ). AddsParts t told w (typed t (earlier t c.args.before) k c.args.n) c.args.all.now c.put_visits.new.all) more
    (adds-operands t told w c.args.before (c.args.left - 1) c.args.n nodes c.args.all.now c.put_visits.new.all same inside c.in_ok-put_visits.ensures)

pub returns-clause-asks : goal.returns-clause-asks
returns-clause-asks g c = part-begin
