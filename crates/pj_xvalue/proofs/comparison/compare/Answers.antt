use Rattle.std.proofs.Common.{◌≡◌, sym, ap, ◌∙◌, arith, map, rules, drop, ◌+◌, true, false, Bool, Ok, Err, Result}
use Rattle.pj_xvalue.specs.declared.fault.XCode.{XCode}
use Rattle.pj_xvalue.specs.Items.{value_of_item}
use Rattle.pj_xvalue.specs.Comparison.{decided, general_comparison}
use Rattle.pj_xvalue.proofs.Deciding.{next_item}
use Rattle.pj_xvalue.proofs.comparison.compare.Goals as goal

pub returns-in_err-compare_item : goal.returns-in_err-compare_item
returns-in_err-compare_item c =
    let next = next_item c.args.op c.as_slice-item-items.result.now c.args.right.now c.as_slice.result.now c.loop-item.item-index c.item-item.result c.compare_item.result
    (general_comparison c.args.op (map value_of_item c.args.left.now) (map value_of_item c.args.right.now)) (omega arith) c.item-item.is c.loop-item.invariant c.as_slice.ensures c.compare_item.ensures in
    let is : Err c.in_err-compare_item.field-0.0 ≡ general_comparison c.args.op (map value_of_item c.args.left.now) (map value_of_item c.args.right.now)
    = ap (λ (r : Result Bool XCode). decided r (general_comparison c.args.op (map value_of_item (drop (c.loop-item.item-index + 1) c.as_slice-item-items.result.now)) (map value_of_item c.args.right.now))) (sym c.in_err-compare_item.was) ∙ next in
    rw (← is) (search rules)

pub returns-then-branch : goal.returns-then-branch
returns-then-branch c =
    let next = next_item c.args.op c.as_slice-item-items.result.now c.args.right.now c.as_slice.result.now c.loop-item.item-index c.item-item.result c.compare_item.result
    (general_comparison c.args.op (map value_of_item c.args.left.now) (map value_of_item c.args.right.now)) (omega arith) c.item-item.is c.loop-item.invariant c.as_slice.ensures c.compare_item.ensures in
    let was : c.compare_item.result ≡ Ok true = c.in_ok-compare_item.was ∙ ap (λ (b : Bool). Ok b) c.if-branch.true in
    ap (λ (r : Result Bool XCode). decided r (general_comparison c.args.op (map value_of_item (drop (c.loop-item.item-index + 1) c.as_slice-item-items.result.now)) (map value_of_item c.args.right.now))) (sym was) ∙ next

pub loop-item-preserved : goal.loop-item-preserved
loop-item-preserved c =
    let next = next_item c.args.op c.as_slice-item-items.result.now c.args.right.now c.as_slice.result.now c.loop-item.item-index c.item-item.result c.compare_item.result
    (general_comparison c.args.op (map value_of_item c.args.left.now) (map value_of_item c.args.right.now)) (omega arith) c.item-item.is c.loop-item.invariant c.as_slice.ensures c.compare_item.ensures in
    let was : c.compare_item.result ≡ Ok false = c.in_ok-compare_item.was ∙ ap (λ (b : Bool). Ok b) c.if-branch.false in
    ap (λ (r : Result Bool XCode). decided r (general_comparison c.args.op (map value_of_item (drop (c.loop-item.item-index + 1) c.as_slice-item-items.result.now)) (map value_of_item c.args.right.now))) (sym was) ∙ next
