use Rattle.std.proofs.Common.{◌≡◌, ◌++◌, ◌∷◌, [], ap, arith, rules}
use Rattle.pj_xvalue.specs.Items.{value_of_item, values_of}
use Rattle.pj_xvalue.specs.Arguments.{integers}
use Rattle.pj_xvalue.proofs.Integers.{integers-more}
use Rattle.pj_xvalue.proofs.arguments.integers.Goals as goal

pub loop-item-preserved : goal.loop-item-preserved
loop-item-preserved c =
    let put : c.push.new.self.items ≡ c.loop-item.numbers.items ++ c.in-Int.value ∷ [] = search rules in
    integers-more c.loop-item.numbers.items c.push.new.self.items (integers (values_of c.args.items.now)) c.args.items.now c.loop-item.item-index c.item-item.result c.in-Int.value
    (omega arith) c.item-item.is (ap value_of_item c.in-Int.is) put c.loop-item.invariant
