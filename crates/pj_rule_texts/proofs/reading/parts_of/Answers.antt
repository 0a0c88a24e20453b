use Rattle.pj_rule_texts.specs.Written.{part_of}
use Rattle.pj_rule_texts.proofs.Steps.{filter_map-turn}
use Rattle.pj_rule_texts.proofs.reading.parts_of.Goals as goal

pub loop-child-preserved : goal.loop-child-preserved
loop-child-preserved c =
    filter_map-turn (part_of c.args.markup.now) c.args.markup.now c.args.elements.now c.loop-child.child-index (record { number = 0 })
    c.loop-child.parts _ c.loop-child.invariant c.in_ok-put_part.ensures c.loop-child-test.true
