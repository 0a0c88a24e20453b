use Rattle.pj_rule_texts.specs.Written.{exclude_of}
use Rattle.pj_rule_texts.proofs.Steps.{filter_map-turn}
use Rattle.pj_rule_texts.proofs.reading.excludes_of.Goals as goal

pub loop-child-preserved : goal.loop-child-preserved
loop-child-preserved c =
    filter_map-turn (exclude_of c.args.markup.now) c.args.markup.now c.args.elements.now c.loop-child.child-index (record { number = 0 })
    c.loop-child.names _ c.loop-child.invariant c.in_ok-put_exclude.ensures c.loop-child-test.true
