use Rattle.std.proofs.Common.{sym, ap, ◌∙◌}
use Rattle.pj_rule_texts.specs.Values.{is_same}
use Rattle.pj_rule_sets.proofs.Lists.{first_value, later_value}
use Rattle.pj_rule_sets.proofs.patterns.value_of.Goals as goal

pub returns-then-is_same_text : goal.returns-then-is_same_text
returns-then-is_same_text c =
    sym (c.loop-property.invariant
    ∙ first_value c.args.name.now c.args.properties.now c.loop-property.property-index c.property-item.result c.loop-property-test.true c.property-item.is
    (ap (λ t. is_same t c.args.name.now) (sym c.as_str.ensures) ∙ sym c.is_same_text.ensures.bytes ∙ c.if-is_same_text.true))

pub loop-property-preserved : goal.loop-property-preserved
loop-property-preserved c =
    c.loop-property.invariant
    ∙ later_value c.args.name.now c.args.properties.now c.loop-property.property-index c.property-item.result c.loop-property-test.true c.property-item.is
    (ap (λ t. is_same t c.args.name.now) (sym c.as_str.ensures) ∙ sym c.is_same_text.ensures.bytes ∙ c.if-is_same_text.false)
