use Rattle.std.proofs.Common.{sym, ◌∙◌}
use Rattle.pj_markup.proofs.Rows.{value_here, value_later}
use Rattle.pj_markup.proofs.markup.value_of.Goals as goal

pub returns-then-is_named : goal.returns-then-is_named
returns-then-is_named c =
    sym (c.loop-attribute.invariant
    ∙ value_here _ _ _ c.attribute-item.result c.loop-attribute-test.true c.attribute-item.is (sym c.is_named.ensures ∙ c.if-is_named.true))

pub loop-attribute-preserved : goal.loop-attribute-preserved
loop-attribute-preserved c =
    c.loop-attribute.invariant
    ∙ value_later _ _ _ c.attribute-item.result c.loop-attribute-test.true c.attribute-item.is (sym c.is_named.ensures ∙ c.if-is_named.false)
