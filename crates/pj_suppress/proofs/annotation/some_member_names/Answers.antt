use Rattle.std.proofs.Common.{◌∙◌, ap, length, subst, sym}
use Rattle.std.specs.List.{list_any}
use Rattle.pj_suppress.specs.Annotation.{member_names}
use Rattle.pj_suppress.proofs.Inside.{AreInside, are_inside}
use Rattle.pj_suppress.proofs.annotation.some_member_names.Goals as goal

pub loop-child-init : goal.loop-child-init
loop-child-init g c =
    let t = c.args.tree.now in
    let same = c.into_iter-child-iterator.ensures.into_iter_gives in (
      ap (list_any (member_names t (g.A.Attributes.attribute_of c.args.facts.now) c.args.rule.now)) (same ∙ c.children-child-items.ensures.value),
      subst (AreInside (length t.nodes)) (sym same) (are_inside c.args.n (length t.nodes) c.children-child-items.result c.children-child-items.ensures.inside),
    )
