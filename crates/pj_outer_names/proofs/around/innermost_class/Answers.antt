use Rattle.std.proofs.Common.{subst, sym}
use Rattle.pj_outer_names.proofs.Enclosing.{IsNext, class-next}
use Rattle.pj_outer_names.proofs.around.innermost_class.Goals as goal

pub returns-clause-value : goal.returns-clause-value
returns-clause-value c =
    let t = c.args.tree.now in
    subst (IsNext t c.args.place) (sym c.class_at.ensures.value) (class-next t c.args.place c.len-nodes.ensures.tree c.requires.inside)
