use Rattle.std.proofs.Common.{arith, ap, ◌∙◌, subst, sym, length}
use Rattle.std.specs.List.{list_all}
use Rattle.pj_tree.proofs.Inside.{AreInside, are_inside}
use Rattle.pj_written.specs.Fits.{argument_by, fits_within}
use Rattle.pj_written.proofs.Deeper.{fits-none, fits-some}
use Rattle.pj_written.proofs.limits.+fitting.Goals as goal

pub arguments_fit-loop-argument-init : goal.arguments_fit-loop-argument-init
arguments_fit-loop-argument-init n c =
    let t = c.args.tree.now in
    let same = c.into_iter-argument-iterator.ensures.into_iter_gives in (
      ap (list_all (argument_by t (fits_within t c.args.deep c.args.around))) (same ∙ c.children-argument-items.ensures.value),
      subst (AreInside (length t.nodes)) (sym same) (are_inside c.args.list (length t.nodes) c.children-argument-items.result c.children-argument-items.ensures.inside),
    )

pub fits_within-returns-in-Some : goal.fits_within-returns-in-Some
fits_within-returns-in-Some n c =
    c.listed_fit.ensures
    ∙ fits-some c.args.tree.now c.args.deep c.args.around c.brackets.result c.args.n c.bare.result c.in-Some.list (omega (arith, c.if-deep-eq0.false))
    c.brackets.ensures.value c.bare.ensures.value (sym c.in-Some.ensures.value) (omega (arith, c.if-open-gt-MOST_SIGNS.false))

pub fits_within-returns-in-None : goal.fits_within-returns-in-None
fits_within-returns-in-None n c =
    fits-none c.args.tree.now c.args.deep c.args.around c.brackets.result c.args.n c.bare.result (omega (arith, c.if-deep-eq0.false))
    c.brackets.ensures.value c.bare.ensures.value (sym c.in-None.ensures.value) (omega (arith, c.if-open-gt-MOST_SIGNS.false))
