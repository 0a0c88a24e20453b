use Rattle.std.proofs.Common.{sym, ◌∙◌, ap, arith, reverse}
use Rattle.pj_xaxes.specs.Axes.{on_axis}
use Rattle.pj_xaxes.proofs.Picking.{last_on, last_off, picked-done}
use Rattle.pj_xaxes.proofs.search.last_between.Goals as goal

pub returns-then-is_on-clause-found : goal.returns-then-is_on-clause-found
returns-then-is_on-clause-found c =
    ap reverse c.loop-to.invariant.1
    ∙ last_on (on_axis c.args.tree.now c.args.axis c.args.n) c.args.low c.last_number-to.result c.loop-to.to c.loop-to-test.true c.last_number-to.ensures.earlier c.last_number-to.ensures.none (sym c.is_on_axis-is_on.ensures ∙ c.if-is_on.true)

pub loop-to-preserved : goal.loop-to-preserved
loop-to-preserved c = (
  omega (arith, c.loop-to.invariant.0, c.last_number-to.ensures.earlier),
  c.loop-to.invariant.1
      ∙ last_off (on_axis c.args.tree.now c.args.axis c.args.n) c.args.low c.last_number-to.result c.loop-to.to c.loop-to-test.true c.last_number-to.ensures.earlier c.last_number-to.ensures.none (sym c.is_on_axis-is_on.ensures ∙ c.if-is_on.false),
)

pub returns-clause-found : goal.returns-clause-found
returns-clause-found c = (
  ap reverse (c.loop-to.invariant.1 ∙ picked-done (on_axis c.args.tree.now c.args.axis c.args.n) c.args.low c.loop-to.to c.loop-to-test.false),
  ap reverse (picked-done (on_axis c.args.tree.now c.args.axis c.args.n) c.args.low c.loop-to.to c.loop-to-test.false),
)
