use Rattle.std.proofs.Common.{sym, ◌∙◌, arith}
use Rattle.pj_xaxes.specs.Axes.{on_axis}
use Rattle.pj_xaxes.proofs.Picking.{first_on, first_off, picked-done}
use Rattle.pj_xaxes.proofs.search.first_between.Goals as goal

pub returns-then-is_on_axis-clause-found : goal.returns-then-is_on_axis-clause-found
returns-then-is_on_axis-clause-found c =
    c.loop-from.invariant.1
    ∙ first_on (on_axis c.args.tree.now c.args.axis c.args.n) c.loop-from.from c.next_number-from.result c.args.high c.loop-from-test.true c.next_number-from.ensures.later c.next_number-from.ensures.none (sym c.is_on_axis.ensures ∙ c.if-is_on_axis.true)

pub loop-from-preserved : goal.loop-from-preserved
loop-from-preserved c = (
  omega (arith, c.loop-from.invariant.0, c.next_number-from.ensures.later),
  c.loop-from.invariant.1
      ∙ first_off (on_axis c.args.tree.now c.args.axis c.args.n) c.loop-from.from c.next_number-from.result c.args.high c.loop-from-test.true c.next_number-from.ensures.later c.next_number-from.ensures.none (sym c.is_on_axis.ensures ∙ c.if-is_on_axis.false),
)

pub returns-clause-found : goal.returns-clause-found
returns-clause-found c = (
  c.loop-from.invariant.1 ∙ picked-done (on_axis c.args.tree.now c.args.axis c.args.n) c.loop-from.from c.args.high c.loop-from-test.false,
  picked-done (on_axis c.args.tree.now c.args.axis c.args.n) c.loop-from.from c.args.high c.loop-from-test.false,
)
