use Rattle.std.proofs.Common.{sym, ◌∙◌}
use Rattle.pj_xaxes.proofs.Skips.{stepped}
use Rattle.pj_xaxes.proofs.search.next_number.Goals as goal

pub returns-then-steps_over-clause-none : goal.returns-then-steps_over-clause-none
returns-then-steps_over-clause-none c =
    stepped c.args.tree.now c.len-count.ensures.tree c.args.axis c.args.n c.args.m c.subtree_end.result.0 c.requires.inside_n c.subtree_end.ensures.within c.subtree_end.ensures.descendants (sym c.steps_over.ensures ∙ c.if-steps_over.true) c.requires.behind
