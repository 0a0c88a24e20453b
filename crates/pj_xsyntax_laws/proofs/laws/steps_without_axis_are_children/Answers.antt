use Rattle.pj_xsyntax_laws.proofs.Axes as lemma
use Rattle.pj_xsyntax_laws.proofs.laws.steps_without_axis_are_children.Goals as goal

pub returns : goal.returns
returns c = record { without_axis = lemma.without_axis; with_axis = lemma.with_axis }
