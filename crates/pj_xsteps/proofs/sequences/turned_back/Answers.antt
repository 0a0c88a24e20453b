use Rattle.std.proofs.Common.{◌∙◌, sym, ap, subst, List}
use Rattle.pj_xvalue.specs.Items.{ItemValue, values_of}
use Rattle.pj_xvalue.specs.OfTree.{OfTree}
use Rattle.pj_xfuncs.proofs.Gathering.{values-reverse}
use Rattle.pj_xsteps.proofs.OfTree.{of_tree-reverse}
use Rattle.pj_xsteps.proofs.sequences.turned_back.Goals as goal

pub returns-clause-value : goal.returns-clause-value
returns-clause-value c = ap values_of c.items_turned_back.ensures ∙ values-reverse c.args.items

pub returns-clause-of_tree : goal.returns-clause-of_tree
returns-clause-of_tree c = λ n h. subst (λ (xs : List ItemValue). OfTree n xs) (sym (ap values_of c.items_turned_back.ensures ∙ values-reverse c.args.items)) (of_tree-reverse n (values_of c.args.items) h)
