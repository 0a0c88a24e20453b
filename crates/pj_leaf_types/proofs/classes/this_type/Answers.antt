use Rattle.std.proofs.Common.{ap, sym, ◌∙◌}
use Rattle.pj_tree.specs.Tree.{Tree}
use Rattle.pj_tree.specs.Children.{child_of}
use Rattle.pj_tree.specs.declared.kind.Kind.TheVariants as k
use Rattle.pj_type_names.proofs.Turns.{asks-as}
use Rattle.pj_leaf_types.specs.Classes.{this_by}
use Rattle.pj_leaf_types.proofs.classes.this_type.Goals as goal

pub returns-in-Some : goal.returns-in-Some
returns-in-Some g c =
    let t = c.args.file.now in
    let found = c.in-Some.ensures.value ∙ ap (λ (t : Tree). child_of t c.args.n k.ClassType) c.tree.ensures in
    asks-as (ap (this_by t c.args.n) (sym found)) c.named_class.ensures
