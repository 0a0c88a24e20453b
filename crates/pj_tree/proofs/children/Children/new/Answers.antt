use Rattle.std.proofs.lemmas.List.{length-map}
use Rattle.pj_tree.specs.declared.row.Row.{Row}
use Rattle.pj_tree.specs.Rows.{row_parents}
use Rattle.std.proofs.Common.{sym, ap, length, arith}
use Rattle.pj_tree.proofs.children.Children.new.Goals as goal
use Rattle.pj_tree.proofs.ChildLists.{children_begin, among_first, children_inside, children_few}

pub invariant_of-result : goal.invariant_of-result
invariant_of-result c = among_first c.args.rows.now c.args.parent c.requires.ends c.requires.ended c.requires.inside

pub returns-clause-value : goal.returns-clause-value
returns-clause-value c = sym (children_begin c.args.rows.now c.args.parent c.requires.ends)

pub returns-clause-inside : goal.returns-clause-inside
returns-clause-inside c = children_inside c.args.rows.now c.args.parent c.requires.ends

pub returns-clause-few : goal.returns-clause-few
returns-clause-few c =
    omega (arith, c.requires.few, ap length (children_begin c.args.rows.now c.args.parent c.requires.ends), children_few (row_parents c.args.rows.now) c.args.parent, length-map c.args.rows.now (λ (r : Row). r.parent))
