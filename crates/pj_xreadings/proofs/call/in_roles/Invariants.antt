use Rattle.std.proofs.Common.{◌≡◌, ◌++◌, map, length}
use Rattle.pj_xexpressions.specs.Trees.{tree_of}
use Rattle.pj_xreadings.specs.Operands.{in_roles}
use Rattle.pj_xreadings.specs.Seen.{seen_mentions, seen_given}
use Rattle.pj_xreadings.proofs.call.in_roles.Given as goal

abbrev pub invariant-arguments : goal.invariant-arguments
invariant-arguments l = record {
  trees : map (λ next. tree_of next.1.expr) l.left.items ++ map tree_of l.exprs ≡ map (λ next. tree_of next.1.expr) l.initial.left.items;
  names : in_roles l.roles (seen_given l.ended l.left.items) ++ seen_mentions l.all.items ≡ in_roles l.roles (seen_given l.initial.ended l.initial.left.items) ++ seen_mentions l.initial.all.items;
}

abbrev pub decreases-arguments : goal.decreases-arguments
decreases-arguments l = length l.left.items
