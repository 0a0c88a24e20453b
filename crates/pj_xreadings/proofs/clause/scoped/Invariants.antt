use Rattle.std.proofs.Common.{◌≡◌, ◌++◌, map, length}
use Rattle.std.specs.Prelude.{reverse}
use Rattle.pj_xreadings.specs.Operands.{scopes_of}
use Rattle.pj_xreadings.specs.Seen.{seen_bound, seen_mentions, behind_of}
use Rattle.pj_xreadings.proofs.Scopes.{opened, variable_of}
use Rattle.pj_xreadings.proofs.clause.scoped.Given as goal

abbrev pub invariant-variables : goal.invariant-variables
invariant-variables l = record {
  trees : map variable_of l.left.items ++ map behind_of (reverse l.pairs.items) ≡ map variable_of l.initial.left.items;
  names : opened (scopes_of (map seen_bound l.left.items)) (seen_mentions l.all.items) ≡ opened (scopes_of (map seen_bound l.initial.left.items)) (seen_mentions l.initial.all.items);
}

abbrev pub decreases-variables : goal.decreases-variables
decreases-variables l = length l.left.items
