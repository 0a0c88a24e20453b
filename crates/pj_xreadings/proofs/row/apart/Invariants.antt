use Rattle.std.proofs.Common.{◌≡◌, map}
use Rattle.std.specs.Prelude.{reverse}
use Rattle.pj_xexpressions.specs.Trees.{tree_of}
use Rattle.pj_xreadings.specs.Operands.{trees_of, names_of}
use Rattle.pj_xreadings.specs.Seen.{seen_mentions, seen_reading}
use Rattle.pj_xreadings.proofs.row.apart.Given as goal

abbrev pub invariant-readings : goal.invariant-readings
invariant-readings l = record {
  exprs : map tree_of l.exprs ≡ trees_of (map seen_reading (reverse l.yielded));
  names : seen_mentions l.all.items ≡ names_of (map seen_reading (reverse l.yielded));
}
