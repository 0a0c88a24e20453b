use Rattle.std.proofs.Common.{◌≡◌, map}
use Rattle.std.specs.Prelude.{reverse}
use Rattle.pj_xreadings.specs.Operands.{operations, names_behind}
use Rattle.pj_xreadings.specs.Seen.{behind_of, seen_behind, seen_mentions}
use Rattle.pj_xreadings.proofs.operation.operations.Given as goal

abbrev pub invariant-operands : goal.invariant-operands
invariant-operands g l = record {
  exprs : map behind_of l.exprs ≡ operations (map seen_behind (reverse l.yielded));
  names : seen_mentions l.all.items ≡ names_behind (map seen_behind (reverse l.yielded));
}
