use Rattle.std.proofs.Common.{◌≡◌, ◌++◌}
use Rattle.std.specs.List.{All}
use Rattle.pj_cached_files.specs.Made.{IsClassText}
use Rattle.pj_cached_files.proofs.made.shared.Given as goal

abbrev pub invariant-loop-name : goal.invariant-loop-name
invariant-loop-name l = record {
  value : l.shared ++ l.name-iterator.rest.items ≡ l.fn.names;
  classes : All IsClassText l.shared;
}
