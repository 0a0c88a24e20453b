use Rattle.std.proofs.Common.{◌≡◌, ◌++◌, map}
use Rattle.pj_outside.specs.Files.{Bytes}
use Rattle.pj_workers.specs.declared.result.FileResult.{FileResult}
use Rattle.pj_cold.proofs.cold.rows_of.Given as goal

abbrev pub invariant-loop-of_file : goal.invariant-loop-of_file
invariant-loop-of_file l =
    l.rows ++ map (λ (of_file : Bytes × FileResult). (of_file.0, of_file.1.rows)) l.of_file-iterator.rest.items ≡ map (λ (of_file : Bytes × FileResult). (of_file.0, of_file.1.rows)) l.fn.found
