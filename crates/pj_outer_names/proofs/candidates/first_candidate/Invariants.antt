use Rattle.std.proofs.Common.{◌+◌, ◌-◌, length}
use Rattle.pj_names.proofs.AskingLaws.{ComesTo}
use Rattle.pj_outer_names.specs.Candidates.{file_classes, first_candidate}
use Rattle.pj_outer_names.proofs.Turns.{rest_from}
use Rattle.pj_outer_names.proofs.candidates.first_candidate.Given as goal

-- as many candidates may still come as the text has bytes and one
abbrev pub invariant-loop-dot : goal.invariant-loop-dot
invariant-loop-dot g l =
    ComesTo (first_candidate (file_classes l.fn.file) l.fn.text) (g.O.Oracle.tells l.fn.oracle)
    (rest_from (file_classes l.file) (length l.text + 1 - l._dot) l.candidate) (g.O.Oracle.tells l.oracle)
