use Rattle.std.proofs.Common.{◌≡◌, ◌++◌, take, drop}
use Rattle.pj_signatures.specs.Reading.{run, past_run}
use Rattle.pj_signatures.proofs.scan.run_len.Given as goal

abbrev pub invariant-loop-i : goal.invariant-loop-i
invariant-loop-i l = record {
  front : run l.signs l.bytes ≡ take l.i l.bytes ++ run l.signs (drop l.i l.bytes);
  rest : past_run l.signs l.bytes ≡ past_run l.signs (drop l.i l.bytes);
}
