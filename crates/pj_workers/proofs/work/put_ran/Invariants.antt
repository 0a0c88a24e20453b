use Rattle.std.proofs.Common.{◌≡◌, ◌++◌, take}
use Rattle.pj_workers.specs.Evaluated.{with_path}
use Rattle.pj_workers.proofs.work.put_ran.Given as goal

abbrev pub invariant-loop-number : goal.invariant-loop-number
invariant-loop-number l = l.ran ≡ l.fn.ran ++ with_path l.path (take l.number-index l.numbers)
