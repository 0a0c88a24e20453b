use Rattle.std.proofs.Common.{◌≡◌, ◌-◌}
use Rattle.pj_format.specs.Format.{first}
use Rattle.pj_format.specs.Fields.{several}
use Rattle.pj_format.proofs.Loops.{with_front}
use Rattle.pj_cache_format.specs.Answers.{member}
use Rattle.pj_old_reading.proofs.answers.member_list_of.Given as goal

abbrev pub invariant-loop : goal.invariant-loop
invariant-loop l = with_front l.list.items (first (several member (l.count - l.counter)) l.bytes l.place) ≡ first (several member l.count) l.bytes l.at
