use Rattle.std.proofs.Common.{◌≡◌, ◌-◌, map}
use Rattle.std.specs.Prelude.{None}
use Rattle.std.specs.Option.{option_copied}
use Rattle.pj_format.specs.Format.{first}
use Rattle.pj_format.specs.Fields.{several_from}
use Rattle.pj_format.proofs.Loops.{with_front}
use Rattle.pj_cache_format.specs.Answers.{answer}
use Rattle.pj_old_reading.proofs.answers.several_answers_of.Given as goal

abbrev pub invariant-loop : goal.invariant-loop
invariant-loop l = with_front (map (λ a. (a.0, a.1.value)) l.list.items) (first (several_from (answer) (l.count - l.counter) (option_copied l.before)) l.bytes l.place) ≡ first (several_from (answer) l.count (None)) l.bytes l.at
