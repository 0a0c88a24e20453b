use Rattle.std.proofs.Common.{◌≡◌, ◌++◌, drop, map}
use Rattle.pj_carry.specs.Carried.{answers_for}
use Rattle.pj_carrying.proofs.carrying.answers_for.Given as goal

abbrev pub invariant-loop-name : goal.invariant-loop-name
invariant-loop-name l = l.list ++ answers_for (map (λ a. (a.0, a.1.value)) l.answers) (drop l.name-index l.names) ≡ answers_for (map (λ a. (a.0, a.1.value)) l.answers) l.names
