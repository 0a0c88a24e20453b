use Rattle.std.proofs.Common.{◌≡◌, drop}
use Rattle.std.specs.Prelude.{map}
use Rattle.pj_names.specs.Meaning.{found_in}
use Rattle.pj_names.proofs.answers.Answers.find.Given as goal

abbrev pub invariant-loop-key : goal.invariant-loop-key
invariant-loop-key l = found_in l.self l.name ≡ found_in (map (λ pair. (pair.0, pair.1.value)) (drop l.key-index l.key-items)) l.name
