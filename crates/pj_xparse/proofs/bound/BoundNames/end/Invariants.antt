use Rattle.std.proofs.Common.{◌≡◌, drop}
use Rattle.pj_xparse.specs.Bound.{names_of, IsCounted}
use Rattle.pj_xparse.proofs.bound.BoundNames.end.Given as goal

abbrev pub invariant-ended : goal.invariant-ended
invariant-ended l = record { names : names_of l.self ≡ drop l._ended (names_of l.initial.self); counts : IsCounted l.self }
