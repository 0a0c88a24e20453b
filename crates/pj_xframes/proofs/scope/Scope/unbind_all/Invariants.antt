use Rattle.std.proofs.Common.{◌≡◌}
use Rattle.pj_xframes.specs.Scopes.{without}
use Rattle.pj_xframes.proofs.scope.Scope.unbind_all.Given as goal

abbrev pub invariant-loop-i : goal.invariant-loop-i
invariant-loop-i l = l.self ≡ without l.i l.fn.self
