use Rattle.std.proofs.Common.{◌≤◌}
use Rattle.pj_names.specs.declared.ty.Types.{size-Types}
use Rattle.pj_names.proofs.+types.Given as goal

abbrev pub invariant-ty::Types::drop-loop-self : goal.invariant-ty::Types::drop-loop-self
invariant-ty::Types::drop-loop-self l = size-Types l.self ≤ size-Types l.fn.self
