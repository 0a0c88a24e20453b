use Rattle.std.proofs.Common.{◌≡◌, IsSome}
use Rattle.std.specs.Prelude.{slice_range}
use Rattle.std.specs.List.{fold}
use Rattle.pj_tree.specs.Building.{after_call}
use Rattle.pj_shape.specs.Writing.{owns}
use Rattle.pj_shape.proofs.writing.own_tokens.Given as goal

abbrev pub invariant-loop-place : goal.invariant-loop-place
invariant-loop-place l = record {
  left : fold after_call l.builder (owns (slice_range l.tokens l.place l.to)) ≡ fold after_call l.fn.builder (owns (slice_range l.tokens l.from l.to));
  «open» : IsSome l.builder.current;
}
