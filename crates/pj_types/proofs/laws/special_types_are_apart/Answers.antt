use Rattle.std.proofs.Common.{refl}
use Rattle.pj_types.specs.Substitution.{erased}
use Rattle.pj_types.specs.Subtyping.{erased_under}
use Rattle.pj_types.proofs.SubtypingLaws.{under-null, under-unknown, under-void}
use Rattle.pj_types.proofs.laws.special_types_are_apart.Goals as goal

pub returns : goal.returns
unfolding erased_under
returns c = record {
  null_below = λ depth world ty. refl;
  null_above = λ depth world ty. under-null depth world (erased ty);
  void_below = λ depth world ty. refl;
  void_above = λ depth world ty. under-void depth world (erased ty);
  unknown_below = λ depth world ty. refl;
  unknown_above = λ depth world ty. under-unknown depth world (erased ty);
}
