use Rattle.pj_types.proofs.SubtypingLaws.{classes-by-list, under-itself}
use Rattle.pj_types.proofs.laws.subtyping_is_by_the_list.Goals as goal

pub returns : goal.returns
returns c = record {
  classes = λ depth world lower upper arguments others some. classes-by-list depth world lower upper arguments others some;
  itself = λ depth world ty. under-itself depth world ty;
}
