use Rattle.pj_types.proofs.WalkLaws.{answers-prefix, step-asks}
use Rattle.pj_types.proofs.laws.walks_give_the_list.Goals as goal

pub returns : goal.returns
returns c = record {
  prefix = λ world name count depth h. answers-prefix depth world count depth name h;
  asks = λ depth world standing. step-asks depth world standing;
}
