use Rattle.std.proofs.Common.{refl, None, []}
use Rattle.pj_ll.proofs.Moving.{unique, start_stack, one_behind}
use Rattle.pj_ll.proofs.laws.one_derivation.Goals as goal

pub returns : goal.returns
returns c = record {
  whole = λ facts entries terminals ps qs ok d e. (unique facts entries ok qs [] None d e (start_stack facts entries ok) refl refl).0;
  beginning = λ facts entries before ps qs ss ends ok d e. one_behind facts entries ok d e;
}
