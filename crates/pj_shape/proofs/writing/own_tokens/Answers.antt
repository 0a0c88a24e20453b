use Rattle.std.proofs.Common.{IsSome, sym, ◌∙◌, subst}
use Rattle.pj_shape.proofs.Opening.{own_step, owned_open}
use Rattle.pj_shape.proofs.writing.own_tokens.Goals as goal

pub loop-place-preserved : goal.loop-place-preserved
loop-place-preserved c = record {
  left = own_step c.loop-place.builder c.own.new.self c.args.tokens.now c.loop-place.place c.args.to c.token_at.result c.loop-place-test.true c.token_at.ensures.value c.in_ok-own.ensures.ok ∙ c.loop-place.invariant.left;
  «open» = subst (λ b. IsSome b.current) (sym c.in_ok-own.ensures.ok) (owned_open c.loop-place.builder c.token_at.result c.loop-place.invariant.open);
}
