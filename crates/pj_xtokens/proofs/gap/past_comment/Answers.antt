use Rattle.std.proofs.Common.{◌≡◌, ◌+◌, ◌-◌, suc, sym, subst, arith, rules}
use Rattle.std.specs.Str.{chars}
use Rattle.pj_xtokens.specs.Gaps.{Comment, ended, closed, opened, other}
use Rattle.pj_xtokens.proofs.Gapped.{at_close, at_open, at_other}
use Rattle.pj_xtokens.proofs.gap.past_comment.Goals as goal

pub returns-then-open-eq0-clause-value : goal.returns-then-open-eq0-clause-value
returns-then-open-eq0-clause-value c =
    c.loop-further.invariant.onward _
    (subst (λ n. Comment n (chars c.loop-further.rest.now) (chars c.in-Some-behind_pair.behind.now)) (sym c.if-open-eq0.true) (ended _ _ c.in-Some-behind_pair.ensures.split))

pub loop-further-preserved-in-Some-behind_pair : goal.loop-further-preserved-in-Some-behind_pair
loop-further-preserved-in-Some-behind_pair c =
    let less : c.loop-further.open ≡ suc (c.loop-further.open - 1) = omega (arith, c.if-open-eq0.false) in
    record {
      is_text = search rules;
      room = omega (arith, c.in-Some-behind_pair.ensures.shorter, c.if-open-eq0.false);
      onward = λ t k. c.loop-further.invariant.onward t (subst (λ n. Comment n (chars c.loop-further.rest.now) t) (sym less) (closed _ _ _ t c.in-Some-behind_pair.ensures.split k));
      back = λ t k. at_close _ _ _ _ t c.in-Some-behind_pair.ensures.split less (c.loop-further.invariant.back t k);
    }

pub loop-further-preserved-in-Some-behind_pair-2 : goal.loop-further-preserved-in-Some-behind_pair-2
loop-further-preserved-in-Some-behind_pair-2 c =
    let more : c.loop-further.open + 1 ≡ suc c.loop-further.open = omega arith in
    record {
      is_text = search rules;
      room = omega (arith, c.in-Some-behind_pair-2.ensures.shorter);
      onward = λ t k. c.loop-further.invariant.onward t
          (opened _ _ _ t c.in-Some-behind_pair-2.ensures.split (subst (λ n. Comment n (chars c.in-Some-behind_pair-2.behind.now) t) more k));
      back = λ t k. subst (λ n. Comment n (chars c.in-Some-behind_pair-2.behind.now) t) (sym more) (at_open _ _ _ t c.in-Some-behind_pair-2.ensures.split (c.loop-further.invariant.back t k));
    }

pub loop-further-preserved : goal.loop-further-preserved
loop-further-preserved c = record {
  is_text = search rules;
  room = omega (arith, c.in-Some.ensures.shorter);
  onward = λ t k. c.loop-further.invariant.onward t (other _ _ _ _ t c.in-Some.ensures.chars c.in_default-behind_pair-2.ensures.split c.in_default-behind_pair.ensures.split k);
  back = λ t k. at_other _ _ _ _ t c.in-Some.ensures.chars c.in_default-behind_pair-2.ensures.split c.in_default-behind_pair.ensures.split (c.loop-further.invariant.back t k);
}
