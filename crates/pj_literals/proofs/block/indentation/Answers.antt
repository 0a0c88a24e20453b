use Rattle.std.proofs.Common.{sym, ap, ◌∙◌, length, arith, below_more}
use Rattle.std.proofs.lemmas.List.{get_or_read}
use Rattle.std.proofs.lemmas.List.Sums.{prefix_len_is}
use Rattle.pj_literals.specs.TextBlock.{is_white_space}
use Rattle.pj_literals.proofs.block.indentation.Goals as goal

pub returns-then-not-is_white_space : goal.returns-then-not-is_white_space
returns-then-not-is_white_space c = record {
  value =
      sym (prefix_len_is is_white_space c.args.line.now c.loop-i.i 0 (omega arith) c.loop-i.invariant
      (λ h. ap is_white_space (sym (get_or_read c.args.line.now _ _ h c.index-line-i.is 0)) ∙ sym c.is_white_space.ensures ∙ c.if-not-is_white_space.true));
}

pub loop-i-preserved : goal.loop-i-preserved
loop-i-preserved c =
    below_more _ _ c.loop-i.invariant
    (ap is_white_space (sym (get_or_read c.args.line.now _ _ (omega arith) c.index-line-i.is 0)) ∙ sym c.is_white_space.ensures ∙ c.if-not-is_white_space.false)

pub returns : goal.returns
returns c = record {
  value = sym (prefix_len_is is_white_space c.args.line.now (length c.args.line.now) 0 (omega arith) (λ k h. c.loop-i.invariant k (omega arith)) (λ h. absurd (omega arith)));
}
