use Rattle.std.proofs.Common.{◌+◌, ◌<◌, sym, ◌∙◌, ap, subst, arith}
use Rattle.tests_java.proofs.TestTokens.{Letters, one_more, skipped}
use Rattle.tests_java.proofs.shapes.letters.Goals as goal
use Rattle.tests_java.proofs.shapes.letters.Goals.{then-bytes-at-ne32+in_ok-push, else-bytes-at-ne32}

pub loop-at-preserved : goal.loop-at-preserved
loop-at-preserved c = record {
  within = let h = c.loop-at-test.true in omega arith;
  state = elim c.if-bytes-at-ne32.branch [
    | then-bytes-at-ne32+in_ok-push w ↦ one_more c.args.text.now c.loop-at.at c.loop-at.tokens.items c.if-bytes-at-ne32.tokens.items c.if-not-is_ascii.ensures.cases
        (subst (λ n. c.loop-at.at < n) c.as_bytes-bytes.ensures.len c.loop-at-test.true) c.loop-at.invariant.state (ap (λ v. v.items) w.tokens-is ∙ w.in_ok-push.ensures.items)
    | else-bytes-at-ne32 w ↦ subst (λ v. Letters c.args.text.now (c.loop-at.at + 1) v.items) (sym w.tokens-is) (skipped c.args.text.now c.loop-at.at c.loop-at.tokens.items c.loop-at.invariant.state)
  ];
}
