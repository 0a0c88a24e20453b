use Rattle.std.proofs.Common.{sym, ap, ◌∙◌, arith}
use Rattle.sha2.specs.Sha256.{sha256}
use Rattle.pj_cache.proofs.Paths.{not_both}
use Rattle.pj_old_reading.proofs.sealed.sealed_content.Goals as goal

pub returns-then-not-is_begun : goal.returns-then-not-is_begun
returns-then-not-is_begun c =
    (omega (arith, c.if-bytes-lt44.false), λ same. not_both c.has_magic-is_begun.result (c.has_magic-is_begun.ensures.1 same) c.if-not-is_begun.true)

pub returns-then-not-is_right : goal.returns-then-not-is_right
returns-then-not-is_right c =
    record {
      long = omega (arith, c.if-bytes-lt44.false);
      magic_is = c.has_magic-is_begun.ensures.0 c.if-not-is_begun.false;
      kept_is = c.seal_of-kept.ensures;
      computed_is = c.digest_of-computed.ensures ∙ ap sha256 c.content_of-content.ensures;
      differ = λ same. not_both c.is_same-is_right.result (c.is_same-is_right.ensures.exact.1 same) c.if-not-is_right.true;
    }

pub returns : goal.returns
returns c = (
  record {
    long = omega (arith, c.if-bytes-lt44.false);
    magic_is = c.has_magic-is_begun.ensures.0 c.if-not-is_begun.false;
    seal_is = sym c.seal_of-kept.ensures ∙ c.is_same-is_right.ensures.exact.0 c.if-not-is_right.false ∙ c.digest_of-computed.ensures ∙ ap sha256 c.content_of-content.ensures;
  },
  c.content_of-content.ensures,
)
