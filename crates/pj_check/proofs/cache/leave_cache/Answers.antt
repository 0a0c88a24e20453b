use Rattle.pj_check.proofs.Leaving.{counts_if, kept_if, kept_of}
use Rattle.pj_check.proofs.cache.leave_cache.Goals as goal

pub returns-in-Some-clause-kept : goal.returns-in-Some-clause-kept
returns-in-Some-clause-kept g c =
    kept_of c.args.left.now c.in-Some.left c.is_err.result _ _ c.as_str.result.now c.as_slice.result.now c.in-Some.is c.as_str.ensures c.as_slice.ensures
    (kept_if c.replace.result c.is_err.result _ _ c.as_str.result.now c.as_slice.result.now c.is_err.ensures.value c.replace.ensures.replaced c.replace.ensures.failed)

pub returns-in-Some-clause-counts : goal.returns-in-Some-clause-counts
returns-in-Some-clause-counts g c = counts_if c.replace.result c.is_err.result _ _ c.is_err.ensures.value c.replace.ensures.counts_faults
