use Rattle.std.proofs.Common.{refl}
use Rattle.pj_declared.proofs.Own.{meant_in_rest}
use Rattle.pj_declared.proofs.search.rows_of.Goals as goal

pub returns-clause-same : goal.returns-clause-same
returns-clause-same c t place =
    meant_in_rest t c.args.rows.now _ c.args.name.now place c.count_below-first.result c.count_below-past.result refl c.count_below-first.ensures.split c.count_below-past.ensures.split c.count_below-past.ensures.few
