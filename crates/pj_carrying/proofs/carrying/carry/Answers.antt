use Rattle.std.proofs.Common.{◌≡◌, subst, sym, ◌∙◌}
use Rattle.std.specs.Prelude.{IfOk}
use Rattle.pj_cache.proofs.Paths.{not_both}
use Rattle.pj_cache.specs.declared.cache.Cache.{Cache}
use Rattle.pj_carrying.proofs.Keyed.{carried_other, carried_same}
use Rattle.pj_carrying.proofs.carrying.carry.Goals as goal

pub returns-then-not-is_same : goal.returns-then-not-is_same
returns-then-not-is_same c =
    (λ i. let cache : Cache = record { answers = c.empty.ensures.answers i; entries = c.empty.ensures.entries i } in cache)
    ∙ sym (carried_other c.args.old c.args.key.now c.args.keys.now (λ same. not_both c.is-is_same.result (c.is-is_same.ensures.1 same) c.if-not-is_same.true))

pub returns : goal.returns
returns c =
    subst (λ (x : Cache). IfOk c.carry_all.result (λ cache. cache ≡ x)) (sym (carried_same c.args.old c.args.key.now c.args.keys.now (c.is-is_same.ensures.0 c.if-not-is_same.false))) c.carry_all.ensures
