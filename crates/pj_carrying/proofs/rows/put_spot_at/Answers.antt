use Rattle.std.proofs.Common.{ap, arith, set, sym, ◌∙◌}
use Rattle.std.proofs.lemmas.List.{set_past}
use Rattle.pj_reports.specs.declared.ruled.Ruled.{Ruled}
use Rattle.pj_carrying.specs.ByRule.{row_at, with_spot}
use Rattle.pj_carrying.proofs.ByRule.{row_here}
use Rattle.pj_carrying.proofs.rows.put_spot_at.Goals as goal

pub returns-then-rule-len : goal.returns-then-rule-len
returns-then-rule-len c = sym (set_past c.args.all.now.items c.args.rule (with_spot (row_at c.args.all.now.items c.args.rule) c.args.spot) (omega arith))

pub returns : goal.returns
returns c =
    ap (λ (r : Ruled). set c.args.all.now.items c.args.rule r)
    (c.in_ok-put_spot.ensures ∙ ap (λ (r : Ruled). with_spot r c.args.spot) (row_here c.args.all.now.items c.args.rule c.index_mut-row.result.now (omega arith) c.index_mut-row.ensures.value))
