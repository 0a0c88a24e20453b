use Rattle.std.proofs.Common.{Bool, Option, Some, None, ap, sym, ◌∙◌}
use Rattle.pj_cache.specs.declared.cache.Entry.{Entry}
use Rattle.pj_carry.specs.Carried.{entry_by}
use Rattle.pj_carrying.proofs.entries.carry_rows.Goals as goal

pub returns-then-not-of_rules : goal.returns-then-not-of_rules
returns-then-not-of_rules c = ap (λ (b : Bool). entry_by c.args.firsts.now c.args.old None b) (sym c.if-not-of_rules.true ∙ c.in_ok-of_rules.ensures)

pub returns : goal.returns
returns c =
    ap (λ (e : Entry). let o : Option Entry = Some e in o) c.in_ok-entry.ensures
    ∙ ap (λ (b : Bool). entry_by c.args.firsts.now c.args.old None b) (sym c.if-not-of_rules.false ∙ c.in_ok-of_rules.ensures)
