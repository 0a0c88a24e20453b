use Rattle.std.proofs.Common.{◌≡◌, ℕ, List, Option, Some, ap, subst, sym, ◌∙◌}
use Rattle.std.specs.Prelude.{IfOk}
use Rattle.pj_cache.specs.declared.cache.Entry.{Entry}
use Rattle.pj_carry.specs.Carried.{entry_by}
use Rattle.pj_carry.specs.Form.{are_of_rules}
use Rattle.pj_carrying.proofs.entries.carry_entry.Goals as goal

pub returns-in-Some : goal.returns-in-Some
returns-in-Some c =
    ap (λ (e : Entry). let o : Option Entry = Some e in o) c.without_tree.ensures
    ∙ ap (λ (o : Option (List ℕ)). entry_by c.args.firsts.now c.args.old o (are_of_rules c.args.old.rows)) (sym c.in-Some.is ∙ c.in_ok-lone.ensures)

pub returns-in-None : goal.returns-in-None
returns-in-None c =
    subst (λ (o : Option (List ℕ)). IfOk c.carry_rows.result (λ entry. entry ≡ entry_by c.args.firsts.now c.args.old o (are_of_rules c.args.old.rows))) (sym c.in-None.is ∙ c.in_ok-lone.ensures) c.carry_rows.ensures
