use Rattle.std.proofs.Common.{◌≡◌, IfOk, List, ap, subst, ◌∙◌}
use Rattle.pj_reports.specs.declared.ruled.Ruled.{Ruled}
use Rattle.pj_left_cache.specs.Said.{Rows, said_from, said_of_rules, with_groups}
use Rattle.pj_left_cache.proofs.SaidLaws.{said_all}
use Rattle.pj_left_cache.proofs.saying.rows_of_rules.Goals as goal

pub returns : goal.returns
returns c =
    let results = c.args.results.now in
    let keys = c.args.keys.now in
    let active = c.args.is_active.now in
    let same : said_from c.note_groups.new.held.entries keys active ≡ said_of_rules results keys active =
    ap (λ (rows : Rows). said_from rows keys active) (c.in_ok-note_groups.ensures ∙ ap (λ (rows : Rows). with_groups rows results) c.new-rows.ensures.empty) ∙ said_all results keys active in
    subst (λ (l : List Ruled). IfOk c.said_from.result (λ all. all ≡ l)) same c.said_from.ensures
