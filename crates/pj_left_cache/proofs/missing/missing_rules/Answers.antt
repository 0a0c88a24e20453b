use Rattle.std.proofs.Common.{◌≡◌, IfOk, ℕ, List, map, ap, subst, ◌∙◌}
use Rattle.pj_fitting.specs.Right.{Key}
use Rattle.pj_left_cache.specs.Missing.{missing_from, missing_rules, with_results}
use Rattle.pj_left_cache.proofs.MissingLaws.{missing_besides, number}
use Rattle.pj_left_cache.proofs.missing.missing_rules.Goals as goal

pub returns : goal.returns
returns c =
    let stay = c.args.stay.now in
    let keys = c.args.keys.now in
    let active = c.args.is_active.now in
    let same : map number (missing_from c.note_results.new.held.keys 0 keys active) ≡ map number (missing_rules stay keys active) =
    ap (λ (held : List Key). map number (missing_from held 0 keys active)) (c.in_ok-note_results.ensures ∙ ap (λ (held : List Key). with_results held stay) c.new-held.ensures.empty)
    ∙ ap (λ (l : List (ℕ × Key)). map number l) (missing_besides stay keys active) in
    subst (λ (l : List ℕ). IfOk c.numbers_besides.result (λ numbers. numbers ≡ l)) same c.numbers_besides.ensures
