use Rattle.std.proofs.Common.{◌∙◌, ◌==◌, ap, subst, sym}
use Rattle.std.specs.List.{list_any}
use Rattle.std.specs.List.Sorted.{IsNonDecreasing}
use Rattle.pj_suppress.proofs.Bisection.{found_or_not}
use Rattle.pj_suppress.proofs.comments.is_marked.Goals as goal

pub returns : goal.returns
returns c =
    let held = c.as_slice.ensures in
    let rises = subst IsNonDecreasing (sym held) c.requires.ascending in
    c.is_ok.ensures.value ∙ found_or_not c.as_slice.result.now c.args.line c.binary_search.result c.binary_search.ensures.position rises
    ∙ ap (list_any (λ other. other == c.args.line)) held
