use Rattle.std.proofs.Common.{rules, ◌≡◌, ◌≤◌, ◌∙◌, map, ap, sym, subst, arith}
use Rattle.pj_rules.specs.Gathering.{counted}
use Rattle.pj_rules.specs.Load.{count_of, effective, greatest_count}
use Rattle.pj_rules.specs.States.{top_rules}
use Rattle.pj_rules.proofs.CountFacts.{counts}
use Rattle.pj_rules.proofs.loading.set_of.Goals as goal

pub returns-then-count-gt-GREATEST_COUNT-clause-many : goal.returns-then-count-gt-GREATEST_COUNT-clause-many
returns-then-count-gt-GREATEST_COUNT-clause-many c =
    let m = c.args.minimum in
    let marker = c.args.marker.now in
    let tops = map top_rules c.args.tops in
    let same : c.in_ok-count.count ≡ count_of (effective m marker tops) =
    c.in_ok-count.ensures ∙ ap (λ ts. counted m (map top_rules ts)) c.as_slice.ensures ∙ counts m marker tops in
    (same, omega arith)

pub returns-clause-few : goal.returns-clause-few
returns-clause-few c =
    let m = c.args.minimum in
    let marker = c.args.marker.now in
    let tops = map top_rules c.args.tops in
    let same : c.in_ok-count.count ≡ count_of (effective m marker tops) =
    c.in_ok-count.ensures ∙ ap (λ ts. counted m (map top_rules ts)) c.as_slice.ensures ∙ counts m marker tops in
    let few : c.in_ok-count.count ≤ greatest_count = omega arith in
    let set : c.of.result ≡ effective m marker tops = search rules in
    subst (λ s. count_of s ≤ greatest_count) (sym set) (subst (λ n. n ≤ greatest_count) same few)
