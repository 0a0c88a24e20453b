use Rattle.std.proofs.Common.{◌≡◌, ◌∙◌, ◌==◌, ap, rules, subst, sym, take}
use Rattle.std.proofs.lemmas.Grind.{common_steps}
use Rattle.std.proofs.lemmas.List.Sorted.{IsNonDecreasingBy-from_sort, list_any-IsPermutation}
use Rattle.std.proofs.Common.{ℕ, arith}
use Rattle.std.specs.List.{list_any}
use Rattle.std.specs.List.Sorted.{IsNonDecreasing}
use Rattle.pj_suppress.specs.Marks.{is_marked}
use Rattle.pj_suppress.proofs.comments.marks.Goals as goal

pub returns-clause-lines : goal.returns-clause-lines
returns-clause-lines c = λ line.
    let items = c.as_slice-token-items.result.now in
    let all : take c.loop-token.token-index items ≡ items = first_of (search rules, grind (arith, common_steps)) in
    ap (list_any (λ other. other == line)) c.from_vec.ensures
    ∙ sym (list_any-IsPermutation (λ other. other == line) c.loop-token.lines.items c.sort.new.self.items c.sort.ensures.permutation)
    ∙ c.loop-token.invariant line
    ∙ ap (λ tokens. is_marked c.args.source.now tokens c.args.marker.now line) (all ∙ c.as_slice-token-items.ensures)

pub returns-clause-ascending : goal.returns-clause-ascending
returns-clause-ascending c =
    subst IsNonDecreasing (sym c.from_vec.ensures) (IsNonDecreasingBy-from_sort (λ (x : ℕ). x) c.sort.new.self.items c.in_ok-sort.ensures.sorted)
