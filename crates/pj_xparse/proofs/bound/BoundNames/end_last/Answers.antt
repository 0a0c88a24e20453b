use Rattle.std.proofs.Common.{◌≡◌, ◌-◌, cond, ◌∙◌, ◌++◌, ◌∷◌, [], ap, subst, List, ℕ, rules, arith}
use Rattle.std.specs.Borrow.{Bor}
use Rattle.std.specs.Str.{bytes_eq}
use Rattle.pj_xparse.specs.Bound.{names_in, count_in, AreCounts}
use Rattle.pj_xparse.proofs.Lists.{pushed}
use Rattle.pj_xparse.proofs.NameCounts.{inserted, one_less}
use Rattle.pj_xparse.proofs.bound.BoundNames.end_last.Goals as goal

pub returns-in_ok-insert-clause-counts : goal.returns-in_ok-insert-clause-counts
returns-in_ok-insert-clause-counts c =
    let name = c.in-Some.name.now in
    let counts = c.args.self.now.counts in
    let names = names_in c.pop.new.self.items in
    let popped : c.args.self.now.names.items ≡ c.pop.new.self.items ++ c.in-Some.name ∷ [] = first_of (search rules, grind arith) in
    let was : names_in c.args.self.now.names.items ≡ name ∷ names = ap names_in popped ∙ pushed (λ (n : Bor (List ℕ)). n.now) c.pop.new.self.items c.in-Some.name in
    one_less name counts c.insert.new.self names (subst (AreCounts counts) was c.requires) (λ q.
    inserted name counts c.insert.new.self _ c.in_ok-insert.ensures.updates q
    ∙ ap (λ n. cond (bytes_eq name q) n (count_in counts q)) (c.saturating_sub.ensures ∙ ap (λ n. n - 1) c.count-count.ensures))
