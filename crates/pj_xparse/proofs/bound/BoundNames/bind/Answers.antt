use Rattle.std.proofs.Common.{◌≡◌, ◌+◌, cond, ◌∙◌, ◌∷◌, ap, sym, subst, length, List, ℕ, arith}
use Rattle.std.specs.Prelude.{reverse}
use Rattle.std.proofs.lemmas.List.{length-map, length-reverse}
use Rattle.std.specs.Borrow.{Bor}
use Rattle.std.specs.Str.{bytes_eq}
use Rattle.pj_xparse.specs.Bound.{names_in, count_in, times, AreCounts}
use Rattle.pj_xparse.proofs.Lists.{pushed}
use Rattle.pj_xparse.proofs.NameCounts.{times-le-length, inserted, one_more}
use Rattle.pj_xparse.proofs.bound.BoundNames.bind.Goals as goal

pub overflow_add-count : goal.overflow_add-count
overflow_add-count c =
    let names = c.args.self.now.names in
    let count : c.count-count.result ≡ times c.args.name.now (names_in names.items) = c.count-count.ensures ∙ c.requires c.args.name.now in
    let most = times-le-length c.args.name.now (names_in names.items) in
    let same : length (names_in names.items) ≡ length names.items = length-map (reverse names.items) (λ (name : Bor (List ℕ)). name.now) ∙ length-reverse names.items in
    let small = names.small in
    omega (arith, count, most, same)

pub returns-clause-counts : goal.returns-clause-counts
returns-clause-counts c =
    let name = c.args.name.now in
    let counts = c.args.self.now.counts in
    let names = names_in c.args.self.now.names.items in
    let put : names_in c.push.new.self.items ≡ name ∷ names = ap names_in c.in_ok-push.ensures.items ∙ pushed (λ (n : Bor (List ℕ)). n.now) c.args.self.now.names.items c.args.name in
    subst (AreCounts c.insert.new.self) (sym put)
    (one_more name counts c.insert.new.self names c.requires (λ q.
    inserted name counts c.insert.new.self _ c.in_ok-insert.ensures.updates q
    ∙ ap (λ n. cond (bytes_eq name q) (n + 1) (count_in counts q)) c.count-count.ensures))
