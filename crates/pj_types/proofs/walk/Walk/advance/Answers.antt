use Rattle.std.proofs.Common.{◌≡◌, ◌<◌, ◌+◌, length, reverse, take, subst}
use Rattle.std.specs.FinSet as set
use Rattle.pj_names.specs.JavaType.{java_type}
use Rattle.pj_types.specs.Seen.{all_listed}
use Rattle.pj_types.proofs.Steps.{class-given, left, visited-one}
use Rattle.pj_types.proofs.walk.Walk.advance.Goals as goal

pub invariant_of-self-in-Ok : goal.invariant_of-self-in-Ok
invariant_of-self-in-Ok c = visited-one c.self.inside.visited _ c.self.inside.given _ c.index.result.now c.in-Ok.ensures.visited c.in-Ok.ensures.given c.self.invariant

pub returns-in-Ok-clause-value : goal.returns-in-Ok-clause-value
returns-in-Ok-clause-value c =
    let visited = c.self.inside.visited in
    let pushed = c.push_reversed.new.to_visit.items in
    let below = subst (λ xs. c.in-Some.place < length xs) c.deref.ensures.value c.in-Some.ensures.0 in
    let next = subst (λ xs. left (set.contains visited) xs ≡ all_listed (reverse (take (c.in-Some.place + 1) xs))) c.deref.ensures.value c.in-Some.ensures.1 in
    let given = class-given visited c.self.inside.given c.give.new.given c.self.inside.to_visit.items c.args.more pushed c.in-Some.place c.index.result.now (java_type c.in-Ok.ty)
    c.self.invariant c.in_ok-push_reversed.ensures.ok below c.index.ensures next c.in-Ok.ensures.ty c.in-Ok.ensures.given in
    rw (c.truncate-in-Ok.ensures.items, ← c.self.view_is) given
