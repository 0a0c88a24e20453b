use Rattle.std.proofs.Common.{◌≡◌, ◌<◌, List, length, subst, sym, ◌∙◌}
use Rattle.std.specs.List.{All}
use Rattle.pj_carry.specs.Carried.{First, Key, first_rules}
use Rattle.pj_carry.proofs.Firsts.{below}
use Rattle.pj_carrying.proofs.firsts.first_rules.Goals as goal

numbers_of : (keys : List Key) (firsts : List First) → firsts ≡ first_rules keys → All (λ (f : First). f.1 < length keys) firsts
numbers_of keys firsts is = subst (λ (l : List First). All (λ (f : First). f.1 < length keys) l) (sym is) (below keys)

pub returns-clause-numbers : goal.returns-clause-numbers
returns-clause-numbers c = numbers_of c.args.keys.now _ (c.in_ok-firsts.ensures ∙ c.in_ok-held.ensures)
