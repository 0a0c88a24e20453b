use Rattle.std.proofs.Common.{◌≡◌, [], ◌∷◌, sym, subst, rules}
use Rattle.pj_rule_sets.specs.Faults.{HasNoPattern}
use Rattle.pj_rule_sets.specs.Patterns.{pattern_of_property}
use Rattle.pj_xpatterns.specs.Meaning.{IsNoPattern, no_flags}
use Rattle.pj_rule_sets.proofs.Lists.{none-one, of_first}
use Rattle.pj_rule_sets.proofs.patterns.judge_property.Goals as goal

pub returns-clause-refused : goal.returns-clause-refused
returns-clause-refused c =
    let property = c.args.property.now in
    let text = c.as_str.result.now in
    let is : pattern_of_property property ≡ (property.value, no_flags) ∷ [] = search rules in
    of_first (HasNoPattern (pattern_of_property property)) (λ t. (t ≡ text) × IsNoPattern (text, no_flags))
    (λ t h. subst HasNoPattern (sym is) (none-one (property.value, no_flags) (subst (λ s. IsNoPattern (s, no_flags)) c.as_str.ensures h.1)))
    c.in-Err.fault c.in-Err.ensures.refused
