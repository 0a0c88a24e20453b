use Rattle.std.proofs.Common.{Option, Bor, List, ℕ, sym, subst}
use Rattle.std.specs.Option.{option_copied}
use Rattle.pj_rule_sets.specs.Faults.{HasNoPattern}
use Rattle.pj_rule_sets.specs.Patterns.{whole, whole_of}
use Rattle.pj_xpatterns.specs.Meaning.{IsNoPattern}
use Rattle.pj_rule_sets.proofs.Lists.{none-one, weaken}
use Rattle.pj_rule_sets.proofs.patterns.is_covered_by.Goals as goal

pub returns-in-Err-clause-refused : goal.returns-in-Err-clause-refused
returns-in-Err-clause-refused c =
    weaken (IsNoPattern (whole c.as_str.result.now)) (HasNoPattern (whole_of (option_copied c.args.pattern)))
    (λ h. subst (λ (o : Option (Bor (List ℕ))). HasNoPattern (whole_of (option_copied o))) (sym c.in-Some.is)
    (none-one (whole c.in-Some.pattern.now) (subst (λ t. IsNoPattern (whole t)) c.as_str.ensures h)))
    c.in-Err.fault c.in-Err.ensures.refused
