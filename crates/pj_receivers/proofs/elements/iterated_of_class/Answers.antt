use Rattle.std.proofs.Common.{◌≡◌, ℕ, List, false, rules, subst}
use Rattle.std.specs.Prelude.{codes}
use Rattle.pj_written.specs.Words.{same_text}
use Rattle.pj_receivers.proofs.elements.iterated_of_class.Goals as goal

pub returns : goal.returns
returns g c =
    let same : same_text c.as_str.result.now (codes "java.lang.Iterable") ≡ false = search rules in
    let other : same_text c.args.class.now (codes "java.lang.Iterable") ≡ false =
    subst (λ (name : List ℕ). same_text name (codes "java.lang.Iterable") ≡ false) c.as_str.ensures.value same in
    rw other c.iterated_along.ensures
