use Rattle.std.proofs.Common.{◌≡◌}
use Rattle.pj_ll.specs.Leads.{Derives}
use Rattle.pj_xgrammar.specs.Predictive.{of_xpath}
use Rattle.pj_xgrammar.specs.Terminals.{numbers}
use Rattle.pj_xderive.proofs.laws.one_derivation.Goals as goal

pub returns : goal.returns
returns c = λ tokens ps qs.
    of_xpath c.grammar_is_predictive.ensures (λ g. Derives g (numbers tokens) ps → Derives g (numbers tokens) qs → ps ≡ qs)
    (λ facts entries ok. c.one_derivation.ensures.whole facts entries (numbers tokens) ps qs ok)
