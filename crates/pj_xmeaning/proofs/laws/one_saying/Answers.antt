use Rattle.std.proofs.Common.{◌≡◌}
use Rattle.pj_ll.specs.Leads.{Behind, Derives}
use Rattle.pj_xgrammar.specs.Predictive.{of_xpath}
use Rattle.pj_xmeaning.proofs.Sayings.{one_saying}
use Rattle.pj_xmeaning.proofs.laws.one_saying.Goals as goal

pub returns : goal.returns
returns c = λ end tokens a b predictive.
    one_saying c.rules_have_their_numbers.ensures.rules
    (λ terminals ps qs. of_xpath predictive (λ g. Derives g terminals ps → Derives g terminals qs → ps ≡ qs)
    (λ facts entries ok. c.one_derivation.ensures.whole facts entries terminals ps qs ok))
    (λ before ps qs ss rs. of_xpath predictive (λ g. Behind g before ps ss → Behind g before qs rs → (ps ≡ qs) × (ss ≡ rs))
    (λ facts entries ok. c.one_derivation.ensures.beginning facts entries before ps qs ss rs ok))
    end tokens a b
