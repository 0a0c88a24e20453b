use Rattle.std.proofs.Common.{◌≡◌}
use Rattle.pj_ll.specs.Leads.{Behind, Derives}
use Rattle.pj_ll.specs.Outcome.{IsLeftOutAt}
use Rattle.pj_xgrammar.specs.Predictive.{of_xpath}
use Rattle.pj_xmeaning.proofs.Sayings.{readings_are_whole}
use Rattle.pj_xmeaning.proofs.laws.readings_are_whole.Goals as goal

pub returns : goal.returns
returns c = λ tokens a predictive.
    readings_are_whole c.rules_have_their_numbers.ensures.rules
    (λ before ps qs ss rs. of_xpath predictive (λ g. Behind g before ps ss → Behind g before qs rs → ss ≡ rs)
    (λ facts entries ok d e. (c.one_derivation.ensures.beginning facts entries before ps qs ss rs ok d e).1))
    (λ terminals ps d i. of_xpath predictive (λ g. Derives g terminals ps → IsLeftOutAt g terminals i → ⊥)
    (λ facts entries ok. c.derived_is_not_left_out.ensures facts entries terminals ps i ok) d)
    tokens a
