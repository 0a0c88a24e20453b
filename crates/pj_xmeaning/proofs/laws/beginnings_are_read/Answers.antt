use Rattle.pj_xmeaning.specs.Values.{said}
use Rattle.pj_xmeaning.proofs.Running.{beginning_said}
use Rattle.pj_xmeaning.proofs.Sayings.{beginning_leads}
use Rattle.pj_xmeaning.proofs.laws.beginnings_are_read.Goals as goal

pub returns : goal.returns
returns c =
    let rule_at = c.rules_have_their_numbers.ensures.rules in
    record {
      read = λ tokens i productions within leads. (said productions tokens, beginning_said rule_at tokens i productions within leads);
      led = beginning_leads rule_at;
    }
