use Rattle.pj_xderive.proofs.BeginningsLead.{begun_leads, lead_on, leads_begin, terminals_lead}
use Rattle.pj_xderive.proofs.laws.beginnings_lead.Goals as goal

pub returns : goal.returns
returns c = record { led = begun_leads; begun = leads_begin; terminals_led = terminals_lead; terminals_begun = lead_on }
