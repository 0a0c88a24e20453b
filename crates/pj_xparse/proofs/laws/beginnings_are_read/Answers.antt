use Rattle.pj_xparse.proofs.Outcomes.{begun_read, read_begun}
use Rattle.pj_xparse.proofs.laws.beginnings_are_read.Goals as goal

pub returns : goal.returns
returns c = record {
  read = begun_read c.beginnings_are_read.ensures.read c.beginnings_lead.ensures.led;
  begun = read_begun c.beginnings_are_read.ensures.led c.beginnings_lead.ensures.begun;
  whole = λ tokens it. c.derivations_are_readings.ensures tokens it.expression.0 it.expression.1 it.clear;
  expression = λ tokens w.
      let d = c.readings_are_derivations.ensures tokens w.0 w.1 in
      record { expression = (d.0, d.1); clear = d.2 };
}
