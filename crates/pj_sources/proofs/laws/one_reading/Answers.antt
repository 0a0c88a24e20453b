use Rattle.pj_sources.proofs.ReadingLaws.{one_reading, one_refusal, read_is_not_refused}
use Rattle.pj_sources.proofs.Existence.{some_outcome}
use Rattle.pj_sources.proofs.laws.one_reading.Goals as goal

pub returns-clause-one : goal.returns-clause-one
returns-clause-one c = one_reading

pub returns-clause-one_refusal : goal.returns-clause-one_refusal
returns-clause-one_refusal c = one_refusal

pub returns-clause-not_refused : goal.returns-clause-not_refused
returns-clause-not_refused c = read_is_not_refused

pub returns-clause-some : goal.returns-clause-some
returns-clause-some c = some_outcome
