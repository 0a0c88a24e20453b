use Rattle.pj_reuse.proofs.Standing.{places_served, names_looked}
use Rattle.pj_reuse.proofs.laws.served_is.Goals as goal

pub returns-clause-places : goal.returns-clause-places
returns-clause-places c depth world answers results keys = places_served depth world answers results keys

pub returns-clause-names : goal.returns-clause-names
returns-clause-names c depth world answers results keys = names_looked depth world answers results keys
