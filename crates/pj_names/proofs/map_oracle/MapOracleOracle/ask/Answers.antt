use Rattle.std.proofs.Common.{rules}
use Rattle.pj_names.proofs.AskingLaws.{asks-stop}
use Rattle.pj_names.proofs.Oracles.{list-asks}
use Rattle.pj_names.proofs.map_oracle.MapOracleOracle.ask.Goals as goal

pub returns-in_err-copied : goal.returns-in_err-copied
returns-in_err-copied c = asks-stop (search rules)

pub returns-in_err-insert : goal.returns-in_err-insert
returns-in_err-insert c = rw c.in_err-insert.ensures.err (asks-stop (search rules))

pub returns-in_err-clone-in-Some : goal.returns-in_err-clone-in-Some
returns-in_err-clone-in-Some c = list-asks c.args.self.now.answers (search rules) (search rules) (λ e. search rules)

pub returns-in_err-new-in-None : goal.returns-in_err-new-in-None
returns-in_err-new-in-None c = list-asks c.args.self.now.answers (search rules) (search rules) (λ e. search rules)

pub returns-in_ok-clone-in-Some : goal.returns-in_ok-clone-in-Some
returns-in_ok-clone-in-Some c = list-asks c.args.self.now.answers (search rules) (search rules) (λ e. search rules)

pub returns-in_ok-new-in-None : goal.returns-in_ok-new-in-None
returns-in_ok-new-in-None c = list-asks c.args.self.now.answers (search rules) (search rules) (λ e. search rules)
