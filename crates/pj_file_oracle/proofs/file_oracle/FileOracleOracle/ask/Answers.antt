use Rattle.pj_names.proofs.ExpandLaws.{asks-answer}
use Rattle.pj_file_oracle.specs.Held.{FileOwn, own_answer}
use Rattle.pj_file_oracle.proofs.file_oracle.FileOracleOracle.ask.Goals as goal

pub returns : goal.returns
returns g c =
    let own : FileOwn = record { tree = c.args.self.now.file.now; held = c.args.self.now.held.ghost_name } in
    asks-answer _ own own_answer c.args.name.now c.file_answer.ensures.asks
