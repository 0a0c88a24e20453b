use Rattle.std.proofs.Common.{rules}
use Rattle.pj_names.proofs.AskingLaws.{asks-stop}
use Rattle.pj_table.proofs.OracleLaws.{asks-name-answer, asks-name-memory}
use Rattle.pj_table.specs.Names.{part_of}
use Rattle.pj_shared_files.proofs.Answering.{found_is}
use Rattle.pj_shared_files.proofs.closed_oracle.ClosedOracleOracle.ask.Goals as goal

pub returns-in_err-copied : goal.returns-in_err-copied
returns-in_err-copied g c = asks-stop (search rules)

pub returns-in_err-insert : goal.returns-in_err-insert
returns-in_err-insert g c = rw c.in_err-insert.ensures.err (asks-stop (search rules))

pub returns-in_err-clone-in-Some : goal.returns-in_err-clone-in-Some
returns-in_err-clone-in-Some g c = asks-name-memory (search rules) (search rules) (search rules) (search rules) (search rules)

pub returns-in-None : goal.returns-in-None
returns-in-None g c = asks-name-memory (search rules) (search rules) (search rules) (search rules) (search rules)

pub returns-in_ok-clone-in-Some : goal.returns-in_ok-clone-in-Some
returns-in_ok-clone-in-Some g c =
    let s = c.args.self.now in let name = c.args.name.now in
    asks-name-answer {a = c.in-Some.answer.now.value} (search rules) (search rules) (search rules) (search rules) (search rules)
    (found_is g.W.Knowing.world s.closed.now.parts.items (part_of name) name c.in-Some.answer.now s.right c.in-Some.ensures.some)
