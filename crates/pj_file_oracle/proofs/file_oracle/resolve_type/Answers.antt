use Rattle.pj_file_oracle.specs.FileAnswer.{file_answer}
use Rattle.pj_file_oracle.proofs.Answered.{all-stay}
use Rattle.pj_file_oracle.proofs.Holding.{all-held-stay}
use Rattle.pj_file_oracle.proofs.file_oracle.resolve_type.Goals as goal

pub invariant_of-oracle : goal.invariant_of-oracle
invariant_of-oracle g c =
    let t = g.O.Oracle.tells c.args.oracle.now.inner.now in
    let meaning = file_answer c.args.oracle.now.file.now in
    record {
      holds = all-held-stay meaning t c.args.oracle.now.held.now.answers.entries c.type_name.ensures c.args.oracle.now.holds;
      stands = all-stay meaning t c.args.oracle.now.answered.entries c.type_name.ensures c.args.oracle.now.stands;
    }
