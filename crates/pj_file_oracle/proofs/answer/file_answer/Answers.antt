use Rattle.pj_file_oracle.specs.FileAnswer.{file_answer}
use Rattle.pj_file_oracle.proofs.Answered.{all-stay}
use Rattle.pj_file_oracle.proofs.Holding.{all-held-stay}
use Rattle.pj_file_oracle.proofs.answer.file_answer.Goals as goal

pub returns-in-None-clause-answered : goal.returns-in-None-clause-answered
returns-in-None-clause-answered g c = all-stay (file_answer c.args.file.now) (g.O.Oracle.tells c.args.oracle.now) c.args.answered.now.entries c.ask.ensures c.requires.answered

pub returns-in-None-clause-held : goal.returns-in-None-clause-held
returns-in-None-clause-held g c = all-held-stay (file_answer c.args.file.now) (g.O.Oracle.tells c.args.oracle.now) c.args.held.now.entries c.ask.ensures c.requires.held
