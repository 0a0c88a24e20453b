use Rattle.pj_peg.proofs.ask.end_at.Goals as goal

pub loop-preserved : goal.loop-preserved
loop-preserved c = c.answer.ensures.sound
