use Rattle.pj_markup.proofs.reader.Reader.+take_back.Given as goal

abbrev pub decreases-take_back : goal.decreases-take_back
decreases-take_back l = l.count
