use Rattle.pj_check.proofs.classes.analyse_sources.Given as goal

-- it is known to never fail where it never does at the call
abbrev pub ghosts-report_over_classes : goal.ghosts-report_over_classes
ghosts-report_over_classes g a = record { never_fails = g.C.ClassPath.never_fails a.classes.now }
