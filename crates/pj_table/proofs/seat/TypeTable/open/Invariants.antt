use Rattle.pj_table.proofs.seat.TypeTable.open.Given as goal

abbrev pub ghosts-open_named : goal.ghosts-open_named
ghosts-open_named g a = record { world = g.D.ClassDoor.holds a._door.now }
