use Rattle.std.proofs.Common.{sym}
use Rattle.pj_table.proofs.Indexes.{found_stands, missing_lacks}
use Rattle.pj_table.proofs.part.Part.place_of.Goals as goal

pub returns-in-Some-clause-some : goal.returns-in-Some-clause-some
returns-in-Some-clause-some c = let s = c.args.self.now in found_stands s.entries.items s.places.entries c.args.name.now c.in-Some.place.now s.indexed (sym c.in-Some.ensures.value)

pub returns-in-None-clause-none : goal.returns-in-None-clause-none
returns-in-None-clause-none c = let s = c.args.self.now in missing_lacks s.entries.items s.places.entries c.args.name.now s.indexed (sym c.in-None.ensures.value)
