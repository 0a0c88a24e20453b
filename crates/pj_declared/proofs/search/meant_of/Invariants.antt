use Rattle.std.proofs.Common.{◌<◌, length}
use Rattle.pj_declared.proofs.Along.{IsLeft}
use Rattle.pj_declared.proofs.search.meant_of.Given as goal

abbrev pub invariant-loop-around : goal.invariant-loop-around
invariant-loop-around l = (l.at.0 < length l.tree.nodes) × IsLeft l.tree l.rows l.name l.fn.place l.at l.known

abbrev pub decreases-loop-around : goal.decreases-loop-around
decreases-loop-around l = l.at.0
