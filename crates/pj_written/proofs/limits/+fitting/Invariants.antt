use Rattle.std.proofs.Common.{◌≡◌, ◌+◌, ◌*◌, length}
use Rattle.std.specs.List.{list_all}
use Rattle.pj_tree.proofs.Inside.{AreInside}
use Rattle.pj_tree.specs.Tree.{children_of}
use Rattle.pj_written.specs.Fits.{argument_by, fits_within}
use Rattle.pj_written.proofs.limits.+fitting.Given as goal

-- within a list of arguments a type counts one level less
abbrev pub decreases-fits_within : goal.decreases-fits_within
decreases-fits_within l = 4 * l.deep

abbrev pub decreases-listed_fit : goal.decreases-listed_fit
decreases-listed_fit l = 4 * l.deep + 3

abbrev pub decreases-arguments_fit : goal.decreases-arguments_fit
decreases-arguments_fit l = 4 * l.deep + 2

abbrev pub decreases-argument_fits : goal.decreases-argument_fits
decreases-argument_fits l = 4 * l.deep + 1

abbrev pub invariant-arguments_fit-loop-argument : goal.invariant-arguments_fit-loop-argument
invariant-arguments_fit-loop-argument l =
    (list_all (argument_by l.tree (fits_within l.tree l.deep l.around)) l.argument-iterator ≡ list_all (argument_by l.tree (fits_within l.tree l.deep l.around)) (children_of l.tree l.fn.list))
    × (AreInside (length l.tree.nodes) l.argument-iterator)
