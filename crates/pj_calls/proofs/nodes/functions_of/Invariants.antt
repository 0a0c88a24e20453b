use Rattle.std.proofs.Common.{◌≡◌, ◌++◌, drop}
use Rattle.pj_calls.specs.Nodes.{functions_from}
use Rattle.pj_calls.proofs.nodes.functions_of.Given as goal

abbrev pub invariant-loop-place : goal.invariant-loop-place
invariant-loop-place l = l.places ++ functions_from l.tree l.place (drop l.place l.arguments) ≡ functions_from l.tree 0 l.arguments
