use Rattle.std.proofs.Common.{◌≡◌, ◌++◌, map, drop}
use Rattle.pj_xpatterns.specs.Written.{variables_of, of_each, of_second, seen_of, bound_seen, next_seen}
use Rattle.pj_xpatterns.proofs.written.+gathering.Given as goal

abbrev pub invariant-gather_all-loop-part : goal.invariant-gather_all-loop-part
invariant-gather_all-loop-part l = l.found ++ of_each (map (seen_of (variables_of l.variables)) (drop l.part-index l.parts)) ≡ l.fn.found ++ of_each (map (seen_of (variables_of l.variables)) l.parts)

abbrev pub invariant-gather_bound-loop-part : goal.invariant-gather_bound-loop-part
invariant-gather_bound-loop-part l = l.found ++ of_second (map (bound_seen (variables_of l.variables)) (drop l.part-index l.parts)) ≡ l.fn.found ++ of_second (map (bound_seen (variables_of l.variables)) l.parts)

abbrev pub invariant-gather_sums-loop-part : goal.invariant-gather_sums-loop-part
invariant-gather_sums-loop-part l = l.found ++ of_second (map (next_seen (variables_of l.variables)) (drop l.part-index l.parts)) ≡ l.fn.found ++ of_second (map (next_seen (variables_of l.variables)) l.parts)

abbrev pub invariant-gather_products-loop-part : goal.invariant-gather_products-loop-part
invariant-gather_products-loop-part l = l.found ++ of_second (map (next_seen (variables_of l.variables)) (drop l.part-index l.parts)) ≡ l.fn.found ++ of_second (map (next_seen (variables_of l.variables)) l.parts)

abbrev pub invariant-gather_sets-loop-part : goal.invariant-gather_sets-loop-part
invariant-gather_sets-loop-part l = l.found ++ of_second (map (next_seen (variables_of l.variables)) (drop l.part-index l.parts)) ≡ l.fn.found ++ of_second (map (next_seen (variables_of l.variables)) l.parts)
