use Rattle.std.proofs.Common.{◌≡◌, take}
use Rattle.std.specs.BTreeMap.{IsOrdered}
use Rattle.std.specs.Cmp.Lexicographic.{slice_cmp}
use Rattle.std.specs.Map.{values_of}
use Rattle.std.specs.Ordering.{nat_cmp}
use Rattle.pj_xpatterns.specs.Keys.{AreKeyed}
use Rattle.pj_xpatterns.specs.Meaning.{Pattern, has}
use Rattle.pj_xpatterns.specs.Refusing.{AreTaken}
use Rattle.pj_xpatterns.proofs.patterns.compiled.Given as goal

abbrev pub invariant-loop-pattern : goal.invariant-loop-pattern
invariant-loop-pattern l = record {
  keyed : AreKeyed l.held.entries;
  ordered : IsOrdered (slice_cmp nat_cmp) l.held;
  same : (p : Pattern) → has (values_of l.held.entries) p ≡ has (take l.pattern-index l.found) p;
  taken : AreTaken (take l.pattern-index l.found);
}
