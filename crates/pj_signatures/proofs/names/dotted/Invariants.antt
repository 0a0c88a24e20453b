use Rattle.std.proofs.Common.{◌≡◌, ◌++◌, true, length}
use Rattle.std.specs.Str.{IsUtf8}
use Rattle.pj_signatures.specs.Names.{dotted}
use Rattle.pj_signatures.proofs.Runs.{at_solidus}
use Rattle.pj_signatures.proofs.names.dotted.Given as goal

abbrev pub invariant-loop-after : goal.invariant-loop-after
invariant-loop-after l = record {
  value : l.made ++ dotted l.rest ≡ dotted l.text;
  utf8 : IsUtf8 l.rest;
  stops : at_solidus l.rest ≡ true;
}

abbrev pub decreases-loop-after : goal.decreases-loop-after
decreases-loop-after l = length l.rest
