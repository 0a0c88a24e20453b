use Rattle.std.proofs.Common.{length}
use denote.Text.{Utf8}
use denote.Shadow.{shadow}
use Rattle.pj_tree.specs.Runs.{AreMapped}
use Rattle.pj_tree.proofs.line_map.LineMap.new.Given as goal

abbrev pub invariant-loop-c : goal.invariant-loop-c
invariant-loop-c l = record { is_text : shadow (Utf8 l.rest); mapped : AreMapped l.text l.runs.items l.offset l.place l.rest }

abbrev pub decreases-loop-c : goal.decreases-loop-c
decreases-loop-c l = length l.rest
