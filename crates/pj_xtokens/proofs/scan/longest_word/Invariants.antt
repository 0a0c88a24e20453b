use Rattle.std.proofs.Common.{◌≡◌, length, None}
use denote.Shadow.{shadow}
use denote.Text.{Utf8}
use Rattle.std.specs.Str.{chars}
use Rattle.pj_xtokens.specs.Scanning.{scanned, seen}
use Rattle.pj_xtokens.specs.declared.state.State.TheVariants.{Start}
use Rattle.pj_xtokens.proofs.scan.longest_word.Given as goal

abbrev pub invariant-loop-c : goal.invariant-loop-c
invariant-loop-c l = record {
  is_text : shadow (Utf8 l.rest);
  same : scanned (chars l.text) Start None ≡ scanned (chars l.rest) l.state (seen l.found);
}

abbrev pub decreases-loop-c : goal.decreases-loop-c
decreases-loop-c l = length (chars l.rest)
