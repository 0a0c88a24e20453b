use Rattle.std.proofs.Common.{◌≡◌, ◌+◌, ◌≤◌, length, map, take, reverse}
use Rattle.std.specs.Prelude.{◌&&◌, nat_le}
use Rattle.pj_grammar.specs.Words.{seen}
use Rattle.pj_properties.specs.Parentheses.{run, is_left}
use Rattle.pj_properties.proofs.parentheses.opened_last.Given as goal

abbrev pub invariant-loop-i : goal.invariant-loop-i
invariant-loop-i l = record {
  counted : l.count + run (λ t. is_left t.kind && nat_le l.from t.span.from) (reverse (map seen (take l.i l.tokens)))
      ≡ run (λ t. is_left t.kind && nat_le l.from t.span.from) (reverse (map seen l.tokens));
  few : l.count + l.i ≤ length l.tokens;
}
